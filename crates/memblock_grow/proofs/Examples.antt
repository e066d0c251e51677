-- Examples with small tables, computed: what is kept, where a table may move, and whether it is
-- full.
use Rattle.std.proofs.Common.{◌≡◌, ℕ, ◌+◌, ◌^◌, ◌<◌, ◌≤◌, ◌%◌, true, false, ◌||◌, Some, None, List, [], ◌∷◌, length, Err, refl, sym, ◌∙◌, ap, arith}
use Rattle.std.proofs.lemmas.Bool.{false_from_ne_true, true≢false}
use Rattle.std.proofs.Math.Bool.{or-false}
use Rattle.std.proofs.lemmas.Bool.Decides.{nat_tests}
use Rattle.bm_base.specs.Range.{RangeView, covers}
use Rattle.phys_store.specs.Bytes.{ExtentView, is_prepared_at}
use Rattle.address_runs.specs.Runs.{value_at}
use Rattle.memblock_model.specs.declared.owner.Which.TheVariants as which
use Rattle.memblock_model.specs.declared.owner.Owner.TheVariants as owner
use Rattle.memblock_model.specs.declared.query.Query.{Query}
use Rattle.memblock_model.specs.declared.item.Item.{Item}
use Rattle.memblock_model.specs.declared.item.Item.TheVariants as item
use Rattle.memblock_model.specs.Labels.{Labels, plain_label, with_mirror}
use Rattle.memblock_model.specs.Search.{is_allowed_mirror, fits_in}
use Rattle.memblock_model.proofs.SearchLaws.{IsLastBelow, fits_in-parts, fits_in-whole, best_place_in-last, best_place_in-fails, plain_or_none}
use Rattle.memblock_ranges.specs.Tables.{TablesView}
use Rattle.growth_model.specs.declared.refusal.Refusal.TheVariants as refusal
use Rattle.growth_model.specs.Growth.{table_query}
use Rattle.growth_model.specs.Bytes.{table_from_items}
use Rattle.growth_model.proofs.FirstLaws.{no_table_full, nothing_said}
use Rattle.memblock_grow.specs.declared.places.AllocSettings.{AllocSettings}
use Rattle.memblock_grow.specs.declared.new_records.MaxNewRecords.TheVariants as more
use Rattle.memblock_grow.specs.Invariant.{TablesMatchItems, IsMemblock, alloc_settings}
use Rattle.memblock_grow.specs.Prepared.{is_moved_over_by_table, Prepares, PreparesAsResult}
use Rattle.memblock_grow.specs.Places.{MirrorsComeFromItems, best_place_in_tables, frames_beside}
use Rattle.memblock_grow.specs.NewRecords.{HasRoomFor, RangeEndsBelow2To64}
use Rattle.memblock_grow.proofs.PlaceLaws.{best_place_in-large}

abbrev image : RangeView
image = record { base = 65536; size = 16384 }

-- both tables empty, in the last frames of the image
abbrev at_first : TablesView
at_first = record {
  memory = table_from_items which.Memory image [];
  reserved = table_from_items which.Reserved image [];
  store = [];
}

kept_at_first : TablesMatchItems image [] at_first (alloc_settings 0 false)
kept_at_first = record {
  memory = refl;
  reserved = refl;
  limit = refl;
  upward = refl;
  ends = λ w x le. nothing_said w x;
  fits = λ w. no_table_full w;
  far = λ w place moved. cc;
}

-- the limit is that of the items, and so is the search direction
kept_examples : (TablesMatchItems image [] at_first (alloc_settings 1 false) → ⊥)
    × (TablesMatchItems image [] at_first (alloc_settings 0 true) → ⊥)
kept_examples = (λ kept. let limit = kept.limit in cc, λ kept. let upward = kept.upward in cc)

-- an image of one frame is too small for two tables
memblock_examples : ((t : TablesView) (at : AllocSettings) → IsMemblock (record { base = 65536; size = 4096 }) [] t at → ⊥)
    × (IsMemblock image [] at_first (alloc_settings 1 false) → ⊥)
memblock_examples = (λ t at whole. let large = whole.image.large in omega arith, λ whole. kept_examples.0 whole.kept)

-- a growth to room for 256 records prepares two whole frames and no other address; a claim without
-- growth prepares nothing
abbrev a_growth : List Item
a_growth = item.Grown which.Reserved 8192 256 ∷ []

prepares_examples : ((bytes : List ℕ) → length bytes ≡ 8192 → Prepares [] a_growth [] (record { base = 8192; bytes = bytes } ∷ []))
    × ((t : List ExtentView) → Prepares [] a_growth [] t → is_prepared_at t 16384 ≡ false)
    × ((s t : List ExtentView) (x : ℕ) → Prepares [] (item.Claim image owner.Kernel ∷ []) s t → is_prepared_at t x ≡ is_prepared_at s x)
prepares_examples = (
  λ bytes long. record { more = a_growth; goes_on = refl; each = λ x. rw long (sym (or-false _)) },
  λ t p. p.each 16384 ∙ ap (λ (is : List Item). is_moved_over_by_table is 16384 || false) (sym p.goes_on),
  λ s t x p. p.each x ∙ ap (λ (is : List Item). is_moved_over_by_table is x || is_prepared_at s x) (sym p.goes_on),
)

-- after the error Memory, one place may be prepared that is in no item; after a refusal none is
by_examples : ((bytes : List ℕ) → length bytes ≡ 8192
    → PreparesAsResult {T = Unit {0}} (Err refusal.Memory) [] [] [] (record { base = 8192; bytes = bytes } ∷ []))
    × ((t : List ExtentView) → PreparesAsResult {T = Unit {0}} (Err (refusal.NoGapForTable which.Reserved 128)) [] [] [] t
    → is_prepared_at t 8192 ≡ false)
by_examples = (
  λ bytes long. (record { base = 8192; size = 8192 }, record { more = []; goes_on = refl; each = λ x. rw long refl }),
  λ t p. p.each 8192 ∙ ap (λ (is : List Item). is_moved_over_by_table is 8192 || false) (sym p.goes_on),
)

-- 64 KiB of memory, nothing claimed
abbrev plain : TablesView
plain = record {
  memory = record { records = record { base = 0; size = 65536; value = plain_label } ∷ []; place = 65536; room = 128 };
  reserved = record { records = []; place = 69632; room = 128 };
  store = [];
}

abbrev memory : Labels
memory = value_at plain.memory.records

abbrev reserved : Labels
reserved = value_at plain.reserved.records

-- no memory of it is mirrored
none_mirrored : (x : ℕ) → is_allowed_mirror true (value_at plain.memory.records x) ≡ false
none_mirrored x = plain_or_none (covers (record { base = 0; size = 65536 }) x)

-- a table with mirrored memory needs an item that mirrors memory
abbrev mirrored : TablesView
mirrored = record plain {
  memory = record plain.memory { records = record { base = 0; size = 65536; value = with_mirror plain_label } ∷ [] };
}

mirror_examples : ((items : List Item) → MirrorsComeFromItems items plain) × (MirrorsComeFromItems [] mirrored → ⊥)
    × MirrorsComeFromItems (item.Mirror (record { base = 0; size = 65536 }) ∷ []) mirrored
mirror_examples = (λ items none. none_mirrored, λ knows. true≢false (knows refl 5), λ none. absurd (true≢false none))

-- the highest place that is aligned and in the window is the last one that fits
last_at : (q : Query) (a : ℕ) → a % q.align ≡ 0 → q.lo ≤ a → 4096 ≤ a → a + q.size ≤ q.hi → a + q.size ≤ 65536 → 0 < q.size
    → q.node ≡ None → ((b : ℕ) → b % q.align ≡ 0 → b + q.size ≤ q.hi → b ≤ a)
    → IsLastBelow (fits_in false memory reserved q) (2 ^ 64) a
last_at q a aligned low first high within some node last = record {
  below = omega arith;
  passes = fits_in-whole false memory reserved q a (record {
    aligned = aligned;
    low = low;
    first = first;
    high = high;
    held = grind (arith, nat_tests);
    allowed = rw node refl;
    suited = refl;
    label = λ x from under. grind (arith, nat_tests);
    free = λ x from under. refl;
  });
  last = λ b lt h. let known = fits_in-parts false memory reserved q b h in last b known.aligned known.high;
}

-- two frames for 256 records
best_frames : best_place_in_tables plain false (table_query 128 0 61440) ≡ Some 53248
best_frames = best_place_in-last memory reserved (table_query 128 0 61440) 53248 none_mirrored (last_at (table_query 128 0 61440) 53248 refl
    (omega arith) (omega arith) (omega arith) (omega arith) (omega arith) refl (λ b aligned high. omega arith))

-- above the last frame of memory there is no place, so it is below
none_above : best_place_in_tables plain false (table_query 128 65536 65536) ≡ None
none_above = best_place_in-fails false memory reserved (table_query 128 65536 65536) (λ b lt.
    false_from_ne_true (fits_in false memory reserved (table_query 128 65536 65536) b) (λ fits.
    let known = fits_in-parts false memory reserved (table_query 128 65536 65536) b fits in
    let low = known.low in let high = known.high in omega (arith, low, high)))

-- the place is below the limit too
beside_examples : (frames_beside plain (alloc_settings 65536 false) 128 (record { base = 61440; size = 4096 })
    ≡ Some (record { base = 53248; size = 8192 }))
    × (frames_beside plain (alloc_settings 8191 false) 128 (record { base = 61440; size = 4096 }) ≡ None)
beside_examples = (
  rw (none_above, best_frames) refl,
  rw (
    best_place_in-large false memory reserved (table_query 128 65536 8191) (omega arith),
    best_place_in-large false memory reserved (table_query 128 0 8191) (omega arith),
  ) refl,
)

room_for_two : HasRoomFor more.Two (record { records = []; place = 0; room = 2 })
    × (HasRoomFor more.Two (record { records = []; place = 0; room = 1 }) → ⊥)
room_for_two = (omega arith, λ has. omega arith)

ends_in_space : RangeEndsBelow2To64 (more.PiecesOf (record { base = 5; size = 1 }))
    × (RangeEndsBelow2To64 (more.PiecesOf (record { base = 5; size = 2 ^ 64 })) → ⊥)
ends_in_space = (omega arith, λ ends. omega arith)
