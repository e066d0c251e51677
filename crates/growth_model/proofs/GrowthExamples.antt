-- Examples of small changes, computed: the items of each step, the growth that is refused, the
-- searches of an allocation, and the ends of calls.
use Rattle.std.proofs.Common.{◌≡◌, ℕ, ◌+◌, ◌*◌, ◌%◌, ◌^◌, ◌≤◌, Bool, true, false, Option, Some, None, List, [], ◌∷◌, ◌++◌, length, take, Ok, Err, refl, sym, ap, arith}
use Rattle.std.proofs.lemmas.Bool.{false_from_ne_true}
use Rattle.std.proofs.lemmas.Bool.Decides.{nat_tests}
use Rattle.bm_base.specs.Range.{RangeView, end_of, covers}
use Rattle.address_runs.specs.Runs.{RunOf}
use Rattle.address_runs.specs.Edits.{IsEmptyFrom}
use Rattle.memblock_model.specs.declared.owner.Which.{Which}
use Rattle.memblock_model.specs.declared.owner.Which.TheVariants as which
use Rattle.memblock_model.specs.declared.owner.Owner.{Owner}
use Rattle.memblock_model.specs.declared.owner.Owner.TheVariants as owner
use Rattle.memblock_model.specs.declared.item.Item.{Item}
use Rattle.memblock_model.specs.declared.item.Item.TheVariants as item
use Rattle.memblock_model.specs.Labels.{LabelView, plain_label}
use Rattle.memblock_model.specs.Items.{owner_of}
use Rattle.memblock_model.specs.Tables.{table_of, records_of, room_of, table_bytes}
use Rattle.memblock_model.specs.declared.query.Query.{Query}
use Rattle.memblock_model.specs.Search.{is_allowed_mirror, fits_in, top_place, best_place}
use Rattle.memblock_model.proofs.SearchLaws.{IsLastBelow, fits_in-parts, fits_in-whole, outermost_fit-last, outermost_fit-mirrorless, best_place_in-last, best_place_in-fails, plain_or_none}
use Rattle.memblock_model.proofs.TableLaws.{records_for-is}
use Rattle.memblock_ranges.proofs.CountLaws.{few-pieces}
use Rattle.growth_model.specs.declared.refusal.Refusal.TheVariants as refusal
use Rattle.memblock_model.specs.declared.query.Request.{Request}
use Rattle.growth_model.specs.Change.{ChangeEffect, items_of_steps, write_items, write_item, refuse_growth}
use Rattle.growth_model.specs.Growth.{round_up_to_frames, frames_for_bytes, record_count, table_query, place_beside_range, reserved_growth_items, reserved_growth_at, reserved_growth, is_full, count_uncovered_pieces, max_records_added_by_split, claim_range, free_range, memory_growth_at, memory_growth}
use Rattle.growth_model.specs.Request.{Attempt, attempt, attempts_from, attempts, first_found_place}
use Rattle.growth_model.specs.Ends.{WritesFirstSteps, StopsBeforeStep, EndsAsEffect, EndsAsChange, Allocates}
use Rattle.growth_model.proofs.FirstLaws.{no_records}
use Rattle.growth_model.proofs.IdleLaws.{claim_range-idle}

-- 256 KiB of memory; the kernel's image has four frames from 64 KiB on
abbrev pub image : RangeView
image = record { base = 65536; size = 16384 }

abbrev pub small : List Item
small = item.Mem (record { base = 0; size = 262144 }) ∷ (item.Claim image owner.Kernel ∷ (item.Limit 262144 ∷ []))

abbrev pub frame : ℕ → RangeView
frame n = record { base = 4096 * n; size = 4096 }

-- two steps, and one with a refusal
abbrev two_steps : ChangeEffect
two_steps = record { steps = (item.Trim ∷ (item.Limit 5 ∷ [])) ∷ ((item.Limit 7 ∷ []) ∷ []); refused = None }

abbrev stopped : ChangeEffect
stopped = record { steps = (item.Trim ∷ []) ∷ []; refused = Some (record { which = which.Memory; room = 128 }) }

-- whole frames: for one byte, for a frame and a half, for a frame
whole_frames_examples : (round_up_to_frames 1 ≡ 4096) × (round_up_to_frames 6144 ≡ 8192) × (round_up_to_frames 4096 ≡ 4096)
whole_frames_examples = (refl, refl, refl)

-- none of the small memory is mirrored
small_is_plain : (x : ℕ) → is_allowed_mirror true (table_of which.Memory small x) ≡ false
small_is_plain x = plain_or_none (covers (record { base = 0; size = 262144 }) x)

-- the last place in a window of the small memory
window_last : (lo hi a : ℕ) → a + 8192 ≡ hi → hi ≤ 262144 → a % 4096 ≡ 0 → 81920 ≤ a → lo ≤ a
    → IsLastBelow (fits_in false (table_of which.Memory small) (table_of which.Reserved small) (table_query 128 lo hi)) (2 ^ 64) a
window_last lo hi a ends within aligned above low = record {
  below = omega arith;
  passes = fits_in-whole false (table_of which.Memory small) (table_of which.Reserved small) (table_query 128 lo hi) a (record {
    aligned = aligned;
    low = low;
    first = omega arith;
    high = omega arith;
    held = grind (arith, nat_tests);
    allowed = refl;
    suited = refl;
    label = λ x from under. grind (arith, nat_tests);
    free = λ x from under. grind (arith, nat_tests);
  });
  last = λ b lt h.
      let known = fits_in-parts false (table_of which.Memory small) (table_of which.Reserved small) (table_query 128 lo hi) b h in
      let high = known.high in
      omega arith;
}

-- it is the best place, and the one that a search of any memory finds; a search of mirrored memory
-- finds none
window_place : (lo hi a : ℕ) → a + 8192 ≡ hi → hi ≤ 262144 → a % 4096 ≡ 0 → 81920 ≤ a → lo ≤ a
    → best_place small (table_query 128 lo hi) ≡ Some a
unfolding best_place
window_place lo hi a ends within aligned above low =
    best_place_in-last (table_of which.Memory small) (table_of which.Reserved small) (table_query 128 lo hi) a small_is_plain
    (window_last lo hi a ends within aligned above low)

window_top : (lo hi a : ℕ) → a + 8192 ≡ hi → hi ≤ 262144 → a % 4096 ≡ 0 → 81920 ≤ a → lo ≤ a
    → top_place small (table_query 128 lo hi) false ≡ Some a
unfolding top_place
window_top lo hi a ends within aligned above low =
    outermost_fit-last false (table_of which.Memory small) (table_of which.Reserved small) (table_query 128 lo hi) a
    (window_last lo hi a ends within aligned above low)

nothing_mirrored : (q : Query) → top_place small q true ≡ None
unfolding top_place
nothing_mirrored q = outermost_fit-mirrorless false (table_of which.Memory small) (table_of which.Reserved small) q small_is_plain

-- if no address is in the window, nothing fits
none_fits : (mirror : Bool) (items : List Item) (q : Query) → ((a : ℕ) → q.lo ≤ a → 4096 ≤ a → a + q.size ≤ q.hi → ⊥) → (a : ℕ)
    → fits_in mirror (table_of which.Memory items) (table_of which.Reserved items) q a ≡ false
none_fits mirror items q never a = false_from_ne_true _ (λ fits.
    let known = fits_in-parts mirror (table_of which.Memory items) (table_of which.Reserved items) q a fits in
    never a known.low known.first known.high)

no_window : (lo hi : ℕ) → hi ≤ lo → best_place small (table_query 128 lo hi) ≡ None
unfolding best_place
no_window lo hi none =
    best_place_in-fails false (table_of which.Memory small) (table_of which.Reserved small) (table_query 128 lo hi)
    (λ b lt. none_fits false small (table_query 128 lo hi) (λ a low first high. omega arith) b)

-- above the frame at 128 KiB there is room; above the last 64 KiB there is none, but below them
-- there is
above_place : place_beside_range (frame 32) 128 small ≡ Some 253952
above_place = rw (window_place 135168 262144 253952 refl (omega arith) refl (omega arith) (omega arith)) refl

below_place : place_beside_range (record { base = 196608; size = 65536 }) 128 small ≡ Some 188416
below_place = rw (no_window 262144 262144 (omega arith)) (window_place 0 196608 188416 refl (omega arith) refl (omega arith) (omega arith))

-- a table that has never moved frees no old place
first_move : reserved_growth_items 128 None 253952
    ≡ item.Grown which.Reserved 253952 256 ∷ (item.Claim (record { base = 253952; size = 8192 }) (owner.Table which.Reserved) ∷ [])
unfolding reserved_growth_items
first_move = refl

-- the table at 248 KiB moves to 128 KiB: it claims its new place before it frees the old one, and
-- finally has only the new one
abbrev moving : ℕ → List Item
moving written = small ++ (reserved_growth_items 128 None 253952 ++ take written (reserved_growth_items 256 (Some 253952) 131072))

abbrev the_tables : Option Owner
the_tables = Some (owner.Table which.Reserved)

claimed_before_the_old_place_is_free : (owner_of (moving 1) 131072 ≡ None) × (owner_of (moving 2) 131072 ≡ the_tables)
    × (owner_of (moving 2) 253952 ≡ the_tables) × (owner_of (moving 3) 253952 ≡ None)
    × (owner_of (moving 3) 143359 ≡ the_tables) × (owner_of (moving 3) 143360 ≡ None)
unfolding reserved_growth_items
claimed_before_the_old_place_is_free = (refl, refl, refl, refl, refl, refl)

moved_with_all_its_room : (table_bytes which.Reserved image (moving 0) ≡ record { base = 253952; size = 24 * 256 })
    × (table_bytes which.Reserved image (moving 3) ≡ record { base = 131072; size = 24 * 512 })
unfolding reserved_growth_items
moved_with_all_its_room = (refl, refl)

growth_above : reserved_growth (frame 32) small ≡ write_items (reserved_growth_items 128 None 253952) small
unfolding reserved_growth reserved_growth_at
growth_above = rw above_place refl

growth_below : reserved_growth (record { base = 196608; size = 65536 }) small ≡ write_items (reserved_growth_items 128 None 188416) small
unfolding reserved_growth reserved_growth_at
growth_below = rw below_place refl

-- the small memory has one record in the reserved table
abbrev reserved_records : List (RunOf LabelView)
reserved_records = record { base = 65536; size = 16384; value = plain_label } ∷ []

reserved_ends : IsEmptyFrom (2 ^ 64) (table_of which.Reserved small)
reserved_ends x le = grind (arith, nat_tests)

reserved_count : record_count which.Reserved small ≡ 1
unfolding records_of
reserved_count = ap length (sym (records_for-is (table_of which.Reserved small) reserved_records reserved_ends
    (record { runs = (omega arith, tt, tt); each = λ x. grind (arith, nat_tests) })))

none_at_first : record_count which.Memory [] ≡ 0
unfolding records_of
none_at_first = no_records (table_of which.Memory []) (λ x. refl)

-- an edit adds at most two pieces, so no table is full
new_has_room : (w : Which) (r : RangeView) → end_of r ≤ 2 ^ 64 → IsEmptyFrom (2 ^ 64) (table_of w small) → record_count w small ≡ 1
    → is_full w (count_uncovered_pieces w r) small ≡ false
unfolding records_of
new_has_room w r small_enough ends one = let few = few-pieces r (table_of w small) small_enough ends in grind (arith, nat_tests, one, few)

claim_has_room : is_full which.Reserved (count_uncovered_pieces which.Reserved (frame 32)) small ≡ false
claim_has_room = new_has_room which.Reserved (frame 32) (omega arith) reserved_ends reserved_count

-- if there is room, only the item is written
a_claim : claim_range (frame 32) owner.Soft small ≡ write_item (item.Claim (frame 32) owner.Soft) small
a_claim = claim_range-idle small (frame 32) owner.Soft claim_has_room

-- a free may add two records: if 127 of 128 are used, the table grows first, and without a place
-- the free is refused
free_after_127 : (range : RangeView) (items : List Item) → record_count which.Reserved items ≡ 127 → room_of which.Reserved items ≡ 128
    → place_beside_range range 128 items ≡ None → free_range range items ≡ refuse_growth which.Reserved 128 items
unfolding free_range reserved_growth reserved_growth_at
free_after_127 range items many room none =
    let full : is_full which.Reserved max_records_added_by_split items ≡ true = grind (arith, nat_tests, many, room) in
    rw (full, room, none) refl

-- the growth of the memory table: the claim of its new place, and the move
place_claimed : claim_range (frames_for_bytes 253952 6144) (owner.Table which.Memory) small
    ≡ write_item (item.Claim (record { base = 253952; size = 8192 }) (owner.Table which.Memory)) small
place_claimed = claim_range-idle small (frames_for_bytes 253952 6144) (owner.Table which.Memory)
    (new_has_room which.Reserved (frames_for_bytes 253952 6144) (omega arith) reserved_ends reserved_count)

abbrev first_growth : ChangeEffect
first_growth = record {
  steps = (item.Claim (record { base = 253952; size = 8192 }) (owner.Table which.Memory) ∷ [])
      ∷ ((item.Grown which.Memory 253952 256 ∷ []) ∷ []);
  refused = None;
}

place_taken : memory_growth_at 128 None (Some 253952) small ≡ first_growth
unfolding memory_growth_at
place_taken = rw place_claimed refl

memory_grows : memory_growth small ≡ first_growth
unfolding memory_growth
memory_grows = rw (window_place 0 262144 253952 refl (omega arith) refl (omega arith) (omega arith)) place_taken

without_memory : memory_growth [] ≡ refuse_growth which.Memory 128 []
unfolding memory_growth memory_growth_at best_place
without_memory = ap (λ (o : Option ℕ). memory_growth_at 128 None o [])
    (best_place_in-fails false (table_of which.Memory []) (table_of which.Reserved []) (table_query 128 0 0)
    (λ b lt. none_fits false [] (table_query 128 0 0) (λ a low first high. omega arith) b))

-- the searches of an allocation of one frame: from 128 KiB on if possible, on node 1 if possible
abbrev a_frame : Request
a_frame = record { size = 4096; align = 4096; min = 0; max = None; node = None; exact = false }

abbrev from_the_middle : Request
from_the_middle = record { size = 4096; align = 8192; min = 131072; max = Some 196608; node = Some 1; exact = false }

abbrev of_node_one : Request
of_node_one = record from_the_middle { exact = true }

-- the window ends at the limit, or at the request's maximum; in mirrored memory, or in any
attempt_examples : ((attempt a_frame 262144 0 false None).query ≡ record { lo = 0; hi = 262144; size = 4096; align = 4096; node = None })
    × ((attempt from_the_middle 262144 131072 true (Some 1)).query
    ≡ record { lo = 131072; hi = 196608; size = 4096; align = 8192; node = Some 1 })
    × ((attempt a_frame 262144 0 true None).mirror ≡ true) × ((attempt a_frame 262144 0 false None).mirror ≡ false)
attempt_examples = (refl, refl, refl, refl)

-- mirrored memory of any node comes before other memory of the node
a_round_of_four : attempts_from from_the_middle 262144 131072
    ≡ attempt from_the_middle 262144 131072 true (Some 1) ∷ (attempt from_the_middle 262144 131072 true None
    ∷ (attempt from_the_middle 262144 131072 false (Some 1) ∷ (attempt from_the_middle 262144 131072 false None ∷ [])))
a_round_of_four = refl

-- the searches from the minimum on come first, then those from 0 on; without a minimum there is
-- one round
attempts_examples : (attempts of_node_one 262144
    ≡ attempt of_node_one 262144 131072 true (Some 1) ∷ (attempt of_node_one 262144 131072 false (Some 1)
    ∷ (attempt of_node_one 262144 0 true (Some 1) ∷ (attempt of_node_one 262144 0 false (Some 1) ∷ []))))
    × (attempts a_frame 262144 ≡ attempt a_frame 262144 0 true None ∷ (attempt a_frame 262144 0 false None ∷ []))
attempts_examples = (refl, refl)

abbrev any_memory : Query → Attempt
any_memory q = record { query = q; mirror = false }

abbrev mirrored_memory : Query → Attempt
mirrored_memory q = record { query = q; mirror = true }

-- nothing is mirrored, so the search of any memory finds the place
second_search : first_found_place small (mirrored_memory (table_query 128 0 262144) ∷ (any_memory (table_query 128 0 262144) ∷ []))
    ≡ Some 253952
second_search =
    rw (nothing_mirrored (table_query 128 0 262144), window_top 0 262144 253952 refl (omega arith) refl (omega arith) (omega arith)) refl

-- ends of calls: after all steps, after one of two, and after none
all_of_two : WritesFirstSteps [] (items_of_steps two_steps.steps) two_steps.steps
all_of_two = record { count = 2; within = omega arith; stands = refl }

one_of_two : StopsBeforeStep [] (item.Trim ∷ (item.Limit 5 ∷ [])) two_steps.steps
one_of_two = record { count = 1; short = omega arith; stands = refl }

-- a call that succeeds, and one that is refused; NoGap is never returned
ends_by_examples : (EndsAsEffect {T = ℕ} (Ok 3) [] (item.Trim ∷ (item.Limit 5 ∷ (item.Limit 7 ∷ []))) two_steps)
    × (EndsAsEffect {T = ℕ} (Err (refusal.NoGapForTable which.Memory 128)) [] (item.Trim ∷ []) stopped)
    × (EndsAsEffect {T = ℕ} (Err refusal.NoGap) [] [] two_steps → ⊥)
ends_by_examples = ((refl, refl), (refl, refl), λ h. h)

-- all of a change is written, or the program was out of memory before any of it
ends_examples : (EndsAsChange {T = ℕ} (Ok 3) small (small ++ item.Trim ∷ []) (write_item item.Trim))
    × (EndsAsChange {T = ℕ} (Err refusal.Memory) small small (write_item item.Trim))
ends_examples = ((refl, refl), record { count = 0; short = omega arith; stands = refl })

no_gap : Allocates (Err refusal.NoGap) small small None 4096 owner.Soft
no_gap = (refl, refl)

a_gap : Allocates (Ok 131072) small (small ++ item.Claim (frame 32) owner.Soft ∷ []) (Some 131072) 4096 owner.Soft
a_gap = (refl, rw a_claim (refl, refl))

-- the place that was found is returned, and no other
another_place : Allocates (Ok 4096) small (small ++ item.Claim (frame 32) owner.Soft ∷ []) (Some 131072) 4096 owner.Soft → ⊥
another_place ends = let wrong : 4096 ≡ 131072 = ends.0 in omega (arith, wrong)
