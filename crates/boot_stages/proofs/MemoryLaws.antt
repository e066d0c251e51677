-- The items of a run by its type, the end of memory by the memory table, and the items in three
-- parts.
use Rattle.std.proofs.Common.{◌≡◌, ◌≢◌, ℕ, ◌+◌, ◌^◌, ◌<◌, ◌≤◌, true, false, Some, List, [], ◌∷◌, ◌++◌, length, get_or, drop, map, Ok, refl, sym, ◌∙◌, ap, subst, arith}
use Rattle.std.specs.List.{All}
use Rattle.std.proofs.lemmas.Bool.Decides.{nat_tests}
use Rattle.std.proofs.lemmas.List.{append_assoc, at_drop_more}
use Rattle.bm_base.specs.Range.{RangeView}
use Rattle.address_runs.specs.Runs.{RunOf, AreRuns, IsRunsOf, range_of_run, run_end, value_at}
use Rattle.address_runs.specs.Edits.{IsEmptyFrom}
use Rattle.e820_model.specs.Usable.{is_memory}
use Rattle.memblock_model.specs.declared.owner.Which.TheVariants as which
use Rattle.memblock_model.specs.declared.owner.Owner.TheVariants as owner
use Rattle.memblock_model.specs.declared.item.Item.{Item}
use Rattle.memblock_model.specs.declared.item.Item.TheVariants as item
use Rattle.memblock_model.specs.Labels.{Labels}
use Rattle.memblock_model.specs.Items.{memory_of}
use Rattle.memblock_model.specs.Tables.{records_for, records_of}
use Rattle.memblock_model.proofs.TableLaws.{records_for-runs}
use Rattle.growth_model.specs.Requests.{carry_out_items}
use Rattle.growth_model.proofs.MemoryItemLaws.{memory_of-same}
use Rattle.growth_model.proofs.CarriedLaws.{carried-memory}
use Rattle.early_memory.specs.declared.low.TheConstants.{ISA_END_ADDRESS}
use Rattle.early_memory.specs.EarlyInputs.{EarlyInputs, FrameRange, bytes_of_frames}
use Rattle.early_memory.specs.Memory.{last_run_end_or, end_of_last_run, memory_end, mirrored_memory, usable_memory}
use Rattle.early_memory.specs.FirstItems.{direction_items, early_claims, early_items, items_of_map, items_of_run, mirror_items, part_below}
use Rattle.early_memory.proofs.EndLaws.{runs_end_memory}
use Rattle.early_memory.proofs.MemoryLaws.{mirrored-first}
use Rattle.boot_model.specs.Mirrors.{IsMirror, frame_range_of}
use Rattle.boot_model.proofs.MirrorLaws.{mirror-frames}
use Rattle.boot_stages.specs.Parts.{items_before_memory, limit_items, items_for_memory_of_map}

-- a run that firmware sets aside for a driver gives one item: a claim
pub soft_run : (limit : ℕ) (r : RunOf ℕ) → r.value ≡ 0xEFFFFFFF → items_of_run limit r ≡ item.Claim (range_of_run r) owner.Soft ∷ []
soft_run limit r is = grind (arith, nat_tests)

pub memory_run : (limit : ℕ) (r : RunOf ℕ) → r.value ≢ 0xEFFFFFFF → is_memory (Some r.value) ≡ true → r.base < limit
    → items_of_run limit r ≡ item.Mem (part_below limit r) ∷ []
memory_run limit r kind memory low = grind (arith, nat_tests, kind)

pub other_run : (limit : ℕ) (r : RunOf ℕ) → r.value ≢ 0xEFFFFFFF → is_memory (Some r.value) ≡ false → items_of_run limit r ≡ []
other_run limit r kind memory = grind (arith, nat_tests, kind)

pub high_run : (limit : ℕ) (r : RunOf ℕ) → r.value ≢ 0xEFFFFFFF → limit ≤ r.base → items_of_run limit r ≡ []
high_run limit r kind high = grind (arith, nat_tests, kind)

-- the end of a list's last run
pub end_last : {X : Type 0} (at : ℕ) (r : RunOf X) (rs : List (RunOf X)) (d : RunOf X)
    → last_run_end_or at (r ∷ rs) ≡ run_end (get_or (r ∷ rs) (length rs) d)
end_last at r [] d = refl
end_last at r (s ∷ ss) d = end_last (run_end r) s ss d

pub end_at : {X : Type 0} (rs : List (RunOf X)) (n : ℕ) (d : RunOf X) → length rs ≡ n + 1 → end_of_last_run rs ≡ run_end (get_or rs n d)
end_at [] n d long = absurd (omega arith)
end_at {X} (r ∷ rs) n d long =
    let same : length rs ≡ n = omega arith in
    end_last 0 r rs d ∙ ap (λ (k : ℕ). run_end (get_or (r ∷ rs) k d)) same

-- the three parts together are all items before nodes are known
pub in_parts : (e : EarlyInputs) (map : List (RunOf ℕ))
    → items_before_memory e ++ (items_for_memory_of_map e map ++ limit_items (memory_end e.limit (value_at map))) ≡ early_items e map
in_parts e map =
    let last : List Item = limit_items (memory_end e.limit (value_at map)) in
    append_assoc (early_claims e.kernel e.initrd) (item.Limit ISA_END_ADDRESS ∷ direction_items e.upward)
    (items_for_memory_of_map e map ++ last)
    ∙ ap (λ (t : List Item). early_claims e.kernel e.initrd ++ (item.Limit ISA_END_ADDRESS ∷ (direction_items e.upward ++ t)))
    (append_assoc (items_of_map e.limit map) (item.Trim ∷ mirror_items e.mirrors) last)

-- after the first two parts, memory is the usable frames, mirrored as the inputs say, so the memory
-- table ends where memory ends
pub mapped : (e : EarlyInputs) (map : List (RunOf ℕ)) (items : List Item) → AreRuns map
    → carry_out_items (items_before_memory e ++ items_for_memory_of_map e map) [] ≡ Ok items
    → memory_of items ≡ mirrored_memory e.mirrors (usable_memory e.limit (value_at map))
mapped e map items runs ends =
    memory_of-same items (items_before_memory e ++ items_for_memory_of_map e map)
    (carried-memory (items_before_memory e ++ items_for_memory_of_map e map) [] items ends)
    ∙ ap memory_of
    (append_assoc (early_claims e.kernel e.initrd) (item.Limit ISA_END_ADDRESS ∷ direction_items e.upward) (items_for_memory_of_map e map))
    ∙ (λ i x. mirrored-first e map runs x i)

pub table_end : (e : EarlyInputs) (map : List (RunOf ℕ)) (items : List Item) → AreRuns map
    → carry_out_items (items_before_memory e ++ items_for_memory_of_map e map) [] ≡ Ok items → IsEmptyFrom (2 ^ 64) (memory_of items)
    → end_of_last_run (records_of which.Memory items) ≡ memory_end e.limit (value_at map)
unfolding records_of
table_end e map items runs ends within =
    let are : IsRunsOf (memory_of items) (records_for (memory_of items)) = records_for-runs (memory_of items) within in
    let memory = mapped e map items runs ends in
    runs_end_memory e.limit (value_at map) e.mirrors (records_for (memory_of items)) (record {
      runs = are.runs;
      each = λ x. are.each x ∙ ap (λ (f : Labels). f x) memory;
    })

-- the items of two lists of mirrored ranges are those of the first, and then those of the second
pub mirrors-append : (first rest : List FrameRange) → mirror_items (first ++ rest) ≡ mirror_items first ++ mirror_items rest
mirrors-append [] rest = refl
mirrors-append (r ∷ rs) rest = ap (λ (is : List Item). item.Mirror (bytes_of_frames r) ∷ is) (mirrors-append rs rest)

pub mirrors_next : (rs : List RangeView) (i : ℕ) (r : RangeView) → i < length rs → r ≡ get_or rs i r → All IsMirror rs
    → mirror_items (map frame_range_of (drop i rs)) ≡ item.Mirror r ∷ mirror_items (map frame_range_of (drop (i + 1) rs))
mirrors_next rs i r low is whole =
    let rest : List Item = mirror_items (map frame_range_of (drop (i + 1) rs)) in
    let here : IsMirror r = subst IsMirror (sym is) (whole i r low) in
    at_drop_more (λ (xs : List RangeView). mirror_items (map frame_range_of xs)) rs i r low
    ∙ ap (λ (s : RangeView). item.Mirror (bytes_of_frames (frame_range_of s)) ∷ rest) (sym is)
    ∙ ap (λ (s : RangeView). item.Mirror s ∷ rest) (mirror-frames r here)

-- the items of the rest of a map begin with the items of its first run
pub map_next : (limit : ℕ) (rs : List (RunOf ℕ)) (i : ℕ) (r : RunOf ℕ) → i < length rs → r ≡ get_or rs i r
    → items_of_map limit (drop i rs) ≡ items_of_run limit r ++ items_of_map limit (drop (i + 1) rs)
map_next limit rs i r low is =
    at_drop_more (items_of_map limit) rs i r low
    ∙ ap (λ (s : RunOf ℕ). items_of_run limit s ++ items_of_map limit (drop (i + 1) rs)) (sym is)

pub runs_next : (rs : List (RunOf ℕ)) (i : ℕ) (r : RunOf ℕ) → i < length rs → AreRuns (drop i rs) → AreRuns (drop (i + 1) rs)
runs_next rs i r low runs = (subst AreRuns (at_drop_more (λ (xs : List (RunOf ℕ)). xs) rs i r low) runs).2
