-- Lemmas on the runs of a canonical list. Each is a whole run, a look-up finds the run that has a
-- frame, and the blocks of all runs are the blocks of all free frames.
use Rattle.std.proofs.Common.{◌≡◌, ℕ, zero, suc, ◌+◌, ◌-◌, ◌%◌, ◌^◌, ◌<◌, ◌≤◌, Some, None, List, [], ◌∷◌, ◌++◌, length, get_or, drop, refl, sym, ◌∙◌, ap, subst, inl, inr, le_of_suc-le-suc, lt_of_not-le, arith, append_assoc, drop-cons}
use Rattle.std.proofs.lemmas.Bool.{cases_lt}
use Rattle.std.proofs.lemmas.List.{at_drop_all, at_drop_more}
use Rattle.bm_base.specs.Zones.{zone_of}
use Rattle.address_runs.specs.Runs.{RunOf, run_end, value_at, AreRuns}
use Rattle.address_runs.specs.Sweep.{StartAtOrPast, FirstEndsPast, IsRestFrom}
use Rattle.address_runs.specs.Edits.{IsEmptyFrom}
use Rattle.address_runs.proofs.RunsLaws.{inside, past_end, none_below, rest_from, another_value_at_run_end, start_zero}
use Rattle.buddy_blocks.specs.declared.block.Block.{Block}
use Rattle.buddy_blocks.specs.Frames.{Frames}
use Rattle.buddy_blocks.specs.BlockList.{block_of, block_for, block_around, blocks_from, blocks_of}
use Rattle.buddy_blocks.specs.declared.run.TheConstants.{MAX_FRAMES}
use Rattle.buddy_blocks.specs.Sets.{IsWholeNodeRun, SetFits, IsGreatestFittingOrder}
use Rattle.buddy_blocks.proofs.ListLaws.{from-append, from-none, not_first-bare}
use Rattle.buddy_blocks.proofs.RunLaws.{found}

pub value_after : (r : RunOf ℕ) (rs : List (RunOf ℕ)) (x : ℕ) → run_end r ≤ x → value_at (r ∷ rs) x ≡ value_at rs x
value_after r rs x h = rw (past_end r x h) refl

pub value_inside : (r : RunOf ℕ) (rs : List (RunOf ℕ)) (x : ℕ) → r.base ≤ x → x < run_end r → value_at (r ∷ rs) x ≡ Some r.value
value_inside r rs x above below = rw (inside r x above below) refl

pub some_size : (rs : List (RunOf ℕ)) (i : ℕ) (d : RunOf ℕ) → AreRuns rs → i < length rs → 0 < (get_or rs i d).size
some_size [] i d runs few = absurd (omega arith)
some_size (r ∷ rs) zero d runs few = runs.0
some_size (r ∷ rs) (suc i) d runs few = some_size rs i d runs.2 (omega arith)

all_start : (at : ℕ) (rs : List (RunOf ℕ)) (i : ℕ) (d : RunOf ℕ) → AreRuns rs → StartAtOrPast at rs → i < length rs
    → at ≤ (get_or rs i d).base
all_start at [] i d runs start few = absurd (omega arith)
all_start at (r ∷ rs) zero d runs start few = start
all_start at (r ∷ rs) (suc i) d runs start few =
    omega (arith, all_start (run_end r) rs i d runs.2 (rest_from r rs runs) (omega arith), start)

-- each run of the list is a whole run of the list's values
pub run_of_list : (rs : List (RunOf ℕ)) (i : ℕ) (d : RunOf ℕ) → AreRuns rs → i < length rs
    → IsWholeNodeRun (value_at rs) (get_or rs i d).base (run_end (get_or rs i d)) (get_or rs i d).value
run_of_list [] i d runs few = absurd (omega arith)
run_of_list (r ∷ rs) zero d runs few = record {
  inside = λ x above below. value_inside r rs x above below;
  before = λ x next same. absurd (cc (sym same ∙ none_below r.base x (r ∷ rs) runs (omega arith) (omega arith)));
  after = λ same. another_value_at_run_end r rs runs (sym (value_after r rs (run_end r) (omega arith)) ∙ same);
}
run_of_list (q ∷ rs) (suc i) d runs few =
    let r : RunOf ℕ = get_or rs i d in
    let rest : IsWholeNodeRun (value_at rs) r.base (run_end r) r.value = run_of_list rs i d runs.2 (omega arith) in
    let some : 0 < r.size = some_size rs i d runs.2 (omega arith) in
    let after : run_end q ≤ r.base = all_start (run_end q) rs i d runs.2 (rest_from q rs runs) (omega arith) in
    record {
      inside = λ x above below. value_after q rs x (omega arith) ∙ rest.inside x above below;
      before = λ x next same. elim (cases_lt x (run_end q)) as (λ _. ⊥) [
        | inl lt ↦
            let touch : run_end q ≡ r.base = omega arith in
            let first : value_at rs r.base ≡ Some r.value = rest.inside r.base (omega arith) (omega arith) in
            let last : value_at (q ∷ rs) x ≡ Some q.value = value_inside q rs x (omega (arith, runs.0)) lt in
            another_value_at_run_end q rs runs (ap (value_at rs) touch ∙ first ∙ sym same ∙ last)
        | inr ge ↦ rest.before x next (sym (value_after q rs x ge) ∙ same)
      ];
      after = λ same. rest.after (sym (value_after q rs (run_end r) (omega arith)) ∙ same);
    }

-- the run that a look-up finds has the frame if it begins at or below it; else no run has the
-- frame
pub looked_up : (rs : List (RunOf ℕ)) (i x : ℕ) (d : RunOf ℕ) → i < length rs → IsRestFrom (value_at rs) x (drop i rs)
    → x < run_end (get_or rs i d)
looked_up rs i x d few rest = subst (λ (ss : List (RunOf ℕ)). FirstEndsPast x ss) (drop-cons rs i d few) rest.ends

pub begins_later : (rs : List (RunOf ℕ)) (i x : ℕ) (d : RunOf ℕ) → i < length rs → IsRestFrom (value_at rs) x (drop i rs)
    → x < (get_or rs i d).base → None ≡ block_of (value_at rs) x
begins_later rs i x d few rest later =
    let r : RunOf ℕ = get_or rs i d in
    let left : IsRestFrom (value_at rs) x (r ∷ drop (suc i) rs) = rw (drop-cons rs i d few) at rest in
    let none : value_at rs x ≡ None =
    sym (left.each x (omega arith)) ∙ none_below r.base x (r ∷ drop (suc i) rs) left.runs (omega arith) later in
    sym (ap (block_for (value_at rs) x) none)

pub found_block : (rs : List (RunOf ℕ)) (i x o s : ℕ) (d : RunOf ℕ) → AreRuns rs → i < length rs → (get_or rs i d).base ≤ x
    → x < run_end (get_or rs i d) → o ≤ 10 → s ≡ 2 ^ o → SetFits (get_or rs i d).base (run_end (get_or rs i d)) x s
    → IsGreatestFittingOrder (get_or rs i d).base (run_end (get_or rs i d)) x o
    → Some (record { order = o; first = x - x % s; node = (get_or rs i d).value; zone = zone_of (x - x % s) }) ≡ block_of (value_at rs) x
found_block rs i x o s d runs few above below small size fits greatest =
    let r : RunOf ℕ = get_or rs i d in
    let run : IsWholeNodeRun (value_at rs) r.base (run_end r) r.value = run_of_list rs i d runs few in
    let is : value_at rs x ≡ Some r.value = run.inside x above below in
    let order = found (value_at rs) r.base (run_end r) r.value o x run above below small
    (subst (λ (t : ℕ). SetFits r.base (run_end r) x t) size fits) greatest in
    sym (ap (block_for (value_at rs) x) is ∙ ap (λ p. Some (block_around p x r.value)) order
    ∙ ap (λ t. let made : Block = record { order = o; first = x - x % t; node = r.value; zone = zone_of (x - x % t) } in Some made)
    (sym size))

-- the blocks of the runs, one run after another
pub listed : Frames → List (RunOf ℕ) → List Block
listed f [] = []
listed f (r ∷ rs) = blocks_from f r.base r.size ++ listed f rs

nothing_after : (b : ℕ) (r : RunOf ℕ) (rs : List (RunOf ℕ)) → AreRuns (r ∷ rs) → IsEmptyFrom b (value_at (r ∷ rs))
    → (run_end r ≤ b) × IsEmptyFrom b (value_at rs)
nothing_after b r rs runs none =
    let some : 0 < r.size = runs.0 in
    let low : run_end r ≤ b = le_of_suc-le-suc (lt_of_not-le (λ lt.
    let last : value_at (r ∷ rs) (run_end r - 1) ≡ Some r.value = value_inside r rs (run_end r - 1) (omega arith) (omega arith) in
    cc (sym last ∙ none (run_end r - 1) (omega arith)))) in (low, λ x high. sym (value_after r rs x (omega arith)) ∙ none x high)

-- the blocks of the runs are the blocks of all free frames
listed_from : (f : Frames) (b at : ℕ) (rs : List (RunOf ℕ)) → AreRuns rs → StartAtOrPast at rs → IsEmptyFrom b (value_at rs) → at ≤ b
    → ((x : ℕ) → at ≤ x → f x ≡ value_at rs x) → blocks_from f at (b - at) ≡ listed f rs
unfolding listed
listed_from f b at [] runs start none low same =
    from-none f at (b - at) (λ y above below. not_first-bare f y (same y above))
listed_from f b at (r ∷ rs) runs start none low same =
    let ends = nothing_after b r rs runs none in
    let gap : ℕ = r.base - at in
    let left : ℕ = b - run_end r in
    let parts : b - at ≡ gap + (r.size + left) = omega (arith, ends.0) in
    let there : at + gap ≡ r.base = omega arith in
    let bare : blocks_from f at gap ≡ [] =
    from-none f at gap (λ y above below. not_first-bare f y (same y above
    ∙ none_below r.base y (r ∷ rs) runs (omega arith) (omega arith))) in
    let rest : blocks_from f (run_end r) left ≡ listed f rs =
    listed_from f b (run_end r) rs runs.2 (rest_from r rs runs) ends.1 ends.0
    (λ x above. same x (omega arith) ∙ value_after r rs x above) in
    ap (λ n. blocks_from f at n) parts ∙ from-append f at gap (r.size + left)
    ∙ ap (λ (bs : List Block). bs ++ blocks_from f (at + gap) (r.size + left)) bare
    ∙ ap (λ y. blocks_from f y (r.size + left)) there ∙ from-append f r.base r.size left
    ∙ ap (λ (bs : List Block). blocks_from f r.base r.size ++ bs) rest

pub listed_all : (rs : List (RunOf ℕ)) → AreRuns rs → IsEmptyFrom MAX_FRAMES (value_at rs)
    → listed (value_at rs) rs ≡ blocks_of (value_at rs)
unfolding blocks_of
listed_all rs runs none =
    let all : MAX_FRAMES - 0 ≡ MAX_FRAMES = omega arith in
    sym (ap (λ n. blocks_from (value_at rs) 0 n) (sym all)
    ∙ listed_from (value_at rs) MAX_FRAMES 0 rs runs (start_zero rs) none (omega arith) (λ x above. refl))

-- the blocks of one run, followed by those of the runs after it
pub listed_more : (f : Frames) (rs : List (RunOf ℕ)) (i : ℕ) (d : RunOf ℕ) → i < length rs
    → listed f (drop i rs) ≡ blocks_from f (get_or rs i d).base (get_or rs i d).size ++ listed f (drop (i + 1) rs)
unfolding listed
listed_more f rs i d few = at_drop_more (listed f) rs i d few

pub listed_none : (f : Frames) (rs : List (RunOf ℕ)) (i : ℕ) → length rs ≤ i → listed f (drop i rs) ≡ []
unfolding listed
listed_none f rs i all = at_drop_all (listed f) rs i all

-- the block of a frame is found in the run that the code has looked up
pub found_at : (rs : List (RunOf ℕ)) (i x o s : ℕ) (d r : RunOf ℕ) → r ≡ get_or rs i d → AreRuns rs → i < length rs → r.base ≤ x
    → IsRestFrom (value_at rs) x (drop i rs) → o ≤ 10 → s ≡ 2 ^ o → SetFits r.base (run_end r) x s
    → IsGreatestFittingOrder r.base (run_end r) x o
    → Some (record { order = o; first = x - x % s; node = r.value; zone = zone_of (x - x % s) }) ≡ block_of (value_at rs) x
found_at rs i x o s d r is runs few above rest small size fits greatest =
    rw is (found_block rs i x o s d runs few (rw is at above) (looked_up rs i x d few rest) small size (rw is at fits) (rw is at greatest))

pub begins_later_at : (rs : List (RunOf ℕ)) (i x : ℕ) (d r : RunOf ℕ) → r ≡ get_or rs i d → i < length rs
    → IsRestFrom (value_at rs) x (drop i rs) → x < r.base → None ≡ block_of (value_at rs) x
begins_later_at rs i x d r is few rest later = begins_later rs i x d few rest (subst (λ (q : RunOf ℕ). x < q.base) is later)

pub run_at : (rs : List (RunOf ℕ)) (i : ℕ) (d r : RunOf ℕ) → r ≡ get_or rs i d → AreRuns rs → i < length rs
    → IsWholeNodeRun (value_at rs) r.base (run_end r) r.value
run_at rs i d r is runs few = rw is (run_of_list rs i d runs few)

pub listed_more_at : (f : Frames) (rs : List (RunOf ℕ)) (i : ℕ) (d r : RunOf ℕ) (bs : List Block) → r ≡ get_or rs i d → i < length rs
    → (bs ++ blocks_from f r.base (run_end r - r.base)) ++ listed f (drop (i + 1) rs) ≡ bs ++ listed f (drop i rs)
listed_more_at f rs i d r bs is few =
    let size : run_end r - r.base ≡ r.size = omega arith in
    append_assoc bs (blocks_from f r.base (run_end r - r.base)) (listed f (drop (i + 1) rs))
    ∙ ap (λ n. bs ++ (blocks_from f r.base n ++ listed f (drop (i + 1) rs))) size
    ∙ rw (listed_more f rs i d few, ← is) refl
