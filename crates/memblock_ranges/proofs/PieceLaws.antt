-- The pieces of a range that a table doesn't cover, counted from the lowest address on by where
-- they end.
use Rattle.std.proofs.Common.{◌≡◌, ℕ, ◌+◌, ◌-◌, ◌^◌, ◌<◌, ◌≤◌, Bool, true, false, not, ◌&&◌, if◌then◌else◌, nat_lt, Option, Some, None, refl, sym, ◌∙◌, ap, arith}
use Rattle.std.specs.Prelude.{is_none, is_some}
use Rattle.std.proofs.lemmas.Bool.{false≢true}
use Rattle.std.proofs.lemmas.Bool.Decides.{nat_tests}
use Rattle.bm_base.specs.Range.{RangeView, covers}
use Rattle.address_runs.specs.Runs.{DecidesEquality}
use Rattle.address_runs.specs.Edits.{gaps_in_range}
use Rattle.address_runs.specs.Sweep.{HasValueBetween}
use Rattle.run_edits.specs.Ends.{run_ends_between, run_ends_at, total}
use Rattle.run_edits.proofs.EndLaws.{total-split, total-quiet, total-next, run_ends_between-self}
use Rattle.memblock_model.specs.Labels.{LabelView, Labels, plain_label}
use Rattle.memblock_model.specs.Same.{same_label}
use Rattle.memblock_model.specs.Tables.{uncovered_run_count}
use Rattle.memblock_model.proofs.SameLaws.{same_label_decides_equality}
use Rattle.memblock_ranges.proofs.EditLaws.{pieces_are}

-- if a function is constant on a stretch, a run ends at most at the stretch's last address
stretch_ends : {X : Type 0} (same : X → X → Bool) → DecidesEquality same → (g : ℕ → Option X) (from to : ℕ) (v : Option X) → from < to →
    HasValueBetween g from to v →
    total (run_ends_at same g) from (to - from) ≡ run_ends_between same v (g to)
stretch_ends same tells g from to v less stays =
    let inner : ℕ = to - from - 1 in
    let last : ℕ = to - 1 in
    let at_end : last + 1 ≡ to = omega arith in
    let parts = total-split (run_ends_at same g) from inner 1 (to - from) last (omega arith) (omega arith) in
    let quiet : total (run_ends_at same g) from inner ≡ 0 = total-quiet (run_ends_at same g) from inner
    (λ y above under. rw (stays y above (omega arith), stays (y + 1) (omega arith) (omega arith)) (run_ends_between-self same tells v)) in
    let one = total-next (run_ends_at same g) last 0 in
    let rest : total (run_ends_at same g) (last + 1) 0
    ≡ 0 = total-quiet (run_ends_at same g) (last + 1) 0 (λ y above under. absurd (omega arith)) in
    let here : run_ends_at same g last ≡ run_ends_between same v (g to) = rw (stays last (omega arith) (omega arith), at_end) refl in
    omega (arith, parts, quiet, one, rest, here)

abbrev pub bare_label : Bool → Option LabelView
bare_label b = if b then Some plain_label else None

-- a piece ends between a byte without a label and a neighbour that has one
pub edge_bare : (a b : Bool) → run_ends_between same_label (bare_label a) (bare_label b) ≡ (if a && not b then 1 else 0)
edge_bare true true = refl
edge_bare true false = refl
edge_bare false b = refl

module _ (r : RangeView) (f : Labels) where
  bare_inside : (x : ℕ) → r.base ≤ x → x < r.base + r.size → gaps_in_range r plain_label f x ≡ bare_label (is_none (f x))
  bare_inside x low high = let lies : covers r x ≡ true = grind (arith, nat_tests) in rw lies refl

  bare_from : (x : ℕ) → r.base ≤ x → gaps_in_range r plain_label f x ≡ bare_label (nat_lt x (r.base + r.size) && is_none (f x))
  bare_from x low = let lies : covers r x ≡ nat_lt x (r.base + r.size) = grind (arith, nat_tests) in rw lies refl

  bare_beside : (x : ℕ) → covers r x ≡ false → gaps_in_range r plain_label f x ≡ None
  bare_beside x off = rw off refl

  -- no piece ends below the range
  pub no_pieces : total (run_ends_at same_label (gaps_in_range r plain_label f)) 0 r.base ≡ 0
  no_pieces = total-quiet (run_ends_at same_label (gaps_in_range r plain_label f)) 0 r.base
      (λ y above under. rw (bare_beside y (grind (arith, nat_tests))) refl)

  -- a further stretch, all covered or all not, adds at most the piece that ends at its last
  -- address
  pub more_pieces : (from to next count more : ℕ) (here there : Bool) → r.base ≤ from → from < to → to ≤ r.base + r.size → to ≤ next →
      HasValueBetween f from next (f from) → here ≡ is_none (f from) → there ≡ is_none (f to) →
      more ≡ (if here && not (nat_lt to (r.base + r.size) && there) then 1 else 0) →
      count ≡ total (run_ends_at same_label (gaps_in_range r plain_label f)) 0 from
      → count + more ≡ total (run_ends_at same_label (gaps_in_range r plain_label f)) 0 to
  more_pieces from to next count more here there low less high far stays is_here is_there ends so_far =
      let g = gaps_in_range r plain_label f in
      let steady : HasValueBetween g from to (bare_label (is_none (f from))) = λ x above under.
      bare_inside x (omega arith) (omega arith) ∙ ap (λ o. bare_label (is_none o)) (stays x above (omega arith)) in
      let stretch = stretch_ends same_label same_label_decides_equality g from to (bare_label (is_none (f from))) less steady in
      let at_to : run_ends_between same_label (bare_label (is_none (f from))) (g to) ≡ more =
      ap (run_ends_between same_label (bare_label (is_none (f from)))) (bare_from to (omega arith))
      ∙ edge_bare (is_none (f from)) (nat_lt to (r.base + r.size) && is_none (f to)) ∙ rw (← is_here, ← is_there) (sym ends) in
      let parts = total-split (run_ends_at same_label g) 0 from (to - from) to from (omega arith) (omega arith) in
      omega (arith, parts, stretch, at_to, so_far)

  -- no further piece ends past the range, so the pieces counted so far are all of them
  pub all_pieces : (count : ℕ) → r.base + r.size ≤ 2 ^ 64
      → count ≡ total (run_ends_at same_label (gaps_in_range r plain_label f)) 0 (r.base + r.size) →
      count ≡ uncovered_run_count r f
  all_pieces count ends so_far =
      let g = gaps_in_range r plain_label f in
      let until : ℕ = r.base + r.size in
      let parts = total-split (run_ends_at same_label g) 0 until (2 ^ 64 - until) (2 ^ 64) until (omega arith) (omega arith) in
      let quiet = total-quiet (run_ends_at same_label g) until (2 ^ 64 - until)
      (λ y above under. rw (bare_beside y (grind (arith, nat_tests))) refl) in
      let is = pieces_are r f ends in
      omega (arith, parts, quiet, is, so_far)

pub one_at_most : (b : Bool) → (if b then 1 else 0) ≤ 1
one_at_most true = omega arith
one_at_most false = omega arith

-- a test that always says the opposite of `is_some` is `is_none`
pub none_told : (b : Bool) (o : Option LabelView) → is_some o ≡ not b → b ≡ is_none o
none_told true None told = refl
none_told true (Some l) told = absurd (false≢true (sym told))
none_told false None told = absurd (false≢true told)
none_told false (Some l) told = refl
