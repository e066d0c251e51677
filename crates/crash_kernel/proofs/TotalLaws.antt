-- The number of bytes that are memory is the sum of the sizes of the memory table's records.
use Rattle.std.proofs.Common.{◌≡◌, ℕ, zero, suc, ◌+◌, ◌-◌, ◌^◌, ◌<◌, ◌≤◌, true, false, ◌||◌, min, is_some, sum_by, List, [], ◌∷◌, length, take, get_or, refl, ◌∙◌, ap, inl, inr, arith}
use Rattle.std.proofs.lemmas.Bool.{cases_Bool, cases_lt}
use Rattle.std.proofs.lemmas.Bool.Decides.{nat_tests}
use Rattle.std.proofs.lemmas.List.Sums.{sum_by-cons}
use Rattle.address_runs.specs.Runs.{RunOf, run_end, lies_in, value_at, AreRuns}
use Rattle.address_runs.specs.Edits.{IsEmptyFrom}
use Rattle.address_runs.specs.Sweep.{StartAtOrPast}
use Rattle.address_runs.proofs.RunsLaws.{inside, past_end, none_below, rest_from, start_zero}
use Rattle.e820_model.specs.Usable.{count_below}
use Rattle.e820_model.proofs.UsableLaws.{count_same, count_none, count_either, count_interval}
use Rattle.memblock_model.specs.declared.owner.Which.TheVariants as which
use Rattle.memblock_model.specs.declared.item.Item.{Item}
use Rattle.memblock_model.specs.Labels.{LabelView}
use Rattle.memblock_model.specs.Items.{memory_of}
use Rattle.memblock_model.specs.Tables.{records_of}
use Rattle.memblock_model.proofs.TableLaws.{value_at-records}
use Rattle.crash_kernel.specs.Total.{memory_bytes}

module _ {X : Type 0} where
  -- the sum of the sizes of all runs
  abbrev pub sizes : List (RunOf X) → ℕ
  sizes rs = sum_by (λ r. r.size) rs

  -- the sizes of all runs before a run add up to at most its base
  sizes_below : (at i : ℕ) (rs : List (RunOf X)) (d : RunOf X) → StartAtOrPast at rs → AreRuns rs → i < length rs
      → at + sizes (take i rs) ≤ (get_or rs i d).base
  sizes_below at i [] d start runs lt = absurd (omega arith)
  sizes_below at zero (r ∷ rs) d start runs lt = let from : at ≤ r.base = start in omega arith
  sizes_below at (suc i) (r ∷ rs) d start runs lt =
      let rest = sizes_below (run_end r) i rs d (rest_from r rs runs) runs.2 (omega arith) in
      omega (arith, start, rest, sum_by-cons (λ (s : RunOf X). s.size) r (take i rs))

  pub sizes-before : (i : ℕ) (rs : List (RunOf X)) (d : RunOf X) → AreRuns rs → i < length rs → sizes (take i rs) ≤ (get_or rs i d).base
  sizes-before i rs d runs lt = let from = sizes_below 0 i rs d (start_zero rs) runs lt in omega (arith, from)

  -- runs without values from `n` on end at or below `n`
  ends_by : (n : ℕ) (r : RunOf X) (rs : List (RunOf X)) → 0 < r.size → IsEmptyFrom n (value_at (r ∷ rs)) → run_end r ≤ n
  ends_by n r rs some none = elim (cases_lt n (run_end r)) as (λ _. run_end r ≤ n) [
    | inl past ↦
        let last : ℕ = run_end r - 1 in
        let lies : lies_in r last ≡ true = inside r last (omega arith) (omega arith) in
        let clash = rw lies at (none last (omega arith)) in absurd (cc clash)
    | inr within ↦ within
  ]

  rest_by : (n : ℕ) (r : RunOf X) (rs : List (RunOf X)) → run_end r ≤ n → IsEmptyFrom n (value_at (r ∷ rs)) → IsEmptyFrom n (value_at rs)
  rest_by n r rs ends none x le = rw (past_end r x (omega arith)) at (none x le)

  -- an address in the first run is in no other
  first_alone : (r : RunOf X) (rs : List (RunOf X)) (x : ℕ) → AreRuns (r ∷ rs) → lies_in r x ≡ true → is_some (value_at rs x) ≡ false
  first_alone r rs x runs lies =
      let low : x < run_end r = grind (arith, nat_tests) in
      rw (none_below (run_end r) x rs runs.2 (rest_from r rs runs) low) refl

  some_either : (r : RunOf X) (rs : List (RunOf X)) (x : ℕ) → is_some (value_at (r ∷ rs) x) ≡ (lies_in r x || is_some (value_at rs x))
  some_either r rs x =
      elim (cases_Bool (lies_in r x)) as (λ _. is_some (value_at (r ∷ rs) x) ≡ (lies_in r x || is_some (value_at rs x)))
      [ inl here ↦ rw here refl | inr other ↦ rw other refl ]

  -- the number of addresses with a value is the sum of the sizes of the runs
  pub sizes-count : (n : ℕ) (rs : List (RunOf X)) → AreRuns rs → IsEmptyFrom n (value_at rs)
      → count_below (λ x. is_some (value_at rs x)) n ≡ sizes rs
  sizes-count n [] runs none = count_none (λ x. false) n (λ i lt. refl)
  sizes-count n (r ∷ rs) runs none =
      let ends : run_end r ≤ n = ends_by n r rs runs.0 none in
      let rest = sizes-count n rs runs.2 (rest_by n r rs ends none) in
      let first : count_below (lies_in r) n ≡ min (run_end r) n - r.base = count_interval r.base (run_end r) n in
      count_same (λ x. is_some (value_at (r ∷ rs) x)) (λ x. lies_in r x || is_some (value_at rs x)) n (λ i lt. some_either r rs i)
      ∙ count_either (lies_in r) (λ x. is_some (value_at rs x)) n (λ i lt lies. first_alone r rs i runs lies)
      ∙ omega (arith, rest, first, ends, sum_by-cons (λ (s : RunOf X). s.size) r rs)

pub runs-bytes : (rs : List (RunOf LabelView)) → AreRuns rs → IsEmptyFrom (2 ^ 64) (value_at rs) → memory_bytes (value_at rs) ≡ sizes rs
unfolding memory_bytes
runs-bytes rs runs none = sizes-count (2 ^ 64) rs runs none

-- the records of the memory table give each address what the items give it
pub records-bytes : (items : List Item) (rs : List (RunOf LabelView)) → IsEmptyFrom (2 ^ 64) (memory_of items)
    → rs ≡ records_of which.Memory items → memory_bytes (value_at rs) ≡ memory_bytes (memory_of items)
unfolding records_of
records-bytes items rs none is =
    ap (λ (t : List (RunOf LabelView)). memory_bytes (value_at t)) is ∙ ap memory_bytes (value_at-records (memory_of items) none)
