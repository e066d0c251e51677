-- Runs of a function over addresses, for any type of values: types of memory, owners, nodes. A run
-- is a maximal set of consecutive addresses with one value, as `e820__update_table` and
-- `memblock_merge_regions` keep their tables.
use Rattle.std.specs.Prelude.{◌≡◌, ◌≢◌, ℕ, zero, suc, ◌+◌, ◌^◌, ◌<◌, ◌≤◌, ◌==◌, Bool, true, ◌&&◌, if◌then◌else◌, Option, Some, None, List, [], ◌∷◌}
use Rattle.bm_base.specs.Range.{RangeView, covers}

-- a run: its first address, its size, and its value
pub record RunOf (X : Type 0) : Type 0 where
  pub base : ℕ
  pub size : ℕ
  pub value : X

-- the test `same` is true exactly if both values are equal
pub record DecidesEquality {X : Type 0} (same : X → X → Bool) : Type 0 where
  pub true_is_equal : (a b : X) → same a b ≡ true → a ≡ b
  pub equal_is_true : (a b : X) → a ≡ b → same a b ≡ true

module _ {X : Type 0} where
  -- the address right after the last one of the run
  abbrev pub run_end : RunOf X → ℕ
  run_end r = r.base + r.size

  -- the range of the run's addresses
  abbrev pub range_of_run : RunOf X → RangeView
  range_of_run r = record { base = r.base; size = r.size }

  -- whether the address lies in the run
  abbrev pub lies_in : RunOf X → ℕ → Bool
  lies_in r x = covers (range_of_run r) x

  -- the value that a list of runs gives an address: that of the first run that contains it, or
  -- `None`
  abbrev pub value_at : List (RunOf X) → ℕ → Option X
  value_at [] x = None
  value_at (r ∷ rs) x = if lies_in r x then Some r.value else value_at rs x

  -- the run and the list make one longer list of runs: the list is empty, or it begins above the
  -- run's end, or it begins at that end with another value
  abbrev pub IsBefore : RunOf X → List (RunOf X) → Type 0
  IsBefore r [] = Unit {0}
  IsBefore r (s ∷ ss) = (run_end r ≤ s.base) × (run_end r ≡ s.base → r.value ≢ s.value)

  -- the list is canonical: it ascends without overlaps, no run is empty, and two runs that touch
  -- have different values
  abbrev pub AreRuns : List (RunOf X) → Type 0
  AreRuns [] = Unit {0}
  AreRuns (r ∷ rs) = (0 < r.size) × IsBefore r rs × AreRuns rs

  -- the list is canonical and gives each address the function's value
  pub record IsRunsOf (f : ℕ → Option X) (rs : List (RunOf X)) : Type 0 where
    pub runs : AreRuns rs
    pub each : (x : ℕ) → value_at rs x ≡ f x

  -- the run of a single address
  abbrev pub one_address : ℕ → X → RunOf X
  one_address x v = record { base = x; size = 1; value = v }

  -- the runs after the address `x` has got a value, given the runs of the addresses above `x`. If
  -- the first run begins at x + 1 and has the same value, it is extended down to `x`; else `x`
  -- becomes a run of its own. If the value is `None`, the runs stay as they are.
  abbrev pub prepend_address : (X → X → Bool) → ℕ → Option X → List (RunOf X) → List (RunOf X)
  prepend_address same x None rs = rs
  prepend_address same x (Some v) [] = one_address x v ∷ []
  prepend_address same x (Some v) (r ∷ rs) =
      if (r.base == x + 1) && same v r.value
      then record { base = x; size = r.size + 1; value = v } ∷ rs
      else (one_address x v ∷ (r ∷ rs))

  -- the runs of the function `f` over the n addresses from x on
  unfoldable pub runs_from : (X → X → Bool) → (ℕ → Option X) → ℕ → ℕ → List (RunOf X)
  runs_from same f x zero = []
  runs_from same f x (suc n) = prepend_address same x (f x) (runs_from same f (x + 1) n)

  -- the runs of the function `f` over all addresses below 2^64
  unfoldable pub runs_of : (X → X → Bool) → (ℕ → Option X) → List (RunOf X)
  runs_of same f = runs_from same f 0 (2 ^ 64)
