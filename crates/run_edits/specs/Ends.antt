-- The number of runs, counted by the addresses at which they end.
use Rattle.std.specs.Prelude.{ℕ, zero, suc, ◌+◌, ◌-◌, ◌^◌, ◌≤◌, ◌==◌, Bool, if◌then◌else◌, Option, Some, None}

-- the sum of g over the n addresses from x on
unfoldable pub total : (ℕ → ℕ) → ℕ → ℕ → ℕ
total g x zero = 0
total g x (suc n) = g x + total g (x + 1) n

module _ {X : Type 0} where
  -- the number of runs, 0 or 1, that end between two neighbouring addresses, given what each of
  -- them carries
  abbrev pub run_ends_between : (X → X → Bool) → Option X → Option X → ℕ
  run_ends_between same None b = 0
  run_ends_between same (Some a) None = 1
  run_ends_between same (Some a) (Some b) = if same a b then 0 else 1

  -- the number of runs of the function `f`, 0 or 1, that have `x` as their last address
  abbrev pub run_ends_at : (X → X → Bool) → (ℕ → Option X) → ℕ → ℕ
  run_ends_at same f x = run_ends_between same (f x) (f (x + 1))

  -- there is room to turn the runs of f into those of g in one sweep: for each address, `room` is
  -- at least the number of g's runs whose last address is below it plus the number of f's runs
  -- whose last address is at or above it
  abbrev pub HasRoomToEdit : (X → X → Bool) → (ℕ → Option X) → (ℕ → Option X) → ℕ → Type 0
  HasRoomToEdit same f g room =
      (at : ℕ) → at ≤ 2 ^ 64 → total (run_ends_at same g) 0 at + total (run_ends_at same f) at (2 ^ 64 - at) ≤ room

-- 1 if `b` is the address right after `x`, else 0
abbrev pub one_right_below : ℕ → ℕ → ℕ
one_right_below b x = if x + 1 == b then 1 else 0
