-- A number with one bit set is a power of two.
use Rattle.std.proofs.Common.{◌≡◌, ℕ, zero, suc, ◌+◌, ◌/◌, ◌%◌, ◌^◌, ◌≤◌, arith, eqb-true, IsTrue, inl, inr, add-one}
use Rattle.std.specs.Prelude.{count_ones}
use Rattle.std.specs.Int.{is_power_of_two}
use Rattle.std.specs.Int.Count.{ones_step}
use Rattle.std.proofs.lemmas.Nat.{zero_from_ones, ones_le_self}
use Rattle.std.proofs.lemmas.Bool.{cases_lt}

power_within : (most n : ℕ) → n ≤ most → count_ones n ≡ 1 → (k : ℕ) × (n ≡ 2 ^ k)
power_within zero n small one = absurd (omega (arith, ones_le_self n))
power_within (suc most) n small one =
    let step = ones_step n in
    elim (cases_lt 0 (n % 2)) [
      | inl odd ↦ (0, let none = zero_from_ones (n / 2) (omega arith) in omega arith)
      | inr even ↦ elim (cases_lt 0 (n / 2)) [
        | inl some ↦
            let half = power_within most (n / 2) (omega arith) (omega arith) in
            (half.0 + 1, rw add-one (omega arith))
        | inr none ↦ absurd (omega (arith, ones_le_self (n / 2)))
      ]
    ]

pub power_of : (n : ℕ) → IsTrue (is_power_of_two n) → (k : ℕ) × (n ≡ 2 ^ k)
power_of n h = power_within n n (omega arith) (eqb-true (count_ones n) 1 h)
