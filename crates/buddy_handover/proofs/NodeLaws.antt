-- The test of nodes decides their equality.
use Rattle.std.proofs.Common.{ℕ, Bool, ◌==◌}
use Rattle.std.proofs.lemmas.Bool.{eqb-true, eq-eqb}
use Rattle.address_runs.specs.Runs.{DecidesEquality}

abbrev pub same_number : ℕ → ℕ → Bool
same_number a b = a == b

pub number_tells : DecidesEquality same_number
number_tells = record { true_is_equal = eqb-true; equal_is_true = eq-eqb }
