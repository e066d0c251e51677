-- Worked examples: runs within the bounds that the program's types ensure, and runs that aren't.
use Rattle.std.proofs.Common.{ℕ, ◌-◌, ◌^◌, arith}
use Rattle.address_runs.specs.Runs.{RunOf}
use Rattle.memblock_model.specs.declared.owner.Owner.TheVariants as owners
use Rattle.audit_soundness.specs.PrintableBoots.{RunEndsInSpace, IsBoundedOwnerRun}

-- a run that ends 4096 below 2^64, and a run that ends at 2^64
abbrev run_at : ℕ → RunOf ℕ
run_at base = record { base = base; size = 4096; value = 2 }

last_but_one : RunEndsInSpace (run_at (2 ^ 64 - 8192))
last_but_one = omega arith

last : ¬ RunEndsInSpace (run_at (2 ^ 64 - 4096))
last near = absurd (omega (arith, near))

-- an owner's number of 33 bits isn't within its bounds
wide_number : ¬ IsBoundedOwnerRun (record { base = 0; size = 4096; value = owners.Script (2 ^ 32) })
wide_number near = absurd (omega (arith, near.1))
