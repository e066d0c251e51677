-- Replacing the map of a boot leaves its tables in the bytes at their heads.
use Rattle.std.proofs.Common.{◌≡◌, Result, Ok, subst}
use Rattle.std.specs.Prelude.{IfOk}
use Rattle.boot_model.specs.declared.booted.Booted.{Booted}
use Rattle.boot_model.specs.declared.stop.Stop.{Stop}
use Rattle.debugfs_reports.specs.TableHeads.{HeadsHaveRecords}
use Rattle.program_cases.proofs.of_debugfs_reports.runs_that_touch.Goals as goal

stand : (answer : Result Booted Stop) (b : Booted) → answer ≡ Ok b → IfOk answer (λ b. HeadsHaveRecords b) → HeadsHaveRecords b
stand answer b is = subst (λ (r : Result Booted Stop). IfOk r (λ b. HeadsHaveRecords b)) is

pub render-requires-clause-tables : goal.render-requires-clause-tables
render-requires-clause-tables g c =
    let both = stand c.in_ok-booted.field-0 c.in-Ok.booted c.in-Ok.is c.in_ok-booted.ensures in
    record { memory = both.memory; reserved = both.reserved }

pub render-requires-2-clause-tables : goal.render-requires-2-clause-tables
render-requires-2-clause-tables g c =
    let both = stand c.in_ok-booted.field-0 c.in-Ok.booted c.in-Ok.is c.in_ok-booted.ensures in
    record { memory = both.memory; reserved = both.reserved }
