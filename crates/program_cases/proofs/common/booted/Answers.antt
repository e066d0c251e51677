-- The tables of a boot are in the bytes at their heads.
use Rattle.std.proofs.Common.{Result, Ok, Err}
use Rattle.std.specs.Prelude.{IfOk}
use Rattle.memblock_model.specs.declared.owner.Which.TheVariants as which
use Rattle.boot_model.specs.declared.booted.Booted.{Booted}
use Rattle.boot_model.specs.declared.stop.Stop.{Stop}
use Rattle.boot_stages.specs.Boots.{IsStoredTable}
use Rattle.debugfs_reports.specs.TableHeads.{HeadsHaveRecords}
use Rattle.program_run.proofs.BootedLaws.{items_stand}
use Rattle.program_cases.proofs.common.booted.Goals as goal

stands_of : (answer : Result Booted Stop) → IfOk answer (λ b. IsStoredTable which.Memory b.journal.items b.store b.heads.memory)
    → IfOk answer (λ b. IsStoredTable which.Reserved b.journal.items b.store b.heads.reserved)
    → IfOk answer (λ b. HeadsHaveRecords b)
stands_of (Ok b) memory reserved = items_stand b memory reserved
stands_of (Err stop) memory reserved = tt

pub returns : goal.returns
returns c = stands_of c.boot.result c.boot.ensures.memory c.boot.ensures.reserved
