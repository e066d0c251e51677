use Rattle.stage_steps.proofs.QuietLaws.{quiet-appended_memory, quiet-appended_limit}
use Rattle.crash_kernel.specs.Reservation.{reserve_crash_area_by}
use Rattle.crash_kernel.proofs.QuietLaws.{quiet-reserved_by}
use Rattle.crash_kernel.proofs.laws.reserve_by_keeps_memory_and_limit.Goals as goal

pub returns-clause-memory : goal.returns-clause-memory
returns-clause-memory c =
    λ rule added asked items. quiet-appended_memory items (reserve_crash_area_by rule added asked items).steps
    ((quiet-reserved_by rule added asked).each items)

pub returns-clause-limit : goal.returns-clause-limit
returns-clause-limit c =
    λ rule added asked items. quiet-appended_limit items (reserve_crash_area_by rule added asked items).steps
    ((quiet-reserved_by rule added asked).each items)
