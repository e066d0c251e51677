use Rattle.stage_steps.specs.Requests.{place_or_stop}
use Rattle.stage_steps.proofs.QuietLaws.{quiet-placed, quiet-appended_memory, quiet-appended_limit}
use Rattle.stage_steps.proofs.laws.allocations_leave_memory.Goals as goal

pub returns-clause-memory : goal.returns-clause-memory
returns-clause-memory c = λ thing request who items.
    quiet-appended_memory items (place_or_stop thing request who items).steps ((quiet-placed thing request who).each items)

pub returns-clause-limit : goal.returns-clause-limit
returns-clause-limit c = λ thing request who items.
    quiet-appended_limit items (place_or_stop thing request who items).steps ((quiet-placed thing request who).each items)
