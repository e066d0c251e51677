use Rattle.boot_options.proofs.SpelledCrashLaws.{form-exactly}
use Rattle.boot_options.proofs.crash.crash_forms_are_spelled.Goals as goal

pub returns : goal.returns
returns c = form-exactly
