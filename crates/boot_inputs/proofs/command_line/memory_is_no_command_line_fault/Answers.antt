use Rattle.boot_inputs.proofs.CommandLineLaws.{options_other}
use Rattle.boot_inputs.proofs.command_line.memory_is_no_command_line_fault.Goals as goal

pub returns : goal.returns
returns c = options_other
