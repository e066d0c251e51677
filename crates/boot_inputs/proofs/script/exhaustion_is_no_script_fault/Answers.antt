use Rattle.boot_inputs.proofs.ScriptLaws.{script_other}
use Rattle.boot_inputs.proofs.script.exhaustion_is_no_script_fault.Goals as goal

pub returns : goal.returns
returns c = script_other
