use Rattle.boot_inputs.proofs.ScriptLaws.{pages_other}
use Rattle.boot_inputs.proofs.pages.exhaustion_is_no_page_script_fault.Goals as goal

pub returns : goal.returns
returns c = pages_other
