use Rattle.boot_inputs.proofs.SratLaws.{srat_other}
use Rattle.boot_inputs.proofs.srat.exhaustion_is_no_srat_fault.Goals as goal

pub returns : goal.returns
returns c = srat_other
