use Rattle.boot_inputs.proofs.WantLaws.{refused_other}
use Rattle.boot_inputs.proofs.laws.exhaustion_is_no_file_fault.Goals as goal

pub returns-clause-refused : goal.returns-clause-refused
returns-clause-refused c = refused_other c.exhaustion_is_no_fault_of_any.ensures
