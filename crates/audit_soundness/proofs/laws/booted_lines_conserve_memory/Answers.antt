use Rattle.audit_soundness.proofs.ValueLaws.{lines_conserved}
use Rattle.audit_soundness.proofs.laws.booted_lines_conserve_memory.Goals as goal

pub returns : goal.returns
returns c = lines_conserved
