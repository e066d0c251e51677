-- The prover needs one of the facts of the inputs by name. It finds the others.
use Rattle.boot_inputs.proofs.zero_page.ZeroPagesReader.read.Goals as goal

pub invariant_of-inputs-clause-entries_end : goal.invariant_of-inputs-clause-entries_end
invariant_of-inputs-clause-entries_end c = c.in-Ok.ensures.space
