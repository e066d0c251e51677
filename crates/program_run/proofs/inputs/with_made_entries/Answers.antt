-- The entries of the made table are those of the definition.
use Rattle.program_run.proofs.inputs.with_made_entries.Goals as goal

-- the prover needs this fact about the inputs by name; it finds the others
pub invariant_of-inputs-2-clause-entries_end : goal.invariant_of-inputs-2-clause-entries_end
invariant_of-inputs-2-clause-entries_end c = c.in_ok-made.ensures.page_space
