-- The mirrored frames and the direction of searches are those of the command line.
use Rattle.program_args.proofs.args.BootmemArgs.command_line_inputs.Goals as goal

pub invariant_of-inputs-2-clause-mirrors_fit : goal.invariant_of-inputs-2-clause-mirrors_fit
invariant_of-inputs-2-clause-mirrors_fit c = rw (c.in_ok-inputs.ensures.items, c.deref.ensures.value) c.args.self.now.mirrors_fit
