-- The chunks that each branch puts make up its line.
use Rattle.program_end.proofs.lines.put_refusal_line.Goals as goal

pub returns-in-Failed : goal.returns-in-Failed
returns-in-Failed g c = rw c.in-Failed.is c.put_line.ensures

pub returns-in-Memory : goal.returns-in-Memory
returns-in-Memory g c = rw c.in-Memory.is c.put_line-in-Memory.ensures
