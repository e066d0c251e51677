-- The chunks that each branch puts make up its line.
use Rattle.program_end.proofs.lines.put_failure_line.Goals as goal

pub returns-in-NoResult-Memory : goal.returns-in-NoResult-Memory
returns-in-NoResult-Memory g c =
    rw (c.in-NoResult-Memory.is, c.in-NoResult-Memory.field-0-is, ← c.program.ensures) c.put_line.ensures
