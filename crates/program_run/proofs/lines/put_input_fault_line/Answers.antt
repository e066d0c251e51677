-- Without a diagnostic the line says that the program is out of memory.
use Rattle.program_run.proofs.lines.put_input_fault_line.Goals as goal

pub returns-in-None : goal.returns-in-None
returns-in-None g c = rw (← c.diagnostic.ensures, c.in-None.is) c.put_line-in-None.ensures
