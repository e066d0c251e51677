-- The chunks that are written make up the line.
use Rattle.program_run.proofs.lines.put_no_numbered_place_line.Goals as goal

pub returns : goal.returns
returns g c = rw (← c.format-number.ensures.text) c.put_line.ensures
