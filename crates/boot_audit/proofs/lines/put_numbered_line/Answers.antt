-- The chunks that are written make up the line.
use Rattle.boot_audit.proofs.lines.put_numbered_line.Goals as goal

pub returns : goal.returns
returns g c = rw (← c.format-line.ensures.text) c.put_line.ensures
