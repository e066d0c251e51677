-- The chunks that are put make up the line.
use Rattle.program_end.proofs.lines.put_reason_line.Goals as goal

pub returns-in-Unread : goal.returns-in-Unread
returns-in-Unread g c = rw (c.in-Unread.is, ← c.program-in-Unread.ensures, ← c.file.ensures) c.put_unread_line.ensures
