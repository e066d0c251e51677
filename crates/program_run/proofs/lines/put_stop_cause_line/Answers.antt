-- The chunks that each branch writes make up its line.
use Rattle.program_run.proofs.lines.put_stop_cause_line.Goals as goal

pub returns-in-TooMuchRam : goal.returns-in-TooMuchRam
returns-in-TooMuchRam g c = rw (c.in-TooMuchRam.is, ← c.format-frames.ensures.text) c.put_line-in-TooMuchRam.ensures

pub returns-in-MapFull : goal.returns-in-MapFull
returns-in-MapFull g c = rw (c.in-MapFull.is, ← c.format-runs.ensures.text) c.put_line-in-MapFull.ensures

pub returns-in-NoTablePlace : goal.returns-in-NoTablePlace
returns-in-NoTablePlace g c = rw (c.in-NoTablePlace.is, ← c.memblock_table_name.ensures) c.put_no_table_place_line.ensures
