-- After the line that places the sections, the reader refuses another.
use Rattle.early_script.proofs.SectionLaws.{script-once}
use Rattle.early_script.proofs.lines.scripts_place_sections_once.Goals as goal

pub returns : goal.returns
returns c = script-once
