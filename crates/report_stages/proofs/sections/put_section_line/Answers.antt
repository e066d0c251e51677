-- The calls append the parts of the line one after another.
use Rattle.std.proofs.Common.{◌++◌, codes, decimal, arith}
use Rattle.std.proofs.lemmas.Grind.{common_steps}
use Rattle.bm_base.specs.Text.{hex_text}
use Rattle.report_memory.proofs.PutLaws.{goes_on}
use Rattle.report_stages.proofs.sections.put_section_line.Goals as goal

pub returns : goal.returns
returns c =
    let s = c.args.placed.now in
    goes_on c.args.text.now c.put_word_hex-2.new.text c.put_text.new.out c.put_text.result
    (codes "section " ++ decimal s.section ++ codes " node " ++ decimal s.node ++ codes " map " ++ hex_text s.map ++ codes " usage "
    ++ hex_text s.usage) (codes "\n") c.put_text.ensures.puts (grind (arith, common_steps)) (grind (arith, common_steps))
