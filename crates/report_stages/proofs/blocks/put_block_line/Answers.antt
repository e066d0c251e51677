-- The calls append the parts of the line one after another.
use Rattle.std.proofs.Common.{◌++◌, codes, decimal, arith}
use Rattle.std.proofs.lemmas.Grind.{common_steps}
use Rattle.bm_base.specs.Frames.{bytes_of_frame}
use Rattle.bm_base.specs.Text.{hex_text}
use Rattle.report_memory.proofs.PutLaws.{goes_on}
use Rattle.report_stages.proofs.blocks.put_block_line.Goals as goal
use Rattle.bm_base.specs.Zones.{zone_name}

pub returns : goal.returns
returns c =
    let b = c.args.block.now in
    goes_on c.args.text.now c.put_word_hex.new.text c.put_text-3.new.out c.put_text-3.result
    (codes "node " ++ decimal b.node ++ codes " zone " ++ zone_name b.zone ++ codes " order " ++ decimal b.order ++ codes " "
    ++ hex_text (bytes_of_frame b.first).base) (codes "\n")
    c.put_text-3.ensures.puts (grind (arith, common_steps)) (grind (arith, common_steps))
