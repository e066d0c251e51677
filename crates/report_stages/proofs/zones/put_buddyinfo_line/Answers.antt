-- The calls append the parts of the line one after another.
use Rattle.std.proofs.Common.{◌++◌, codes, decimal, arith}
use Rattle.std.proofs.lemmas.Grind.{common_steps}
use Rattle.buddy_handover.specs.BuddyView.{node_of_free_frame}
use Rattle.buddy_blocks.specs.BlockList.{blocks_of}
use Rattle.report_memory.proofs.PutLaws.{goes_on}
use Rattle.report_stages.specs.ZonesText.{buddyinfo_line, block_counts_text, padded_zone}
use Rattle.report_stages.proofs.zones.put_buddyinfo_line.Goals as goal

pub returns : goal.returns
unfolding buddyinfo_line
returns c =
    let s = c.args.span.now in
    goes_on c.args.text.now c.put_block_counts.new.text c.put_text-2.new.out c.put_text-2.result
    (codes "Node " ++ decimal s.node ++ codes ", zone " ++ padded_zone s.zone ++ codes " "
    ++ block_counts_text (blocks_of (node_of_free_frame c.args.buddy.now)) s.node s.zone) (codes "\n")
    c.put_text-2.ensures.puts (grind (arith, common_steps)) (grind (arith, common_steps))
