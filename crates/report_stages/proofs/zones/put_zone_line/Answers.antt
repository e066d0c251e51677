-- The calls append the parts of the line one after another.
use Rattle.std.proofs.Common.{◌++◌, codes, decimal, arith}
use Rattle.std.proofs.lemmas.Grind.{common_steps}
use Rattle.buddy_handover.specs.BuddyView.{node_of_free_frame}
use Rattle.buddy_blocks.specs.BlockList.{blocks_of}
use Rattle.report_memory.proofs.PutLaws.{goes_on}
use Rattle.report_stages.specs.ZonesText.{frames_in_zone}
use Rattle.report_stages.proofs.zones.put_zone_line.Goals as goal
use Rattle.bm_base.specs.Zones.{zone_name}

pub returns : goal.returns
returns c =
    let s = c.args.span.now in
    goes_on c.args.text.now c.put_word_dec-4.new.text c.put_text-2.new.out c.put_text-2.result
    (codes "Node " ++ decimal s.node ++ codes ", zone " ++ zone_name s.zone ++ codes " start " ++ decimal s.start ++ codes " end "
    ++ decimal s.end ++ codes " present " ++ decimal s.present ++ codes " free "
    ++ decimal (frames_in_zone s.node s.zone (blocks_of (node_of_free_frame c.args.buddy.now)))) (codes "\n")
    c.put_text-2.ensures.puts (grind (arith, common_steps)) (grind (arith, common_steps))
