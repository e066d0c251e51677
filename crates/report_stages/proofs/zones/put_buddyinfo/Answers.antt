-- Each call appends the text of one span; together these are the lines of the zones that have memory.
use Rattle.std.proofs.Common.{rules, [], ◌∷◌}
use Rattle.buddy_handover.specs.BuddyView.{node_of_free_frame}
use Rattle.report_stages.specs.ZonesText.{buddyinfo_text}
use Rattle.report_stages.proofs.ZoneLaws.{lines_of_spans}
use Rattle.report_stages.proofs.zones.put_buddyinfo.Goals as goal

pub returns : goal.returns
returns c =
    let f = node_of_free_frame c.args.buddy.now in
    rw (← lines_of_spans f 0 0 c.args.spans.now)
    (c.put_indexed_lines.ensures.puts (λ n s. buddyinfo_text f (s ∷ [])) (search rules))
