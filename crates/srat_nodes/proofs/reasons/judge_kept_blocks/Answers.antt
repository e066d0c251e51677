use Rattle.std.proofs.Common.{List, sym, ◌∙◌, ap}
use Rattle.address_runs.specs.Runs.{value_at}
use Rattle.srat_nodes.specs.NodeAt.{NumaBlock}
use Rattle.srat_nodes.specs.SratNodesView.{count_frames_with_node}
use Rattle.srat_nodes.specs.Kept.{is_in_any_range}
use Rattle.srat_nodes.proofs.JudgedLaws.{Found, found_overlap, found_uncovered, found_used}
use Rattle.srat_nodes.proofs.NodesLaws.{joined_kept}
use Rattle.srat_nodes.proofs.reasons.judge_kept_blocks.Goals as goal

pub returns-in-Some : goal.returns-in-Some
returns-in-Some c =
    c.unused_srat.ensures
    ∙ sym (found_overlap (is_in_any_range c.args.memory.now) c.args.domains.items c.args.kept.now c.in-Some.i c.in-Some.j
    (sym c.first_overlap.ensures ∙ c.in-Some.is))

pub returns-then-uncovered-ge-UNCOVERED_FRAMES : goal.returns-then-uncovered-ge-UNCOVERED_FRAMES
returns-then-uncovered-ge-UNCOVERED_FRAMES c =
    let memory = is_in_any_range c.args.memory.now in
    let kept = c.args.kept.now in
    let joined = c.in_ok-joined.joined.items in
    let rest = c.in_ok-rest.rest.items in
    let found : Found memory kept joined rest c.count_frames-uncovered.result = record {
      apart = sym c.first_overlap.ensures ∙ c.in_default.is;
      kept_space = c.requires.space;
      hulls = joined_kept kept c.in_ok-laid.laid.items c.deref.result.now joined (sym c.first_overlap.ensures ∙ c.in_default.is)
          c.requires.some c.in_ok-laid.ensures c.deref.ensures.value c.in_ok-joined.ensures;
      left = rw (c.lowest_node.ensures, c.deref-2.ensures.value) at c.in_ok-rest.ensures.runs;
      left_space = c.in_ok-rest.ensures.space;
      counted = c.count_frames-uncovered.ensures
          ∙ ap (λ (rs : List NumaBlock). count_frames_with_node (value_at rs)) c.deref-3.ensures.value;
    } in
    c.unused_srat-then-uncovered-ge-UNCOVERED_FRAMES.ensures
    ∙ sym (found_uncovered memory kept joined rest c.count_frames-uncovered.result found c.args.domains.items
    c.if-uncovered-ge-UNCOVERED_FRAMES.true)

pub returns : goal.returns
returns c =
    let memory = is_in_any_range c.args.memory.now in
    let kept = c.args.kept.now in
    let joined = c.in_ok-joined.joined.items in
    let rest = c.in_ok-rest.rest.items in
    let found : Found memory kept joined rest c.count_frames-uncovered.result = record {
      apart = sym c.first_overlap.ensures ∙ c.in_default.is;
      kept_space = c.requires.space;
      hulls = joined_kept kept c.in_ok-laid.laid.items c.deref.result.now joined (sym c.first_overlap.ensures ∙ c.in_default.is)
          c.requires.some c.in_ok-laid.ensures c.deref.ensures.value c.in_ok-joined.ensures;
      left = rw (c.lowest_node.ensures, c.deref-2.ensures.value) at c.in_ok-rest.ensures.runs;
      left_space = c.in_ok-rest.ensures.space;
      counted = c.count_frames-uncovered.ensures
          ∙ ap (λ (rs : List NumaBlock). count_frames_with_node (value_at rs)) c.deref-3.ensures.value;
    } in
    sym (found_used memory kept joined rest c.count_frames-uncovered.result found c.args.domains.items
    c.if-uncovered-ge-UNCOVERED_FRAMES.false)

pub uncovered_runs-requires-clause-joined : goal.uncovered_runs-requires-clause-joined
uncovered_runs-requires-clause-joined c =
    rw c.deref-2.ensures.value (joined_kept c.args.kept.now c.in_ok-laid.laid.items c.deref.result.now c.in_ok-joined.joined.items
    (sym c.first_overlap.ensures ∙ c.in_default.is) c.requires.some c.in_ok-laid.ensures c.deref.ensures.value c.in_ok-joined.ensures).runs
