use Rattle.std.proofs.Common.{◌≡◌, ◌≤◌, max, sym, ◌∙◌, arith}
use Rattle.std.proofs.lemmas.Grind.{common_steps}
use Rattle.address_runs.specs.Runs.{value_at}
use Rattle.memblock_find.proofs.UpLaws.{stretch_rises, stretch_up}
use Rattle.memblock_find.proofs.BottomLaws.{lowest_answer, none_yet, none_at_all}
use Rattle.memblock_find.proofs.bottom.find_upward.Goals as goal

pub returns-then-is_some : goal.returns-then-is_some
returns-then-is_some c =
    let t = c.record_readers-lists.result in
    let i = c.loop-cursor.invariant in
    rw (← c.record_readers-lists.ensures.memory, ← c.record_readers-lists.ensures.reserved)
    (lowest_answer c.args.mirror (value_at t.memory) (value_at t.reserved) c.args.query.now c.loop-cursor.cursor.at c.top.result
    c.lowest_place_in_stretch-place.result c.requires.some i.past
    (c.lowest_place_in_stretch-place.ensures (value_at t.memory) (value_at t.reserved)
    (stretch_rises t.memory t.reserved c.loop-cursor.cursor c.top.result c.unclaimed_label.result i.walk c.top.ensures
    c.unclaimed_label.ensures)
    (stretch_up t.memory t.reserved c.loop-cursor.cursor c.top.result c.unclaimed_label.result i.walk c.top.ensures
    c.unclaimed_label.ensures))
    (grind (arith, common_steps)) (omega arith))

pub loop-cursor-preserved : goal.loop-cursor-preserved
loop-cursor-preserved c =
    let t = c.record_readers-lists.result in
    let i = c.loop-cursor.invariant in
    let at = c.up-cursor.ensures.at in
    let memory = i.walk.memory.order in
    let reserved = i.walk.reserved.order in
    let top : c.top.result ≡ c.up-cursor.result.at = c.top.ensures ∙ sym at in
    record {
      walk = c.up-cursor.ensures.up;
      window = omega (arith, i.window);
      past = rw (← top) (none_yet c.args.mirror (value_at t.memory) (value_at t.reserved) c.args.query.now (max c.args.query.now.lo 4096)
          c.loop-cursor.cursor.at c.top.result c.lowest_place_in_stretch-place.result i.past
          (c.lowest_place_in_stretch-place.ensures (value_at t.memory) (value_at t.reserved)
          (stretch_rises t.memory t.reserved c.loop-cursor.cursor c.top.result c.unclaimed_label.result i.walk c.top.ensures
          c.unclaimed_label.ensures)
          (stretch_up t.memory t.reserved c.loop-cursor.cursor c.top.result c.unclaimed_label.result i.walk c.top.ensures
          c.unclaimed_label.ensures))
          (grind (arith, common_steps)));
    }

pub returns : goal.returns
returns c =
    let t = c.record_readers-lists.result in
    let high : c.args.query.now.hi ≤ c.loop-cursor.cursor.at = grind (arith, common_steps) in
    rw (← c.record_readers-lists.ensures.memory, ← c.record_readers-lists.ensures.reserved)
    (sym (none_at_all c.args.mirror (value_at t.memory) (value_at t.reserved) c.args.query.now c.loop-cursor.cursor.at c.requires.some
    c.loop-cursor.invariant.past high))
