use Rattle.std.proofs.Common.{◌≤◌, max, sym, arith}
use Rattle.std.proofs.lemmas.Grind.{common_steps}
use Rattle.address_runs.specs.Runs.{value_at}
use Rattle.memblock_find.proofs.DownLaws.{stretch_stays, stretch_down}
use Rattle.memblock_find.proofs.PlaceLaws.{best_answer, no_answer, none_found}
use Rattle.memblock_find.proofs.NodeLaws.{past_refused}
use Rattle.memblock_find.proofs.node.find_restricted_downward.Goals as goal

pub returns-then-is_some : goal.returns-then-is_some
returns-then-is_some c =
    let t = c.record_readers-lists.result in
    let i = c.loop-cursor.invariant in
    rw (← c.record_readers-lists.ensures.memory, ← c.record_readers-lists.ensures.reserved)
    (best_answer c.args.mirror (value_at t.memory) (value_at t.reserved) c.args.query.now c.bottom.result c.loop-cursor.cursor.at
    c.highest_place_in_stretch-place.result i.past
    (c.highest_place_in_stretch-place.ensures (value_at t.memory) (value_at t.reserved)
    (stretch_stays t.memory t.reserved c.loop-cursor.cursor c.bottom.result c.unclaimed_label.result i.walk c.bottom.ensures
    c.unclaimed_label.ensures)
    (stretch_down t.memory t.reserved c.loop-cursor.cursor c.bottom.result c.unclaimed_label.result i.walk c.bottom.ensures
    c.unclaimed_label.ensures))
    (grind (arith, common_steps)) (omega arith))

pub loop-cursor-preserved : goal.loop-cursor-preserved
loop-cursor-preserved c =
    let t = c.record_readers-lists.result in
    let i = c.loop-cursor.invariant in
    let further = c.down_to_allowed-cursor.ensures in
    let memory = i.walk.memory.order in
    let reserved = i.walk.reserved.order in
    record {
      walk = further.down;
      window = omega (arith, i.window, further.order);
      past = past_refused c.args.mirror (value_at t.memory) (value_at t.reserved)
          c.args.query.now c.down_to_allowed-cursor.result.at c.bottom.result
          c.requires.some (rw c.bottom.ensures further.passed)
          (no_answer c.args.mirror (value_at t.memory) (value_at t.reserved) c.args.query.now c.bottom.result
          c.loop-cursor.cursor.at c.highest_place_in_stretch-place.result i.past
          (c.highest_place_in_stretch-place.ensures (value_at t.memory) (value_at t.reserved)
          (stretch_stays t.memory t.reserved c.loop-cursor.cursor c.bottom.result c.unclaimed_label.result i.walk c.bottom.ensures
          c.unclaimed_label.ensures)
          (stretch_down t.memory t.reserved c.loop-cursor.cursor c.bottom.result c.unclaimed_label.result i.walk c.bottom.ensures
          c.unclaimed_label.ensures))
          (grind (arith, common_steps)));
    }

pub returns : goal.returns
returns c =
    let t = c.record_readers-lists.result in
    let low : c.loop-cursor.cursor.at ≤ max c.args.query.now.lo 4096 = grind (arith, common_steps) in
    rw (← c.record_readers-lists.ensures.memory, ← c.record_readers-lists.ensures.reserved)
    (sym (none_found c.args.mirror (value_at t.memory) (value_at t.reserved) c.args.query.now c.loop-cursor.cursor.at c.requires.some
    c.loop-cursor.invariant.past low))
