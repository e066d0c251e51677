use Rattle.std.proofs.Common.{◌≡◌, ◌-◌, ◌≤◌, false, max, min, sym, ◌∙◌, ap, subst, arith}
use Rattle.std.proofs.lemmas.Grind.{common_steps}
use Rattle.address_runs.specs.Runs.{run_end, value_at}
use Rattle.memblock_find.specs.Places.{NoPlaceEndsBetween}
use Rattle.memblock_find.specs.Walk.{nth_record}
use Rattle.memblock_find.proofs.DownLaws.{stretch_stays, stretch_down}
use Rattle.memblock_find.proofs.PlaceLaws.{none_above, best_answer, no_answer, none_found}
use Rattle.memblock_find.proofs.SlotLaws.{nothing_after}
use Rattle.memblock_find.proofs.search.find_any_downward.Goals as goal

pub loop-cursor-init : goal.loop-cursor-init
loop-cursor-init c =
    let t = c.args.lists.now in
    let high : c.start_walk_down-cursor.result.at ≡ min c.args.query.now.hi c.end_of_records-end.result =
    c.start_walk_down-cursor.ensures.at ∙ c.min-high.ensures in
    let after = nothing_after t.memory c.end_of_records-end.result c.count.ensures.records.runs
    (λ some. c.end_of_records-end.ensures.end (omega (arith, some, c.count.ensures.count))
    ∙ ap (λ n. run_end (nth_record t.memory (n - 1))) c.count.ensures.count) in
    record {
      walk = c.start_walk_down-cursor.ensures.down;
      window = omega (arith, high);
      past = subst (λ at. NoPlaceEndsBetween false (value_at t.memory) (value_at t.reserved) c.args.query.now at c.args.query.now.hi)
          (sym high)
          (none_above false (value_at t.memory) (value_at t.reserved) c.args.query.now c.end_of_records-end.result c.requires.some after);
    }

pub returns-then-is_some : goal.returns-then-is_some
returns-then-is_some c =
    let t = c.args.lists.now in
    let i = c.loop-cursor.invariant in
    best_answer false (value_at t.memory) (value_at t.reserved) c.args.query.now c.bottom.result c.loop-cursor.cursor.at
    c.highest_place_in_stretch-place.result i.past
    (c.highest_place_in_stretch-place.ensures (value_at t.memory) (value_at t.reserved)
    (stretch_stays t.memory t.reserved c.loop-cursor.cursor c.bottom.result c.unclaimed_label.result i.walk c.bottom.ensures
    c.unclaimed_label.ensures)
    (stretch_down t.memory t.reserved c.loop-cursor.cursor c.bottom.result c.unclaimed_label.result i.walk c.bottom.ensures
    c.unclaimed_label.ensures))
    (grind (arith, common_steps)) (omega arith)

pub loop-cursor-preserved : goal.loop-cursor-preserved
loop-cursor-preserved c =
    let t = c.args.lists.now in
    let i = c.loop-cursor.invariant in
    let at = c.down-cursor.ensures.at in
    let memory = i.walk.memory.order in
    let reserved = i.walk.reserved.order in
    let bottom : c.bottom.result ≡ c.down-cursor.result.at = c.bottom.ensures ∙ sym at in
    record {
      walk = c.down-cursor.ensures.down;
      window = omega (arith, i.window);
      past = rw (← bottom) (no_answer false (value_at t.memory) (value_at t.reserved) c.args.query.now c.bottom.result
          c.loop-cursor.cursor.at c.highest_place_in_stretch-place.result i.past
          (c.highest_place_in_stretch-place.ensures (value_at t.memory) (value_at t.reserved)
          (stretch_stays t.memory t.reserved c.loop-cursor.cursor c.bottom.result c.unclaimed_label.result i.walk c.bottom.ensures
          c.unclaimed_label.ensures)
          (stretch_down t.memory t.reserved c.loop-cursor.cursor c.bottom.result c.unclaimed_label.result i.walk c.bottom.ensures
          c.unclaimed_label.ensures))
          (grind (arith, common_steps)));
    }

pub returns : goal.returns
returns c =
    let t = c.args.lists.now in
    let low : c.loop-cursor.cursor.at ≤ max c.args.query.now.lo 4096 = grind (arith, common_steps) in
    sym (none_found false (value_at t.memory) (value_at t.reserved) c.args.query.now c.loop-cursor.cursor.at c.requires.some
    c.loop-cursor.invariant.past low)
