use Rattle.std.proofs.Common.{◌≡◌, ◌<◌, [], length, get_or, None, refl, sym, ◌∙◌, arith}
use Rattle.std.proofs.lemmas.List.{get_or_past}
use Rattle.address_runs.specs.Runs.{RunOf, value_at}
use Rattle.memblock_model.specs.Labels.{LabelView, plain_label}
use Rattle.memblock_ranges.specs.Tables.{records_of_head}
use Rattle.memblock_ranges.proofs.LentLaws.{count_is}
use Rattle.memblock_frames.specs.Frames.{node_of_frame}
use Rattle.memblock_frames.proofs.TakeLaws.{frames_below, frames_in_order, frames_some}
use Rattle.zone_spans.proofs.SlotLaws.{told_none, bounded_higher}
use Rattle.zone_spans.proofs.TableLaws.{low_node, nothing_taken, taken_run, taken_left, taken_all}
use Rattle.zone_spans.proofs.span.slots_of_memory.Goals as goal
use Rattle.zone_spans.proofs.span.slots_of_memory.Goals.{in-Some+in_ok-add_frames, in_default}

nobody : RunOf LabelView
nobody = record { base = 0; size = 0; value = plain_label }

pub loop-i-init : goal.loop-i-init
loop-i-init c =
    let empty = c.new-slots.ensures.items in
    record {
      few = omega arith;
      bounded = λ k d from inner i s is. absurd (cc (sym (get_or_past [] i None (omega arith)) ∙ rw empty at is));
      told = rw empty (told_none (node_of_frame (value_at [])) (λ x. refl));
    }

pub add_frames-requires-clause-node : goal.add_frames-requires-clause-node
add_frames-requires-clause-node c =
    let ms = records_of_head c.args.store.now c.args.heads.now.memory in
    low_node (get_or ms c.loop-i.i nobody).value.node c.in-Some.node (rw (c.frames_of_record-frames.ensures nobody) at c.in-Some.is)

pub add_frames-requires-clause-order : goal.add_frames-requires-clause-order
add_frames-requires-clause-order c = frames_some (get_or _ c.loop-i.i nobody) _ (c.frames_of_record-frames.ensures nobody)

pub add_frames-requires-clause-low : goal.add_frames-requires-clause-low
add_frames-requires-clause-low c =
    let ms = records_of_head c.args.store.now c.args.heads.now.memory in
    let few : c.loop-i.i < length ms = omega (arith, count_is c.args.store.now c.args.heads.now.memory) in
    frames_below _ _ ms c.loop-i.i nobody _ c.requires.memory.ascend few (c.frames_of_record-frames.ensures nobody) (omega arith)

pub add_frames-requires-clause-bounded : goal.add_frames-requires-clause-bounded
add_frames-requires-clause-bounded c =
    rw (c.frames_of_record-frames.ensures nobody) (c.loop-i.invariant.bounded c.loop-i.i nobody (omega arith) c.loop-i-test.true)

pub loop-i-preserved : goal.loop-i-preserved
loop-i-preserved c =
    let ms = records_of_head c.args.store.now c.args.heads.now.memory in
    let i = c.loop-i.i in
    let long = count_is c.args.store.now c.args.heads.now.memory in
    let few : i < length ms = omega (arith, long) in
    let is = c.frames_of_record-frames.ensures nobody in
    let ascend = c.requires.memory.ascend in
    let whole = c.requires.whole in
    let told = c.loop-i.invariant.told in
    elim c.match-frames.branch [
      | in-Some+in_ok-add_frames w ↦
          let nothing = nothing_taken _ ms i nobody ascend whole few in
          let more = taken_run _ ms i w.in-Some.node nobody ascend whole few (rw is at w.in-Some.is) in
          record {
            few = rw w.slots-is w.in_ok-add_frames.ensures.few;
            bounded = λ k d later inner.
                let below : k < length ms = omega (arith, long, inner) in
                let order = frames_in_order _ ms i k d _ ascend whole (omega (arith, later)) below (c.frames_of_record-frames.ensures d) in
                rw w.slots-is (bounded_higher _ _ w.add_frames.new.slots.items order w.in_ok-add_frames.ensures.bounded);
            told = rw (w.slots-is, ← more) (rw is at (w.in_ok-add_frames.ensures.told _ (rw is nothing) told));
          }
      | in_default w ↦
          let same = taken_left _ ms i nobody ascend whole few (rw is at w.in_default.is) in
          record {
            few = rw w.slots-is c.loop-i.invariant.few;
            bounded = λ k d later inner. rw w.slots-is (c.loop-i.invariant.bounded k d (omega (arith, later)) inner);
            told = rw (w.slots-is, ← same) told;
          }
    ]

pub returns-clause-spans : goal.returns-clause-spans
returns-clause-spans c =
    let ms = records_of_head c.args.store.now c.args.heads.now.memory in
    let all : c.loop-i.i ≡ length ms = omega (arith, count_is c.args.store.now c.args.heads.now.memory) in
    rw (← taken_all ms c.loop-i.i all) c.loop-i.invariant.told
