use Rattle.std.proofs.Common.{length, refl, arith}
use Rattle.address_runs.specs.Runs.{value_at}
use Rattle.srat_nodes.proofs.RestLaws.{frames_first, frames_few, frames_last}
use Rattle.srat_nodes.proofs.rest.count_frames.Goals as goal

pub overflow_add-frames : goal.overflow_add-frames
overflow_add-frames c =
    let l = c.loop-rest in
    let step = frames_first c.run-item.result l.rest.now (length l.rest.now) c.in-len1-up.len_at_least refl c.run-item.is l.invariant.runs
    c.count_frames_of_run-frames.ensures.space in
    omega (arith, step.1, l.invariant.counted, c.count_frames_of_run-frames.ensures.value, frames_few (value_at c.args.runs.now))

pub loop-rest-preserved : goal.loop-rest-preserved
loop-rest-preserved c =
    let l = c.loop-rest in
    let step = frames_first c.run-item.result l.rest.now (length l.rest.now) c.in-len1-up.len_at_least refl c.run-item.is l.invariant.runs
    c.count_frames_of_run-frames.ensures.space in
    record { runs = step.0; counted = omega (arith, step.1, l.invariant.counted, c.count_frames_of_run-frames.ensures.value) }

pub returns : goal.returns
returns c = omega (arith, c.loop-rest.invariant.counted, frames_last c.loop-rest.rest.now c.in_default.len_below)
