-- The next line continues from the stage that the lines before it reached.
use Rattle.std.proofs.Common.{take, Result, Ok, Err, OnErr, ◌∙◌, ap, arith, inr}
use Rattle.std.proofs.lemmas.List.{take_all}
use Rattle.bm_base.specs.declared.memory.Memory.{Memory}
use Rattle.growth_model.specs.Change.{items_of_steps}
use Rattle.early_script.specs.Effects.{ScriptState, act_effect}
use Rattle.early_script.specs.FromMemblock.{state_of_memblock, memblock_bytes}
use Rattle.early_script.specs.Lines.{script_so_far, script_after_lines}
use Rattle.early_script.proofs.OutLaws.{out-amid, between-all, between-none, between-out}
use Rattle.early_script.proofs.StageLaws.{script_after_lines-append, begun-along, reaches-line, take_next}
use Rattle.early_script.proofs.lines.run_script_lines.Goals as goal

pub loop-line-preserved : goal.loop-line-preserved
loop-line-preserved c =
    let m = c.loop-line.mb in
    let line = c.line-item.result in
    let i = c.loop-line.line-index in
    let d = act_effect (state_of_memblock c.loop-line.live m) (memblock_bytes m) line.act in
    let acts = c.in_ok-outcome.ensures.acts in
    record {
      begun = begun-along m.journal.items (items_of_steps (d.change m.journal.items).steps) c.run_line.new.mb.journal.items
          (ap (λ (s : ScriptState). s.items) acts.1) c.loop-line.invariant.begun;
      kernel = ap (λ (s : ScriptState). s.kernel) acts.1 ∙ c.loop-line.invariant.kernel;
      reached = λ fills holds.
          let start = script_so_far c.args.live.now c.args.mb.now fills c.args.answers.now.items in
          let so_far = take i c.args.lines.now in
          let more = take_next c.args.lines.now i line (omega arith) c.line-item.is in
          rw (c.push_within_capacity.ensures.items, more, script_after_lines-append start so_far line)
          (reaches-line (script_after_lines start so_far)
          c.loop-line.live c.run_line.new.self m c.run_line.new.mb c.loop-line.answers.items line c.in_ok-outcome.outcome
          (c.loop-line.invariant.reached fills holds) acts c.in_ok-outcome.ensures.holds);
      room = omega (arith, c.loop-line.invariant.room, c.push_within_capacity.ensures.len, c.push_within_capacity.ensures.capacity);
      ready = λ x h. c.run_line.ensures.still_ready x (c.loop-line.invariant.ready x h);
    }

-- what always holds, holds of each error
on_err : (r : Result (Unit {0}) Memory) (P : Type 0) → P → OnErr r P
on_err (Ok x) P holds = tt
on_err (Err memory) P holds = holds

pub returns-in_err-reserve-clause-journal : goal.returns-in_err-reserve-clause-journal
returns-in_err-reserve-clause-journal c =
    λ fills holds. between-none (script_so_far c.args.live.now c.args.mb.now fills c.args.answers.now.items) c.args.lines.now

pub returns-in_err-outcome-clause-memory : goal.returns-in_err-outcome-clause-memory
returns-in_err-outcome-clause-memory c =
    let line = c.line-item.result in
    let i = c.loop-line.line-index in
    let more = take_next c.args.lines.now i line (omega arith) c.line-item.is in
    on_err c.from_residual-in_err-outcome.result _ (inr (λ fills holds. out-amid (script_so_far c.args.live.now c.args.mb.now fills
    c.args.answers.now.items) c.args.lines.now i line c.loop-line.live c.run_line.new.self c.loop-line.mb c.run_line.new.mb
    c.loop-line.answers.items more (c.loop-line.invariant.reached fills holds) c.in_err-outcome.ensures.acts
    c.in_err-outcome.ensures.holds))

pub returns-in_err-outcome-clause-journal : goal.returns-in_err-outcome-clause-journal
returns-in_err-outcome-clause-journal c =
    let line = c.line-item.result in
    let i = c.loop-line.line-index in
    let more = take_next c.args.lines.now i line (omega arith) c.line-item.is in
    λ fills holds. (
    let start = script_so_far c.args.live.now c.args.mb.now fills c.args.answers.now.items in
    between-out start c.args.lines.now c.run_line.new.self c.run_line.new.mb c.loop-line.answers.items
    (out-amid start c.args.lines.now i line c.loop-line.live c.run_line.new.self c.loop-line.mb c.run_line.new.mb
    c.loop-line.answers.items more (c.loop-line.invariant.reached fills holds) c.in_err-outcome.ensures.acts
    c.in_err-outcome.ensures.holds))

pub returns-clause-journal : goal.returns-clause-journal
returns-clause-journal c =
    λ fills holds. (
    let start = script_so_far c.args.live.now c.args.mb.now fills c.args.answers.now.items in
    between-all start c.args.lines.now c.loop-line.live c.loop-line.mb c.loop-line.answers.items
    (rw (take_all c.loop-line.line-index c.args.lines.now (omega arith)) at (c.loop-line.invariant.reached fills holds)))
