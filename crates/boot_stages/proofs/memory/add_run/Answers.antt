-- The run is one item or none, by its type and place.
use Rattle.std.proofs.Common.{◌≡◌, ℕ, ◌<◌, Some, true, Ok, ap, sym, ◌∙◌, subst, inl, inr, arith}
use Rattle.bm_base.specs.Range.{RangeView}
use Rattle.address_runs.specs.Runs.{RunOf}
use Rattle.e820_model.specs.Usable.{is_memory}
use Rattle.memblock_model.specs.declared.owner.Owner.TheVariants as owner
use Rattle.memblock_model.specs.declared.item.Item.TheVariants as item
use Rattle.stage_steps.specs.Causes.{refusal_for}
use Rattle.stage_steps.specs.Steps.{EndsAsStage}
use Rattle.early_memory.specs.FirstItems.{items_of_run}
use Rattle.boot_model.specs.First.{items_with_growths}
use Rattle.boot_stages.proofs.ItemsLaws.{carries-change, carries-nothing}
use Rattle.boot_stages.proofs.MemoryLaws.{high_run, memory_run, other_run, soft_run}
use Rattle.boot_stages.proofs.memory.add_run.Goals as goal

pub returns-then-run-clause-ends : goal.returns-then-run-clause-ends
returns-then-run-clause-ends c =
    let run : RunOf ℕ = record { base = c.run.inside.range.base; size = c.run.inside.range.size; value = c.run.inside.kind } in
    rw (← c.run.view_is, soft_run c.args.reach run c.if-run.true)
    (carries-change _ (item.Claim c.run.inside.range owner.Soft) _ _ c.claim.ensures.ends)

pub returns-then-not-is_memory-clause-ends : goal.returns-then-not-is_memory-clause-ends
returns-then-not-is_memory-clause-ends c =
    let old = c.args.memblock.now.journal.items in
    let run : RunOf ℕ = record { base = c.run.inside.range.base; size = c.run.inside.range.size; value = c.run.inside.kind } in
    let Ends : RunOf ℕ → Type 0 =
    λ x. EndsAsStage {A = Unit {0}} (items_with_growths (items_of_run c.args.reach x)) refusal_for (Ok tt) old old in
    subst Ends c.run.view_is (elim c.then-not-is_memory.either as (λ _. Ends run) [
      | inl other ↦ rw (other_run c.args.reach run c.if-run.false (sym c.is_memory.ensures ∙ other)) (carries-nothing old)
      | inr high ↦
          let same : c.range.inside.base ≡ run.base = ap (λ (e : RangeView). e.base) c.range.view_is in
          rw (high_run c.args.reach run c.if-run.false (omega (arith, same, high.1))) (carries-nothing old)
    ])

pub returns-clause-ends : goal.returns-clause-ends
returns-clause-ends c =
    let run : RunOf ℕ = record { base = c.run.inside.range.base; size = c.run.inside.range.size; value = c.run.inside.kind } in
    let same : c.range.inside.base ≡ run.base = ap (λ (e : RangeView). e.base) c.range.view_is in
    let low : run.base < c.args.reach = omega (arith, same, c.if-range-reach.false) in
    let memory : is_memory (Some run.value) ≡ true = sym c.is_memory.ensures ∙ c.if-not-is_memory.false in
    rw (← c.run.view_is, memory_run c.args.reach run c.if-run.false memory low, ← c.below_limit.ensures)
    (carries-change _ (item.Mem c.below_limit.result) _ _ c.add_memory.ensures.ends)
