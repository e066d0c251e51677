-- The bytes are those of runs that don't overlap, below the limit.
use Rattle.std.proofs.Common.{◌≡◌, ℕ, suc, ◌+◌, List, ◌∷◌, drop, get_or, ap, drop-cons, arith}
use Rattle.address_runs.specs.Runs.{RunOf}
use Rattle.boot_model.specs.Added.{added_by_run, memory_bytes_of_map}
use Rattle.boot_stages.proofs.AddedLaws.{added-cons, added-within}
use Rattle.boot_stages.proofs.added.memory_bytes_of_map.Goals as goal

pub overflow_add-added : goal.overflow_add-added
overflow_add-added c =
    let reach = c.args.reach in
    let map : List (RunOf ℕ) = c.args.map.now in
    let i = c.loop-run.run-index in
    let run = c.run-item.result in
    let kept : c.loop-run.added + memory_bytes_of_map reach (drop i map) ≡ memory_bytes_of_map reach map = c.loop-run.invariant in
    let next : memory_bytes_of_map reach (drop i map) ≡ memory_bytes_of_map reach (get_or map i run ∷ drop (suc i) map) = ap
    (λ (rs : List (RunOf ℕ)). memory_bytes_of_map reach rs) (drop-cons map i run c.loop-run-test.true) in
    let sum = added-cons reach (get_or map i run) (drop (suc i) map) in
    omega (
      arith,
      kept,
      next,
      sum,
      ap (added_by_run reach) c.run-item.is,
      c.added_by_run-added.ensures,
      added-within reach map c.requires.runs,
      c.requires.reach,
    )

pub returns-clause-in_reach : goal.returns-clause-in_reach
returns-clause-in_reach c =
    omega (arith, c.loop-run.invariant, added-within c.args.reach c.args.map.now c.requires.runs, c.requires.reach)
