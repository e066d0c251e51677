-- The records so far are whole.
use Rattle.std.proofs.Common.{ℕ, ◌<◌, get_or}
use Rattle.address_runs.specs.Runs.{RunOf}
use Rattle.memblock_model.specs.Labels.{LabelView}
use Rattle.sparse_sections.specs.Present.{IsWholeFramesWithNode}
use Rattle.memblock_cases.proofs.of_sparse_sections.are_whole.Given as goal

abbrev pub invariant-loop-i : goal.invariant-loop-i
invariant-loop-i l = (k : ℕ) (d : RunOf LabelView) → k < l.i → IsWholeFramesWithNode (get_or l.tables.memory.records k d)
