-- The lines so far have been run.
use Rattle.std.proofs.Common.{◌≡◌, ◌+◌, ◌≤◌, List, length, take, vec_len, vec_capacity}
use Rattle.growth_model.specs.Tables.{HasFirstItem}
use Rattle.growth_model.specs.Bytes.{Fill, AreBytesFromHistory}
use Rattle.memblock_grow.specs.Invariant.{StayPrepared}
use Rattle.early_script.specs.FromMemblock.{memblock_bytes}
use Rattle.early_script.specs.Lines.{MatchesScriptSoFar, script_so_far, script_after_lines}
use Rattle.early_script.proofs.lines.run_script_lines.Given as goal

abbrev pub invariant-loop-line : goal.invariant-loop-line
invariant-loop-line l = record {
  begun : HasFirstItem l.mb.journal.items;
  kernel : l.mb.kernel ≡ l.fn.mb.kernel;
  reached : (fills : List Fill) → AreBytesFromHistory l.fn.mb.kernel l.fn.mb.journal.items fills (memblock_bytes l.fn.mb) →
      MatchesScriptSoFar (script_after_lines (script_so_far l.fn.live l.fn.mb fills l.fn.answers.items) (take l.line-index l.lines))
      l.live l.mb
      l.answers.items;
  room : vec_len l.answers + length l.lines ≤ vec_capacity l.answers + l.line-index;
  ready : StayPrepared l.fn.mb.tables.store l.mb.tables.store;
}
