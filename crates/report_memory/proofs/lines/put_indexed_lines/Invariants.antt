-- For any format of a line, the text so far and the lines of the elements that are left are
-- together the whole text. If no call allocates other memory, the text's room doesn't shrink.
use Rattle.std.proofs.Common.{◌≡◌, ℕ, ◌≤◌, List, ◌++◌, drop, vec_capacity}
use Rattle.std.specs.Prelude.{OnOk}
use Rattle.bm_base.specs.PutsText.{PutsText}
use Rattle.report_memory.specs.Lines.{indexed_lines}
use Rattle.report_memory.proofs.lines.put_indexed_lines.Given as goal

abbrev pub invariant-loop-index : goal.invariant-loop-index
invariant-loop-index g l = record {
  lines : (line : ℕ → g.row.T.Denot → List ℕ)
      → ((t : _) (i : _) (x : _) (answer : _) (u : _) → goal.F-post g l.put t i x answer u
      → OnOk answer (u.now.items ≡ t.now.items ++ line i x.now))
      → l.text.items ++ indexed_lines line l.index (drop l.index l.items) ≡ l.fn.text.items ++ indexed_lines line 0 l.items;
  puts : (line : ℕ → g.row.T.Denot → List ℕ)
      → ((t : _) (i : _) (x : _) (answer : _) (u : _) → goal.F-post g l.put t i x answer u
      → PutsText t.now u.now answer (line i x.now))
      → (l.text.items ++ indexed_lines line l.index (drop l.index l.items) ≡ l.fn.text.items ++ indexed_lines line 0 l.items)
      × (vec_capacity l.fn.text ≤ vec_capacity l.text);
}
