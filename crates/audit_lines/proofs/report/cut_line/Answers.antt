use Rattle.std.proofs.Common.{◌≡◌, ◌≤◌, List, ℕ, [], length, take, drop, sym, ◌∙◌, arith}
use Rattle.std.proofs.lemmas.List.{take_all, drop_all}
use Rattle.audit_lines.specs.Reports.{split_lines}
use Rattle.audit_lines.proofs.SplitLaws.{glued, glued_end, newline_found, byte_passed}
use Rattle.audit_lines.proofs.report.cut_line.Goals as goal

pub returns-then-byte-eq10-clause-line : goal.returns-then-byte-eq10-clause-line
returns-then-byte-eq10-clause-line c =
    rw (c.split_at.ensures.front, c.split_at-then-byte-eq10.ensures.back)
    (sym c.loop-index.invariant ∙ newline_found c.args.text.now c.loop-index.index c.loop-index-test.true c.if-byte-eq10.true)

pub loop-index-preserved : goal.loop-index-preserved
loop-index-preserved c =
    byte_passed c.args.text.now c.loop-index.index c.loop-index-test.true c.if-byte-eq10.false ∙ c.loop-index.invariant

all_glued : (text : List ℕ) (i : ℕ) → length text ≤ i → glued (take i text) (split_lines (drop i text)) ≡ split_lines text
    → split_lines text ≡ ([], text)
unfolding split_lines
all_glued text i end so = sym so ∙ rw (take_all i text end, drop_all i text end) (glued_end text)

pub returns-clause-none : goal.returns-clause-none
returns-clause-none c = all_glued c.args.text.now c.loop-index.index (omega arith) c.loop-index.invariant
