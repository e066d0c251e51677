-- The calls append the parts of the text one after another.
use Rattle.std.proofs.Common.{Ok, arith}
use Rattle.std.proofs.lemmas.Grind.{common_steps}
use Rattle.report_memory.specs.Lines.{indexed_lines}
use Rattle.report_memory.proofs.PutLaws.{goes_on}
use Rattle.report_stages.specs.SectionsText.{root_line, roots_line}
use Rattle.report_stages.proofs.sections.put_roots.Goals as goal

pub returns : goal.returns
returns c =
    rw (← c.deref.ensures.value)
    (goes_on c.args.text.now c.put_text.new.out c.put_indexed_lines.new.text (Ok tt) (roots_line c.args.roots.now.table)
    (indexed_lines root_line 0 c.deref.result.now) (c.in_ok-put_indexed_lines.ensures.puts root_line (λ t i x answer u says. says))
    (grind (arith, common_steps)) (grind (arith, common_steps)))
