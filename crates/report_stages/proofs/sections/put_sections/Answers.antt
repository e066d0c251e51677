-- The calls append the parts of the text one after another.
use Rattle.std.proofs.Common.{Ok}
use Rattle.report_memory.specs.Lines.{indexed_lines}
use Rattle.report_memory.proofs.PutLaws.{goes_on}
use Rattle.report_stages.specs.SectionsText.{roots_text, section_line}
use Rattle.report_stages.proofs.sections.put_sections.Goals as goal

pub returns : goal.returns
returns c =
    let roots = c.args.roots.now in
    let first = c.in_ok-put_roots.ensures in
    goes_on c.args.text.now c.put_roots.new.text c.put_indexed_lines.new.text (Ok tt)
    (roots_text (record { table = roots.table; roots = roots.roots.items })) (indexed_lines section_line 0 c.args.placed.now)
    (c.in_ok-put_indexed_lines.ensures.puts section_line (λ t i x answer u says. says)) first.0 first.1
