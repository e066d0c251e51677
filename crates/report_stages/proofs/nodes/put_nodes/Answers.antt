-- The calls append the parts of the text one after another.
use Rattle.std.proofs.Common.{◌++◌, Ok, arith}
use Rattle.std.proofs.lemmas.Grind.{common_steps}
use Rattle.report_memory.specs.Lines.{indexed_lines}
use Rattle.report_memory.proofs.PutLaws.{goes_on}
use Rattle.report_stages.specs.NodesText.{domain_line, node_line, uncovered_line, srat_use_line}
use Rattle.report_stages.proofs.nodes.put_nodes.Goals as goal

pub returns : goal.returns
returns c =
    let nodes = c.args.nodes.now in
    let domains = c.in_ok-put_indexed_lines.ensures.puts domain_line (λ t i x answer u says. says) in
    rw (← c.items.ensures.items)
    (goes_on c.args.text.now c.put_uncovered_line.new.text c.put_indexed_lines-2.new.text (Ok tt)
    (srat_use_line nodes.why ++ indexed_lines domain_line 0 nodes.domains.items ++ uncovered_line nodes.uncovered)
    (indexed_lines node_line 0 c.items.result.now) (c.in_ok-put_indexed_lines-2.ensures.puts node_line (λ t i x answer u says. says))
    (grind (arith, common_steps, domains)) (grind (arith, common_steps, domains)))
