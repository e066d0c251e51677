-- One more line was read.
use Rattle.std.proofs.Common.{◌++◌, option_to_list, sym, ◌∙◌, arith}
use Rattle.std.specs.List.{All}
use Rattle.std.specs.Option.{option_map}
use Rattle.text_words.specs.Parts.{parts_of_rest}
use Rattle.text_words.specs.declared.separators.Separators.TheVariants as separators
use Rattle.script_reader.specs.Lines.{script_line_at}
use Rattle.script_reader.proofs.ScriptLaws.{line_read, left_after, kept_lines_are_read, kept_lines_hold, limits_on, out_of_memory_has_command}
use Rattle.script_reader.proofs.lines.read_lines.Goals as goal

pub loop-rest-preserved : goal.loop-rest-preserved
loop-rest-preserved g c =
    let kind = g.L.ScriptLine.kind in
    let l = c.loop-rest in
    let front = l.invariant.lines.0 in
    let act = c.in-Ok.act in
    let shorter = left_after c.next_part.result.1 _ c.next_part.ensures.shorter in
    let others = parts_of_rest (separators.Byte 10) (option_map (λ rest. rest.now) c.next_part.result.1) in
    let kept = rw c.script_line_at.ensures at c.append_line-lines.ensures.line in
    let wanting = rw c.script_line_at.ensures at c.append_line-lines.ensures.memory in
    let few = rw c.in-Some.is at l.invariant.few in
    let parts = rw c.next_part.ensures.parts at rw c.in-Some.is at l.invariant.lines.1 in
    record {
      few = omega (arith, few, shorter);
      limits = kept_lines_hold (All g.L.ScriptLine.IsWithinLimits) c.append_line-lines.result l.lines _ kept
          l.invariant.limits (limits_on kind g.L.ScriptLine.IsWithinLimits l.number act c.in-Ok.ensures.limits);
      lines = (
        front ++ option_to_list (script_line_at kind l.number act),
        rw c.has_once_command-seen.ensures
            (sym (line_read kind l.seen l.number front c.next_part.result.0.now others act (sym c.in-Ok.ensures.value)) ∙ parts),
        kept_lines_are_read c.append_line-lines.result l.lines front _ kept l.invariant.lines.2,
        out_of_memory_has_command c.append_line-lines.result l.lines front _ wanting l.invariant.lines.3,
      );
    }
