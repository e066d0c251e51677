-- The lines read before, followed by those of the text that remains, are all lines. There are
-- fewer lines than bytes.
use Rattle.std.proofs.Common.{◌≡◌, ◌+◌, ◌<◌, ◌≤◌, List, length, IfOk, IfErr, All}
use Rattle.std.specs.Option.{option_map}
use Rattle.text_words.specs.Parts.{parts_of_rest}
use Rattle.text_words.specs.declared.separators.Separators.TheVariants as separators
use Rattle.text_words.proofs.WordsLaws.{left}
use Rattle.script_reader.specs.Lines.{script_lines_from, lines_of}
use Rattle.script_reader.proofs.ScriptLaws.{after}
use Rattle.script_reader.proofs.lines.read_lines.Given as goal

abbrev pub invariant-loop-rest : goal.invariant-loop-rest
invariant-loop-rest g l = let kind = g.L.ScriptLine.kind in record {
  few : l.number + left l.rest ≤ length l.fn.bytes + 2;
  limits : IfOk l.lines (λ kept. All g.L.ScriptLine.IsWithinLimits kept.items);
  lines : (front : List g.row.L.Denot)
      × (after front (script_lines_from kind l.seen l.number (parts_of_rest (separators.Byte 10) (option_map (λ text. text.now) l.rest)))
      ≡ lines_of kind l.fn.bytes)
      × IfOk l.lines (λ kept. kept.items ≡ front) × IfErr l.lines (λ _. 0 < length front);
}

abbrev pub decreases-loop-rest : goal.decreases-loop-rest
decreases-loop-rest g l = left l.rest
