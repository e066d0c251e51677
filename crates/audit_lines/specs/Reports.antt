-- Reports: texts of lines whose ranges of addresses ascend and are disjoint.
use Rattle.std.specs.Prelude.{ℕ, ◌+◌, ◌==◌, nat_lt, if◌then◌else◌, List, [], ◌∷◌, Option, Some, None, Result, Ok, Err}
use Rattle.bm_base.specs.Range.{RangeView, end_of}
use Rattle.bm_base.specs.ResultSteps.{◌>>=◌}
use Rattle.audit_lines.specs.declared.report.LineFault.{LineFault}
use Rattle.audit_lines.specs.declared.report.LineFault.TheVariants as faults

-- the lines of a text without their newlines, and the text after the last newline
abbrev pub LinesAndRest : Type 0
LinesAndRest = List (List ℕ) × List ℕ

-- the lines of a text with the byte `b` put in front; `b` isn't a newline, so it belongs to the
-- first line
abbrev pub lines_with_byte : ℕ → LinesAndRest → LinesAndRest
lines_with_byte b ([], left) = ([], b ∷ left)
lines_with_byte b (line ∷ lines, left) = ((b ∷ line) ∷ lines, left)

-- the lines of a text with a newline put in front, which ends an empty line
abbrev pub lines_with_newline : LinesAndRest → LinesAndRest
lines_with_newline (lines, left) = ([] ∷ lines, left)

-- the lines of a text, without their newlines, and the text after the last newline
unfoldable pub split_lines : List ℕ → LinesAndRest
split_lines [] = ([], [])
split_lines (b ∷ bs) = if b == 10 then lines_with_newline (split_lines bs) else lines_with_byte b (split_lines bs)

module _ {L : Type 0} (form : ℕ → List ℕ → Option L) (extent : L → RangeView) where
  -- the line, or a fault of its form if the text spelled none (`None`); `index` counts lines from
  -- 0, and faults number them from 1
  abbrev pub line_or_fault : ℕ → Option L → Result L LineFault
  line_or_fault index None = Err (faults.Form (index + 1))
  line_or_fault index (Some line) = Ok line

  -- the line, or a fault of its order if its range begins below `at`, where the range of the line
  -- before it ends
  abbrev pub line_if_in_order : ℕ → ℕ → L → Result L LineFault
  line_if_in_order index at line = if nat_lt (extent line).base at then Err (faults.Order (index + 1)) else Ok line

  -- the line that the text spells as line number `index`, or its fault; the form is checked before
  -- the order
  abbrev pub report_line_at : ℕ → ℕ → List ℕ → Result L LineFault
  report_line_at index at text = do
    line ← line_or_fault index (form index text)
    line_if_in_order index at line

  -- the empty list if no text follows the last newline, else the fault of a line without a newline
  abbrev pub no_lines_if_ended : ℕ → List ℕ → Result (List L) LineFault
  no_lines_if_ended index [] = Ok []
  no_lines_if_ended index (b ∷ bs) = Err (faults.Form (index + 1))

  -- the lines of these texts, or the fault of the first line that has one. The first text is line
  -- number `index`, counted from 0, and its range must begin at or above `at`. `left` is the text
  -- after the last newline.
  abbrev pub report_from : ℕ → ℕ → List (List ℕ) → List ℕ → Result (List L) LineFault
  report_from index at [] left = no_lines_if_ended index left
  report_from index at (text ∷ texts) left = do
    line ← report_line_at index at text
    others ← report_from (index + 1) (end_of (extent line)) texts left
    Ok (line ∷ others)

  -- the lines of a report, or the fault of the first line that has one
  abbrev pub report_of : List ℕ → Result (List L) LineFault
  report_of bytes = report_from 0 0 (split_lines bytes).0 (split_lines bytes).1
