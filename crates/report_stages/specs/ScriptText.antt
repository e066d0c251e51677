-- The reports `script` and `claims`: the outcome of each line of the early script, or of the file
-- of early claims. The words are this project's own.
use Rattle.std.specs.Prelude.{ℕ, List, ◌++◌, codes, decimal}
use Rattle.hex.specs.Hex.{encode_lower}
use Rattle.bm_base.specs.Text.{hex_text}
use Rattle.early_script.specs.declared.outcome.Answer.{Answer}
use Rattle.early_script.specs.declared.outcome.Outcome.{Outcome}
use Rattle.early_script.specs.declared.outcome.Outcome.TheVariants as outcomes
use Rattle.report_memory.specs.Lines.{indexed_lines}
use Rattle.report_memory.specs.OwnersText.{memblock_table_name}

-- the text of the outcome of a line; each byte that the line read is written as two lower-case
-- hexadecimal digits
abbrev pub outcome_text : Outcome → List ℕ
outcome_text (outcomes.At address) = codes "at " ++ hex_text address
outcome_text outcomes.Done = codes "done"
outcome_text (outcomes.Bytes told) = codes "bytes " ++ encode_lower told.items
outcome_text outcomes.NoGap = codes "no gap"
outcome_text (outcomes.NoGapForTable which room) = codes "no gap for table " ++ memblock_table_name which ++ codes " room " ++ decimal room
outcome_text outcomes.Taken = codes "taken"
outcome_text outcomes.Unknown = codes "unknown"
outcome_text outcomes.NotWhole = codes "not whole"
outcome_text outcomes.TableInUse = codes "table in use"
outcome_text outcomes.TooLargeKeep = codes "keep too large"
outcome_text outcomes.TooLargeFill = codes "fill too large"

-- the line of an outcome, as in `3: no gap`: the number of the line in the script, and the outcome;
-- the index `n` isn't printed
abbrev pub answer_line : ℕ → Answer → List ℕ
answer_line n answer = decimal answer.line ++ codes ": " ++ outcome_text answer.outcome ++ codes "\n"

-- the report `script` or `claims`: a line for each line of the script that has a command, except
-- for the command `sections`, which has no outcome
abbrev pub script_text : List Answer → List ℕ
script_text answers = indexed_lines answer_line 0 answers
