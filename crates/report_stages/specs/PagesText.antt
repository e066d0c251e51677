-- The report `pages`: the outcome of each line of the page script. The words are this project's
-- own.
use Rattle.std.specs.Prelude.{ℕ, List, ◌++◌, codes, decimal}
use Rattle.bm_base.specs.Text.{hex_text}
use Rattle.page_alloc.specs.declared.outcome.PageAnswer.{PageAnswer}
use Rattle.page_alloc.specs.declared.outcome.PageOutcome.{PageOutcome}
use Rattle.page_alloc.specs.declared.outcome.PageOutcome.TheVariants as outcomes
use Rattle.report_memory.specs.Lines.{indexed_lines}

-- the text of the outcome of a line of the page script
abbrev pub page_outcome_text : PageOutcome → List ℕ
page_outcome_text (outcomes.At address) = codes "at " ++ hex_text address
page_outcome_text outcomes.Done = codes "done"
page_outcome_text outcomes.NoBlock = codes "no block"
page_outcome_text outcomes.Taken = codes "taken"
page_outcome_text outcomes.Unknown = codes "unknown"

-- the line of an outcome, as in `3: no block`: the number of the line in the page script, and the
-- outcome; the index `n` isn't printed
abbrev pub page_answer_line : ℕ → PageAnswer → List ℕ
page_answer_line n answer = decimal answer.line ++ codes ": " ++ page_outcome_text answer.outcome ++ codes "\n"

-- the report `pages`: a line for each line of the page script that has a command
abbrev pub pages_text : List PageAnswer → List ℕ
pages_text answers = indexed_lines page_answer_line 0 answers
