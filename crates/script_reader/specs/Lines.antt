-- A whole script of any kind: its lines, or the lowest line that has a fault.
use Rattle.std.specs.Prelude.{ℕ, ◌+◌, ◌==◌, Bool, true, false, if◌then◌else◌, List, [], ◌∷◌, Option, Some, None, Result, Ok}
use Rattle.std.specs.Option.{option_map}
use Rattle.std.specs.List.{cons_option}
use Rattle.bm_base.specs.ResultSteps.{◌>>=◌, map_error}
use Rattle.text_words.specs.Parts.{parts_in}
use Rattle.text_words.specs.Words.{words_in}
use Rattle.text_words.specs.declared.separators.Separators.TheVariants as separators
use Rattle.script_reader.specs.declared.fault.ScriptLineFault.{ScriptLineFault}
use Rattle.script_reader.specs.declared.lines.LinesError.{LinesError}
use Rattle.script_reader.specs.declared.lines.LinesError.TheVariants as unread
use Rattle.script_reader.specs.Numbers.{Words}

-- whether a line with this first word is a comment: the word begins with `#`
abbrev pub is_comment : List ℕ → Bool
is_comment [] = false
is_comment (b ∷ bs) = b == 35

-- the act of a line with these words: `forms name words`, where `name` is the first word and
-- `words` are the others. None for a line without words, and for a comment.
abbrev pub act_by_forms : {A : Type 0} → (List ℕ → Words → Result A ScriptLineFault) → Words → Result (Option A) ScriptLineFault
act_by_forms forms [] = Ok None
act_by_forms forms (name ∷ words) = if is_comment name then Ok None else (do
  act ← forms name words
  Ok (Some act))

-- a kind of script. `forms` gives the act that a command's name and the words after it spell; its
-- flag is true if an earlier line has the act that may occur only once. `is_once` tests for that
-- act. `line` makes a line from its number and its act.
pub record ScriptKind (A L : Type 0) : Type 0 where
  pub forms : Bool → List ℕ → Words → Result A ScriptLineFault
  pub is_once : A → Bool
  pub line : ℕ → A → L

-- whether this line or an earlier one has the act that may occur only once; the flag is true if an
-- earlier one has it
abbrev pub has_once_command : {A L : Type 0} → ScriptKind A L → Bool → Option A → Bool
has_once_command kind true act = true
has_once_command kind false None = false
has_once_command kind false (Some act) = kind.is_once act

-- the act of the line with this text, or None if it has no command; the flag is true if an earlier
-- line has the act that may occur only once
abbrev pub read_line : {A L : Type 0} → ScriptKind A L → Bool → List ℕ → Result (Option A) ScriptLineFault
read_line kind seen text = act_by_forms (kind.forms seen) (words_in separators.Script text)

-- the line with this number and act, or None if there is no act
abbrev pub script_line_at : {A L : Type 0} → ScriptKind A L → ℕ → Option A → Option L
script_line_at kind number act = option_map (kind.line number) act

-- the lines that have a command, of the lines with these texts, numbered from `number` on; or, if
-- one has a fault, the number of the first such line and its fault. `seen` is true if an earlier
-- line has the act that may occur only once.
abbrev pub script_lines_from : {A L : Type 0} → ScriptKind A L → Bool → ℕ → List (List ℕ) → Result (List L) (ℕ × ScriptLineFault)
script_lines_from kind seen number [] = Ok []
script_lines_from kind seen number (text ∷ texts) = do
  act ← map_error (λ wrong. (number, wrong)) (read_line kind seen text)
  lines ← script_lines_from kind (has_once_command kind seen act) (number + 1) texts
  Ok (cons_option (script_line_at kind number act) lines)

-- the lines of a script that have a command, or the number and fault of the first line that has a
-- fault. Newlines end lines. If the script ends with a newline, the empty text after it is a line
-- without words.
abbrev pub lines_of : {A L : Type 0} → ScriptKind A L → List ℕ → Result (List L) (ℕ × ScriptLineFault)
lines_of kind bytes = script_lines_from kind false 1 (parts_in (separators.Byte 10) bytes)

-- the error is out of memory, or a fault that the first argument allows
abbrev pub IsAllowedError : (ScriptLineFault → Type 0) → LinesError → Type 0
IsAllowedError MayBeWrong (unread.Faulty line wrong) = MayBeWrong wrong
IsAllowedError MayBeWrong unread.Memory = Unit {0}
