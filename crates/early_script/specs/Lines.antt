-- Lines in order, each with its outcome.
use Rattle.std.specs.Prelude.{◌≡◌, ◌⊎◌, ℕ, ◌+◌, ◌<◌, if◌then◌else◌, List, [], ◌∷◌, ◌++◌, length, Vec, vec_capacity}
use Rattle.std.specs.List.{All}
use Rattle.std.specs.declared.alloc.Global.{Global}
use Rattle.bm_base.specs.Stops.{StopsAtElement}
use Rattle.memblock_model.specs.declared.item.Item.{Item}
use Rattle.script_reader.specs.Script.{is_sections}
use Rattle.script_reader.specs.declared.act.Line.{Line}
use Rattle.growth_model.specs.Bytes.{Fill, byte_from_history, AreBytesFromHistory}
use Rattle.memblock_grow.specs.MemblockView.{MemblockView}
use Rattle.early_script.specs.declared.outcome.Answer.{Answer}
use Rattle.early_script.specs.LiveView.{LiveView}
use Rattle.early_script.specs.Effects.{ScriptState, LineEffect, RunsOutDuringLine, CanBeRun, add_fill, act_effect, script_outcome_at_line, state_after_line}
use Rattle.early_script.specs.FromMemblock.{state_of_memblock, memblock_bytes}

-- what the lines up to here have left: the state, the fills that were made, and the outcomes
pub record ScriptSoFar : Type 0 where
  pub state : ScriptState
  pub fills : List Fill
  pub answers : List Answer

-- the effect of a line, which reads at each address the byte that the items and the fills give
abbrev pub line_effect : ScriptSoFar → Line → LineEffect
line_effect s line = act_effect s.state (byte_from_history s.state.kernel s.state.items s.fills) line.act

abbrev pub script_after_effect : ScriptSoFar → ℕ → LineEffect → ScriptSoFar
script_after_effect s number d = record {
  state = state_after_line s.state d;
  fills = add_fill s.fills d.fill;
  answers = s.answers ++ record { line = number; outcome = script_outcome_at_line s.state d } ∷ [];
}

abbrev pub script_after_line : ScriptSoFar → Line → ScriptSoFar
script_after_line s line = script_after_effect s line.number (line_effect s line)

-- the state, the fills and the outcomes after the lines have been run in their order
abbrev pub script_after_lines : ScriptSoFar → List Line → ScriptSoFar
script_after_lines s [] = s
script_after_lines s (line ∷ lines) = script_after_lines (script_after_line s line) lines

-- what has happened before a list of lines: the state of the memblock `m` with the live IDs `ids`,
-- the fills `fills` that were made, and the outcomes `answers`
abbrev pub script_so_far : LiveView → MemblockView → List Fill → List Answer → ScriptSoFar
script_so_far ids m fills answers = record { state = state_of_memblock ids m; fills = fills; answers = answers }

-- the live IDs, the memblock and the outcomes are those of `s`, and each byte is what the items
-- and fills of `s` define
pub record MatchesScriptSoFar (s : ScriptSoFar) (ids : LiveView) (m : MemblockView) (answers : List Answer) : Type 0 where
  pub state : state_of_memblock ids m ≡ s.state
  pub answers_are : answers ≡ s.answers
  pub holds : AreBytesFromHistory m.kernel m.journal.items s.fills (memblock_bytes m)

-- this program ran out of memory before the first line: the list had no room for the outcomes of
-- all lines, and nothing has changed
pub record RunsOutBeforeLines (ids : LiveView) (m : MemblockView) (answers : Vec Answer Global) (lines : List Line)
    (later : LiveView) (next : MemblockView) (told : Vec Answer Global) : Type 0 where
  pub no_room : vec_capacity answers < length answers.items + length lines
  pub ids_stay : later ≡ ids
  pub memblock_stays : next ≡ m
  pub answers_stay : told.items ≡ answers.items

-- this program ran out of memory during a line (`RunsOutDuringLine`) after `so_far`. The list has
-- the outcomes of the lines before it, and the bytes are those that their fills give.
pub record RunsOutAfter (so_far : ScriptSoFar) (line : Line) (ids : LiveView) (m : MemblockView) (answers : List Answer) : Type 0 where
  pub answers_are : answers ≡ so_far.answers
  pub amid : RunsOutDuringLine so_far.state (state_of_memblock ids m) (line_effect so_far line)
  pub bytes : AreBytesFromHistory m.kernel m.journal.items so_far.fills (memblock_bytes m)

-- this program ran out of memory during one of the lines; those before it have been run
abbrev pub RunsOutDuringLines : ScriptSoFar → List Line → LiveView → MemblockView → List Answer → Type 0
RunsOutDuringLines s lines ids m answers =
    StopsAtElement (λ before line. RunsOutAfter (script_after_lines s before) line ids m answers) lines

-- this program ran out of memory before the first line, or during one of the lines. The second is
-- stated for each list of fills that gives the bytes before the lines.
abbrev pub ScriptRunsOut : LiveView → MemblockView → Vec Answer Global → List Line → LiveView → MemblockView → Vec Answer Global → Type 0
ScriptRunsOut ids m answers lines later next told =
    RunsOutBeforeLines ids m answers lines later next told
    ⊎ ((fills : List Fill) → AreBytesFromHistory m.kernel m.journal.items fills (memblock_bytes m) →
    RunsOutDuringLines (script_so_far ids m fills answers.items) lines later next told.items)

-- the first list is the beginning of the second, and the second of the third
pub record IsPrefixChain (first second third : List Item) : Type 0 where
  pub more : List Item
  pub rest : List Item
  pub goes_on : second ≡ first ++ more
  pub goes_further : third ≡ second ++ rest

-- `lines_before_sections` are the lines before the one that places the sections, or all lines if
-- none does; `lines_after_sections` are the lines after that one
abbrev pub lines_before_sections : List Line → List Line
lines_before_sections [] = []
lines_before_sections (line ∷ lines) = if is_sections line.act then [] else line ∷ lines_before_sections lines

abbrev pub lines_after_sections : List Line → List Line
lines_after_sections [] = []
lines_after_sections (line ∷ lines) = if is_sections line.act then lines else lines_after_sections lines

-- at most one line places the sections
abbrev pub PlacesSectionsOnce : List Line → Type 0
PlacesSectionsOnce lines = All (λ line. CanBeRun line.act) (lines_after_sections lines)
