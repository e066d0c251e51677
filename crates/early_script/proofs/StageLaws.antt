-- One more line of the script, after those that have been run.
use Rattle.std.proofs.Common.{◌≡◌, ℕ, ◌+◌, ◌<◌, ◌≤◌, true, false, List, [], ◌∷◌, ◌++◌, length, take, drop, get_or, Ok, refl, sym, ap, subst, add-one, inl, inr}
use Rattle.std.specs.List.{All}
use Rattle.std.proofs.Math.Seq.{drop-cons}
use Rattle.std.proofs.lemmas.Bool.{cases_Bool, true≢false}
use Rattle.std.proofs.lemmas.List.{append-nil, take_all, take_more, drop_all}
use Rattle.std.proofs.lemmas.List.Elements.{All-cons, All-nil}
use Rattle.memblock_model.specs.declared.item.Item.{Item}
use Rattle.script_reader.specs.declared.act.Act.{Act}
use Rattle.script_reader.specs.declared.act.Act.TheVariants as acts
use Rattle.script_reader.specs.declared.act.Line.{Line}
use Rattle.script_reader.specs.Script.{is_sections}
use Rattle.growth_model.specs.Tables.{HasFirstItem}
use Rattle.growth_model.specs.Bytes.{Fill, byte_from_history, AreBytesFromHistory}
use Rattle.growth_model.proofs.SoundLaws.{more-begun}
use Rattle.memblock_grow.specs.MemblockView.{MemblockView}
use Rattle.early_script.specs.declared.outcome.Outcome.{Outcome}
use Rattle.early_script.specs.declared.outcome.Answer.{Answer}
use Rattle.early_script.specs.LiveView.{LiveView}
use Rattle.early_script.specs.Effects.{ScriptState, CanBeRun, EndsAsLine, add_fill, act_effect}
use Rattle.early_script.specs.FromMemblock.{state_of_memblock, memblock_bytes}
use Rattle.early_script.specs.Lines.{ScriptSoFar, MatchesScriptSoFar, line_effect, script_after_line, script_after_lines, lines_before_sections, lines_after_sections}

pub script_after_lines-append : (s : ScriptSoFar) (lines : List Line) (line : Line)
    → script_after_lines s (lines ++ line ∷ []) ≡ script_after_line (script_after_lines s
    lines) line
script_after_lines-append s [] line = refl
script_after_lines-append s (l ∷ lines) line = script_after_lines-append (script_after_line s l) lines line

-- the first i + 1 lines are the first i lines and the next one
pub take_next : (lines : List Line) (i : ℕ) (line : Line) → i < length lines → line ≡ get_or lines i line →
    take (i + 1) lines ≡ take i lines ++ line ∷ []
take_next lines i line below is = rw (take_more lines i line below, ← is) refl

pub begun-along : (items more longer : List Item) → longer ≡ items ++ more → HasFirstItem items → HasFirstItem longer
begun-along items more longer goes begun = rw goes (more-begun items more begun)

-- the effect of a line in the state that the lines before it have reached
pub act_effect-reached : (s : ScriptSoFar) (ids : LiveView) (m : MemblockView) (answers : List Answer) (line : Line)
    → MatchesScriptSoFar s ids m answers →
    act_effect (state_of_memblock ids m) (memblock_bytes m) line.act ≡ line_effect s line
act_effect-reached s ids m answers line reached =
    let bytes : memblock_bytes m ≡ byte_from_history m.kernel m.journal.items s.fills = λ j x. reached.holds.each x j in
    rw bytes (ap (λ (t : ScriptState). act_effect t (byte_from_history t.kernel t.items s.fills) line.act) reached.state)

pub reaches-line : (s : ScriptSoFar) (ids after_ids : LiveView) (m next : MemblockView) (answers : List Answer) (line : Line)
    (outcome : Outcome) →
    MatchesScriptSoFar s ids m answers →
    EndsAsLine (Ok outcome) (state_of_memblock ids m) (state_of_memblock after_ids next)
    (act_effect (state_of_memblock ids m) (memblock_bytes m) line.act) →
    ((fills : List Fill) → AreBytesFromHistory m.kernel m.journal.items fills (memblock_bytes m) →
    AreBytesFromHistory next.kernel next.journal.items
    (add_fill fills (act_effect (state_of_memblock ids m) (memblock_bytes m) line.act).fill) (memblock_bytes next)) →
    MatchesScriptSoFar (script_after_line s line) after_ids next (answers ++ record { line = line.number; outcome = outcome } ∷ [])
reaches-line s ids after_ids m next answers line outcome reached acts holds =
    let same = act_effect-reached s ids m answers line reached in
    let done : EndsAsLine (Ok outcome) s.state (state_of_memblock after_ids next) (line_effect s line) =
    subst (λ (t : ScriptState). EndsAsLine (Ok outcome) t (state_of_memblock after_ids next) (line_effect s line)) reached.state
    (rw same at acts) in
    record { state = done.1; answers_are = rw (reached.answers_are, done.0) refl; holds = rw same at (holds s.fills reached.holds) }

-- an act that doesn't place the sections can be run, and so can all lines before the one that does
pub is_run : (a : Act) → is_sections a ≡ false → CanBeRun a
is_run acts.Sections no_sections = true≢false no_sections
is_run a no_sections = tt

pub all-before : (lines : List Line) → All (λ l. CanBeRun l.act) (lines_before_sections lines)
all-before [] = All-nil (λ l. CanBeRun l.act)
all-before (line ∷ lines) = elim (cases_Bool (is_sections line.act)) [
  | inl here ↦ rw here (All-nil (λ l. CanBeRun l.act))
  | inr later ↦ rw later (All-cons (λ l. CanBeRun l.act) line (lines_before_sections lines) (is_run line.act later) (all-before lines))
]

-- the loop has passed i lines, and none of them places the sections
pub record Passed (lines : List Line) (i : ℕ) : Type 0 where
  pub before : lines_before_sections lines ≡ take i lines ++ lines_before_sections (drop i lines)
  pub after : lines_after_sections lines ≡ lines_after_sections (drop i lines)

-- the next line places the sections
pub passed-here : (lines : List Line) (i : ℕ) (line : Line) → i < length lines → line ≡ get_or lines i line →
    is_sections line.act ≡ true → Passed lines i →
    (take i lines ≡ lines_before_sections lines) × (drop (i + 1) lines ≡ lines_after_sections lines)
passed-here lines i line below is here passed =
    let whole : drop i lines ≡ line ∷ drop (i + 1) lines = rw (add-one, drop-cons lines i line below, ← is) refl in
    (sym (rw (whole, here, append-nil (take i lines)) at passed.before), sym (rw (whole, here) at passed.after))

-- no line places the sections
pub passed-all : (lines : List Line) (i : ℕ) → length lines ≤ i → Passed lines i →
    (lines ≡ lines_before_sections lines) × ([] ≡ lines_after_sections lines)
passed-all lines i all passed =
    let none : drop i lines ≡ [] = drop_all i lines all in
    (sym (rw (none, append-nil (take i lines), take_all i lines all) at passed.before), sym (rw none at passed.after))
