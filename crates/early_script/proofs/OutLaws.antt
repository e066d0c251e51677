-- Lists of lines of which only the first were run, because this program ran out of memory; and the
-- items after them.
use Rattle.std.proofs.Common.{◌≡◌, ℕ, ◌+◌, List, [], ◌∷◌, ◌++◌, take, drop, refl, sym, ◌∙◌, ap, subst, append_assoc}
use Rattle.std.proofs.lemmas.List.{append-nil, take-append-drop}
use Rattle.memblock_model.specs.declared.item.Item.{Item}
use Rattle.script_reader.specs.declared.act.Line.{Line}
use Rattle.growth_model.specs.Change as growth
use Rattle.growth_model.specs.Change.{items_of_steps, items_after_change}
use Rattle.growth_model.specs.Ends.{WritesFirstSteps}
use Rattle.growth_model.specs.Bytes.{Fill, AreBytesFromHistory}
use Rattle.growth_model.proofs.EndLaws.{items_of_steps-append}
use Rattle.memblock_grow.specs.MemblockView.{MemblockView}
use Rattle.early_script.specs.declared.outcome.Answer.{Answer}
use Rattle.early_script.specs.LiveView.{LiveView}
use Rattle.early_script.specs.Effects.{ScriptState, RunsOutDuringLine, act_effect}
use Rattle.early_script.specs.FromMemblock.{state_of_memblock, memblock_bytes}
use Rattle.early_script.specs.Lines.{ScriptSoFar, MatchesScriptSoFar, RunsOutDuringLines, IsPrefixChain, line_effect, script_after_line, script_after_lines}
use Rattle.early_script.proofs.RunLaws.{ran-cut}
use Rattle.early_script.proofs.StageLaws.{act_effect-reached}

-- this program ran out of memory during the next line, after the lines before it were run
pub out-amid : (start : ScriptSoFar) (lines : List Line) (i : ℕ) (line : Line) (ids later : LiveView) (m next : MemblockView)
    (answers : List Answer) → take (i + 1) lines ≡ take i lines ++ line ∷ [] →
    MatchesScriptSoFar (script_after_lines start (take i lines)) ids m answers →
    RunsOutDuringLine (state_of_memblock ids m) (state_of_memblock later next)
    (act_effect (state_of_memblock ids m) (memblock_bytes m) line.act) →
    ((fills : List Fill) → AreBytesFromHistory m.kernel m.journal.items fills (memblock_bytes m) →
    AreBytesFromHistory next.kernel next.journal.items fills (memblock_bytes next)) → RunsOutDuringLines start lines later next answers
out-amid start lines i line ids later m next answers more reached amid holds =
    let s : ScriptSoFar = script_after_lines start (take i lines) in
    let here = rw (act_effect-reached s ids m answers line reached) at amid in
    let rest = drop (i + 1) lines in
    record {
      before = take i lines;
      element = line;
      after = rest;
      is = sym (take-append-drop (i + 1) lines) ∙ ap (λ (ls : List Line). ls ++ rest) more ∙ append_assoc (take i lines) (line ∷ []) rest;
      holds = record {
        answers_are = reached.answers_are;
        amid = subst (λ (t : ScriptState). RunsOutDuringLine t (state_of_memblock later next) (line_effect s line)) reached.state here;
        bytes = holds s.fills reached.holds;
      };
    }

-- one list is the beginning of another
record Goes (first second : List Item) : Type 0 where
  pub more : List Item
  pub on : second ≡ first ++ more

goes-same : (a b : List Item) → b ≡ a → Goes a b
goes-same a b same = record { more = []; on = same ∙ sym (append-nil a) }

goes-then : (a b c : List Item) → Goes a b → Goes b c → Goes a c
goes-then a b c first second = record {
  more = first.more ++ second.more;
  on = rw (second.on, first.on, append_assoc a first.more second.more) refl;
}

between : (a b c : List Item) → Goes a b → Goes b c → IsPrefixChain a b c
between a b c first second = record { more = first.more; rest = second.more; goes_on = first.on; goes_further = second.on }

line-goes : (s : ScriptSoFar) (line : Line) → Goes s.state.items (script_after_line s line).state.items
line-goes s line = record { more = items_of_steps ((line_effect s line).change s.state.items).steps; on = refl }

lines-go : (s : ScriptSoFar) (lines : List Line) → Goes s.state.items (script_after_lines s lines).state.items
lines-go s [] = goes-same s.state.items s.state.items refl
lines-go s (line ∷ lines) =
    let next = script_after_line s line in
    goes-then s.state.items next.state.items (script_after_lines next lines).state.items (line-goes s line) (lines-go next lines)

cut-goes-on : (old new : List Item) (o : growth.ChangeEffect) → WritesFirstSteps old new o.steps → Goes new (items_after_change old o)
cut-goes-on old new o cut =
    let rest = drop cut.count o.steps in
    record {
      more = items_of_steps rest;
      on = rw (cut.stands, append_assoc, ← items_of_steps-append (take cut.count o.steps) rest, take-append-drop cut.count o.steps) refl;
    }

script_after_lines-both : (s : ScriptSoFar) (a b : List Line)
    → script_after_lines s (a ++ b) ≡ script_after_lines (script_after_lines s a) b
script_after_lines-both s [] b = refl
script_after_lines-both s (line ∷ a) b = script_after_lines-both (script_after_line s line) a b

-- all lines are those that were run, the next one, and those after it
all-lines : (start : ScriptSoFar) (lines before after : List Line) (line : Line) → lines ≡ before ++ line ∷ after →
    script_after_lines start lines ≡ script_after_lines (script_after_line (script_after_lines start before) line) after
all-lines start lines before after line is =
    ap (script_after_lines start) is ∙ script_after_lines-both start before (line ∷ after)

-- the items after all lines have been run
pub between-all : (start : ScriptSoFar) (lines : List Line) (ids : LiveView) (m : MemblockView) (answers : List Answer) →
    MatchesScriptSoFar (script_after_lines start lines) ids m answers →
    IsPrefixChain start.state.items m.journal.items (script_after_lines start lines).state.items
between-all start lines ids m answers reached =
    let whole = (script_after_lines start lines).state.items in
    let same : m.journal.items ≡ whole = ap (λ (s : ScriptState). s.items) reached.state in
    between start.state.items m.journal.items whole
    (goes-then start.state.items whole m.journal.items (lines-go start lines) (goes-same whole m.journal.items same))
    (goes-same m.journal.items whole (sym same))

-- the items after only the first of the lines have been run
pub between-out : (start : ScriptSoFar) (lines : List Line) (ids : LiveView) (m : MemblockView) (answers : List Answer) →
    RunsOutDuringLines start lines ids m answers →
    IsPrefixChain start.state.items m.journal.items (script_after_lines start lines).state.items
between-out start lines ids m answers out =
    let so_far : ScriptSoFar = script_after_lines start out.before in
    let next : ScriptSoFar = script_after_line so_far out.element in
    let whole = (script_after_lines start lines).state.items in
    let goes_further : Goes next.state.items whole =
    rw (all-lines start lines out.before out.after out.element out.is) (lines-go next out.after) in
    let d = line_effect so_far out.element in
    let change = d.change so_far.state.items in
    let cut = ran-cut d.takes so_far.state.items m.journal.items change out.holds.amid.0 in
    between start.state.items m.journal.items whole
    (goes-then start.state.items so_far.state.items m.journal.items (lines-go start out.before)
    (record { more = items_of_steps (take cut.count change.steps); on = cut.stands }))
    (goes-then m.journal.items next.state.items whole (cut-goes-on so_far.state.items m.journal.items change cut) goes_further)

-- the items if no line has been run
pub between-none : (start : ScriptSoFar) (lines : List Line) →
    IsPrefixChain start.state.items start.state.items (script_after_lines start lines).state.items
between-none start lines =
    let items = start.state.items in
    between items items (script_after_lines start lines).state.items (goes-same items items refl) (lines-go start lines)
