-- The meaning of a whole script, by what its lines spell: the acts of the lines, or the fault of
-- the lowest line that has one.
use Rattle.std.specs.Prelude.{◌≡◌, ℕ, ◌+◌, Bool, true, List, [], ◌∷◌, ◌++◌, codes, length, Contains, Option, Some, None, ◌↔◌}
use Rattle.std.specs.List.{cons_option}
use Rattle.text_words.specs.Spelling.{HasWords}
use Rattle.text_words.specs.declared.separators.Separators.TheVariants.{Script}
use Rattle.script_reader.specs.declared.act.Act.{Act}
use Rattle.script_reader.specs.declared.act.Act.TheVariants as acts
use Rattle.script_reader.specs.declared.act.Line.{Line}
use Rattle.script_reader.specs.declared.fault.ScriptLineFault.{ScriptLineFault}
use Rattle.script_reader.specs.declared.fault.ScriptFault.{ScriptFault}
use Rattle.script_reader.specs.Numbers.{Words}
use Rattle.script_reader.specs.Lines.{script_line_at}
use Rattle.script_reader.specs.Script.{script_fault_at, script_lines}
use Rattle.script_reader.specs.Grammar.{HasNoCommand, HasWordsFault}
use Rattle.script_reader.specs.Spelling.{script_grammar, SpellsAct, Fails}

-- one of the lines is `sections`
abbrev pub HasSectionsLine : List (List ℕ) → Type 0
HasSectionsLine texts = (text : List ℕ) × Contains texts text × HasWords Script text (codes "sections" ∷ [])

-- the line `text`, which follows the lines `earlier`, spells this act and isn't a second
-- `sections`; for None, the line has no command
abbrev pub LineHasAct : List (List ℕ) → List ℕ → Option Act → Type 0
LineHasAct earlier text None = (words : Words) × HasWords Script text words × HasNoCommand words
LineHasAct earlier text (Some act) =
    (words : Words) × HasWords Script text words × SpellsAct words act × (act ≡ acts.Sections → ¬ (HasSectionsLine earlier))

-- the line `text`, which follows the lines `earlier`, has this fault
pub record LineHasFault (earlier : List (List ℕ)) (text : List ℕ) (wrong : ScriptLineFault) : Type 0 where
  pub words : Words
  pub spelled : HasWords Script text words
  pub seen : Bool
  pub sections : (seen ≡ true) ↔ HasSectionsLine earlier
  pub fault : HasWordsFault script_grammar (Fails seen) words wrong

-- the texts are lines that follow the lines `earlier` and have no fault. `lines` has the act of
-- each that has a command, with the number of its line in the whole script, from 1 on.
abbrev pub LinesHaveActs : List (List ℕ) → List (List ℕ) → List Line → Type 0
LinesHaveActs earlier [] lines = lines ≡ []
LinesHaveActs earlier (text ∷ texts) lines = (act : Option Act) × (others : List Line) × LineHasAct earlier text act
    × (lines ≡ cons_option (script_line_at script_lines (length earlier + 1) act) others)
    × LinesHaveActs (earlier ++ (text ∷ [])) texts others

-- `texts` are lines that follow the lines `earlier`, and `fault` is the fault of the first of
-- `texts` that has one. The lines of `texts` before it have no fault.
pub record IsFirstLineFault (earlier texts : List (List ℕ)) (fault : ScriptFault) : Type 0 where
  pub before : List (List ℕ)
  pub text : List ℕ
  pub after : List (List ℕ)
  pub lines : texts ≡ before ++ (text ∷ after)
  pub acts : List Line
  pub faultless : LinesHaveActs earlier before acts
  pub wrong : ScriptLineFault
  pub at_fault : LineHasFault (earlier ++ before) text wrong
  pub named : fault ≡ script_fault_at (length (earlier ++ before) + 1) wrong
