-- A script that was read places the sections at most once.
use Rattle.std.proofs.Common.{◌≡◌, ℕ, ◌+◌, Bool, true, false, if◌then◌else◌, Option, Some, None, List, [], ◌∷◌, Result, Ok, Err, inl, inr, subst}
use Rattle.std.specs.List.{All, cons_option}
use Rattle.std.proofs.lemmas.Bool.{cases_Bool}
use Rattle.std.proofs.lemmas.List.Elements.{All-cons, All-nil}
use Rattle.bm_base.specs.ResultSteps.{◌>>=◌, map_error}
use Rattle.text_words.specs.Parts.{parts_in}
use Rattle.text_words.specs.Words.{words_in}
use Rattle.text_words.specs.declared.separators.Separators.TheVariants as separators
use Rattle.script_reader.specs.declared.act.Act.{Act}
use Rattle.script_reader.specs.declared.act.Line.{Line}
use Rattle.script_reader.specs.declared.fault.ScriptLineFault.{ScriptLineFault}
use Rattle.script_reader.specs.Numbers.{Words, number_in_word}
use Rattle.script_reader.specs.Forms.{act_by_name}
use Rattle.script_reader.specs.Lines.{is_comment, act_by_forms, has_once_command, read_line, script_line_at, script_lines_from}
use Rattle.script_reader.specs.Script.{is_sections, script_lines, script_of}
use Rattle.script_reader.proofs.ScriptSpellingLaws.{script_read}
use Rattle.early_script.specs.Effects.{CanBeRun}
use Rattle.early_script.specs.Lines.{PlacesSectionsOnce}
use Rattle.early_script.proofs.StageLaws.{is_run}

-- an act that was read doesn't place the sections
abbrev IsClean : Result Act ScriptLineFault → Type 0
IsClean (Ok a) = is_sections a ≡ false
IsClean (Err w) = Unit {0}

record Clean (r : Result Act ScriptLineFault) : Type 0 where
  known : IsClean r

bind-clean : {A : Type 0} (r : Result A ScriptLineFault) (f : A → Result Act ScriptLineFault) → ((x : A) → Clean (f x)) → Clean (r >>= f)
bind-clean (Ok a) f clean = clean a
bind-clean (Err w) f clean = record { known = tt }

ok-clean : (a : Act) → is_sections a ≡ false → Clean (Ok a)
ok-clean a is = record { known = is }

err-clean : (w : ScriptLineFault) → Clean (Err w)
err-clean w = record { known = tt }

if-clean : (b : Bool) (r s : Result Act ScriptLineFault) → Clean r → Clean s → Clean (if b then r else s)
if-clean true r s first second = first
if-clean false r s first second = second

act_by_name-clean : (name : List ℕ) (words : Words) → Clean (act_by_name true name words)
act_by_name-clean name words = search (if-clean, bind-clean, ok-clean, err-clean) depth 24

-- a line that was read doesn't place the sections
abbrev IsCleanLine : Result (Option Act) ScriptLineFault → Type 0
IsCleanLine (Ok None) = Unit {0}
IsCleanLine (Ok (Some a)) = is_sections a ≡ false
IsCleanLine (Err w) = Unit {0}

some-clean : (r : Result Act ScriptLineFault) → IsClean r → IsCleanLine (r >>= λ act. Ok (Some act))
some-clean (Ok a) clean = clean
some-clean (Err w) clean = tt

comment-clean : (comment : Bool) (r : Result (Option Act) ScriptLineFault) → IsCleanLine r → IsCleanLine (if comment then Ok None else r)
comment-clean true r clean = tt
comment-clean false r clean = clean

read_line-clean : (words : Words) → IsCleanLine (act_by_forms (act_by_name true) words)
read_line-clean [] = tt
read_line-clean (name ∷ words) =
    comment-clean (is_comment name) _ (some-clean (act_by_name true name words) (act_by_name-clean name words).known)

-- the lines after the one that placed the sections can all be run
abbrev AreClean : Result (List Line) (ℕ × ScriptLineFault) → Type 0
AreClean (Ok lines) = All (λ l. CanBeRun l.act) lines
AreClean (Err fault) = Unit {0}

abbrev then_line : ℕ → Result (Option Act) ScriptLineFault → (Option Act → Result (List Line) (ℕ × ScriptLineFault))
    → Result (List Line) (ℕ × ScriptLineFault)
then_line number_in_word r rest =
    map_error (λ wrong. (number_in_word, wrong)) r >>= λ act. rest act >>= λ lines.
    Ok (cons_option (script_line_at script_lines number_in_word act) lines)

line-clean : (number_in_word : ℕ) (r : Result (Option Act) ScriptLineFault) (rest : Result (List Line) (ℕ × ScriptLineFault))
    → IsCleanLine r → AreClean rest →
    AreClean (then_line number_in_word r (λ act. rest))
line-clean number_in_word (Ok None) (Ok lines) clean known = known
line-clean number_in_word (Ok (Some a)) (Ok lines) clean known =
    All-cons (λ l. CanBeRun l.act) (record { number = number_in_word; act = a }) lines (is_run a clean) known
line-clean number_in_word r rest clean known = tt

lines-clean : (number_in_word : ℕ) (texts : List (List ℕ)) → AreClean (script_lines_from script_lines true number_in_word texts)
lines-clean number_in_word [] = All-nil (λ l. CanBeRun l.act)
lines-clean number_in_word (text ∷ texts) =
    line-clean number_in_word (read_line script_lines true text) (script_lines_from script_lines true (number_in_word + 1) texts)
    (read_line-clean (words_in separators.Script text))
    (lines-clean (number_in_word + 1) texts)

abbrev IsOnce : Result (List Line) (ℕ × ScriptLineFault) → Type 0
IsOnce (Ok lines) = PlacesSectionsOnce lines
IsOnce (Err fault) = Unit {0}

here-once : (number_in_word : ℕ) (a : Act) (rest : Result (List Line) (ℕ × ScriptLineFault)) → is_sections a ≡ true → AreClean rest →
    IsOnce (rest >>= λ lines. Ok (cons_option (script_line_at script_lines number_in_word (Some a)) lines))
here-once number_in_word a (Ok lines) here clean = rw here clean
here-once number_in_word a (Err fault) here clean = tt

later-once : (number_in_word : ℕ) (a : Act) (rest : Result (List Line) (ℕ × ScriptLineFault)) → is_sections a ≡ false → IsOnce rest →
    IsOnce (rest >>= λ lines. Ok (cons_option (script_line_at script_lines number_in_word (Some a)) lines))
later-once number_in_word a (Ok lines) later once = rw later once
later-once number_in_word a (Err fault) later once = tt

none-once : (number_in_word : ℕ) (rest : Result (List Line) (ℕ × ScriptLineFault)) → IsOnce rest
    → IsOnce (rest >>= λ lines. Ok (cons_option (script_line_at script_lines number_in_word None) lines))
none-once number_in_word (Ok lines) once = once
none-once number_in_word (Err fault) once = tt

line-once : (number_in_word : ℕ) (r : Result (Option Act) ScriptLineFault) (rest : Bool → Result (List Line) (ℕ × ScriptLineFault))
    → AreClean (rest true) →
    IsOnce (rest false) → IsOnce (then_line number_in_word r (λ act. rest (has_once_command script_lines false act)))
line-once number_in_word (Ok None) rest clean once = none-once number_in_word (rest false) once
line-once number_in_word (Ok (Some a)) rest clean once = elim (cases_Bool (is_sections a)) [
  | inl here ↦ rw here (here-once number_in_word a (rest true) here clean)
  | inr later ↦ rw later (later-once number_in_word a (rest false) later once)
]
line-once number_in_word (Err w) rest clean once = tt

lines-once : (number_in_word : ℕ) (texts : List (List ℕ)) → IsOnce (script_lines_from script_lines false number_in_word texts)
lines-once number_in_word [] = All-nil (λ l. CanBeRun l.act)
lines-once number_in_word (text ∷ texts) =
    line-once number_in_word (read_line script_lines false text) (λ seen.
    script_lines_from script_lines seen (number_in_word + 1) texts) (lines-clean (number_in_word + 1) texts)
    (lines-once (number_in_word + 1) texts)

pub script-once : (bytes : List ℕ) (lines : List Line) → script_of bytes ≡ Ok lines → PlacesSectionsOnce lines
script-once bytes lines read =
    subst (λ (r : Result (List Line) (ℕ × ScriptLineFault)). IsOnce r) (script_read bytes lines read)
    (lines-once 1 (parts_in (separators.Byte 10) bytes))
