-- The lines of early claims: none places the sections, each is within its bounds, and the code's
-- type of a line gives the lines of the definition.
use Rattle.std.proofs.Common.{◌≡◌, ◌≢◌, ◌∙◌, ℕ, ◌+◌, ◌<◌, ◌^◌, Bool, true, false, if◌then◌else◌, List, [], ◌∷◌, codes, map, length, Option, Some, None, Result, Ok, Err, refl, ap, sym, arith}
use Rattle.std.specs.Prelude.{IfErr, IfOk, IsErrOf, IsOkAnd}
use Rattle.std.specs.List.{All, cons_option}
use Rattle.std.specs.Str.{bytes_eq}
use Rattle.std.proofs.lemmas.List.Elements.{All-map, All-weaker}
use Rattle.bm_base.specs.ResultSteps.{◌>>=◌, map_error}
use Rattle.text_words.specs.Parts.{parts_in}
use Rattle.text_words.specs.declared.separators.Separators.TheVariants as separators
use Rattle.script_reader.specs.declared.act.Act.{Act}
use Rattle.script_reader.specs.declared.act.Line.{Line}
use Rattle.script_reader.specs.declared.fault.ScriptFault.{ScriptFault}
use Rattle.script_reader.specs.declared.fault.ScriptFault.TheVariants as script
use Rattle.script_reader.specs.declared.fault.ScriptLineFault.{ScriptLineFault}
use Rattle.script_reader.specs.declared.fault.ScriptLineFault.TheVariants as wrong
use Rattle.script_reader.specs.declared.lines.LinesError.{LinesError}
use Rattle.script_reader.specs.declared.lines.LinesError.TheVariants as unread
use Rattle.script_reader.specs.Forms.{HasBounds, act_by_name, alloc_line, fill_line, free_line, peek_line, reserve_line, sections_line, trim_line}
use Rattle.script_reader.specs.Lines.{has_once_command, lines_of, read_line, script_line_at, script_lines_from}
use Rattle.script_reader.specs.Numbers.{Words}
use Rattle.script_reader.specs.Script.{script_fault_at}
use Rattle.early_script.specs.Effects.{CanBeRun}
use Rattle.boot_model.specs.Facts.{HaveBounds, HaveNoSections}
use Rattle.boot_inputs.specs.declared.claims.ClaimLine.{ClaimLine}
use Rattle.boot_inputs.specs.declared.fault.Fault.{Fault}
use Rattle.boot_inputs.specs.declared.fault.Fault.TheVariants as faults
use Rattle.boot_inputs.specs.declared.input.Input.{Input}
use Rattle.boot_inputs.specs.declared.input.Input.TheVariants as inputs
use Rattle.program_end.specs.Program.{FileContents}
use Rattle.boot_inputs.specs.Claims.{claim_lines, claims_limit, claims_of, claims_of_optional_file, claims_or_fault}
use Rattle.boot_inputs.specs.Faults.{HasErrorLine}
use Rattle.boot_inputs.specs.Inputs.{answer_or_faulty_file, step_or_unread_file, within_limit}
use Rattle.boot_inputs.specs.ClaimLines.{claim_lines_by_reader}
use Rattle.boot_inputs.proofs.WantLaws.{RefusedOfBytes, turned_other}

-- an act that is read doesn't place the sections
record Runs (r : Result Act ScriptLineFault) : Type 0 where
  known : IfOk r CanBeRun

bind-runs : {A : Type 0} (r : Result A ScriptLineFault) (f : A → Result Act ScriptLineFault) → ((x : A) → Runs (f x)) → Runs (r >>= f)
bind-runs (Ok a) f runs = runs a
bind-runs (Err w) f runs = record { known = tt }

ok-runs : (a : Act) → CanBeRun a → Runs (Ok a)
ok-runs a is = record { known = is }

if-runs : (b : Bool) (r s : Result Act ScriptLineFault) → Runs r → Runs s → Runs (if b then r else s)
if-runs true r s first second = first
if-runs false r s first second = second

-- a branch that isn't taken
not-runs : (b : Bool) (r s : Result Act ScriptLineFault) → b ≡ false → Runs s → Runs (if b then r else s)
not-runs b r s not second = rw not second

alloc-runs : (words : Words) → Runs (alloc_line words)
alloc-runs words = search (bind-runs, ok-runs) depth 24

reserve-runs : (words : Words) → Runs (reserve_line words)
reserve-runs words = search (bind-runs, ok-runs) depth 24

free-runs : (words : Words) → Runs (free_line words)
free-runs words = search (bind-runs, ok-runs) depth 24

trim-runs : (words : Words) → Runs (trim_line words)
trim-runs words = search (bind-runs, ok-runs) depth 24

fill-runs : (words : Words) → Runs (fill_line words)
fill-runs words = search (bind-runs, ok-runs) depth 24

peek-runs : (words : Words) → Runs (peek_line words)
peek-runs words = search (bind-runs, ok-runs) depth 24

name-runs : (name : List ℕ) (words : Words) → bytes_eq name (codes "sections") ≡ false → Runs (act_by_name false name words)
name-runs name words not =
    if-runs (bytes_eq name (codes "alloc")) _ _ (alloc-runs words)
    (if-runs (bytes_eq name (codes "reserve")) _ _ (reserve-runs words)
    (if-runs (bytes_eq name (codes "free")) _ _ (free-runs words)
    (if-runs (bytes_eq name (codes "trim")) _ _ (trim-runs words)
    (if-runs (bytes_eq name (codes "fill")) _ _ (fill-runs words)
    (if-runs (bytes_eq name (codes "peek")) _ _ (peek-runs words)
    (not-runs (bytes_eq name (codes "sections")) _ _ not (record { known = tt })))))))

-- if the name isn't `sections`, the act of a script's line can be run before memory has its nodes
pub act_runs : (name : List ℕ) (words : Words) (r : Result Act ScriptLineFault) → bytes_eq name (codes "sections") ≡ false
    → r ≡ act_by_name false name words → IfOk r CanBeRun
act_runs name words r not is = rw is ((name-runs name words not).known)

-- bounds of a line with any number are those of its act
pub bounds_of_act : (r : Result Act ScriptLineFault) → IfOk r (λ act. (number : ℕ) → HasBounds act) → IfOk r HasBounds
bounds_of_act (Ok a) each = each 0
bounds_of_act (Err w) each = tt

-- the lines of a script that the code's lines hold
abbrev pub lines_in_claims : List ClaimLine → List Line
lines_in_claims claims = map (λ claim. claim.line) claims

abbrev Taken : {E : Type 0} → Result (List ClaimLine) E → Result (List Line) E
Taken (Ok claims) = Ok (lines_in_claims claims)
Taken (Err error) = Err error

once-same : (seen : Bool) (act : Option Act) → has_once_command claim_lines seen act ≡ has_once_command claim_lines_by_reader seen act
once-same true act = refl
once-same false None = refl
once-same false (Some act) = refl

one-taken : (number : ℕ) (act : Option Act) (rest : Result (List ClaimLine) (ℕ × ScriptLineFault))
    → (Taken rest >>= λ lines. Ok (cons_option (script_line_at claim_lines number act) lines))
    ≡ Taken (rest >>= λ claims. Ok (cons_option (script_line_at claim_lines_by_reader number act) claims))
one-taken number None (Ok claims) = refl
one-taken number (Some act) (Ok claims) = refl
one-taken number act (Err error) = refl

then-taken : (number : ℕ) (r : Result (Option Act) (ℕ × ScriptLineFault)) (f : Option Act → Result (List Line) (ℕ × ScriptLineFault))
    (g : Option Act → Result (List ClaimLine) (ℕ × ScriptLineFault)) → ((act : Option Act) → f act ≡ Taken (g act))
    → (r >>= λ act. f act >>= λ lines. Ok (cons_option (script_line_at claim_lines number act) lines))
    ≡ Taken (r >>= λ act. g act >>= λ claims. Ok (cons_option (script_line_at claim_lines_by_reader number act) claims))
then-taken number (Ok act) f g are = rw (are act) (one-taken number act (g act))
then-taken number (Err error) f g are = refl

-- the lines of the definition are those in the code's lines
lines-taken : (seen : Bool) (number : ℕ) (texts : List (List ℕ))
    → script_lines_from claim_lines seen number texts ≡ Taken (script_lines_from claim_lines_by_reader seen number texts)
lines-taken seen number [] = refl
lines-taken seen number (text ∷ texts) =
    then-taken number (map_error (λ wrong. (number, wrong)) (read_line claim_lines seen text))
    (λ act. script_lines_from claim_lines (has_once_command claim_lines seen act) (number + 1) texts)
    (λ act. script_lines_from claim_lines_by_reader (has_once_command claim_lines_by_reader seen act) (number + 1) texts)
    (λ act. ap (λ (s : Bool). script_lines_from claim_lines s (number + 1) texts) (once-same seen act)
    ∙ lines-taken (has_once_command claim_lines_by_reader seen act) (number + 1) texts)

bytes-taken : (bytes : List ℕ) → lines_of claim_lines bytes ≡ Taken (lines_of claim_lines_by_reader bytes)
bytes-taken bytes = lines-taken false 1 (parts_in (separators.Byte 10) bytes)

-- what the reader of lines says of them, as a script's fault
read-taken : (r : Result (List ClaimLine) (ℕ × ScriptLineFault)) (claims : List ClaimLine)
    → map_error (λ at. unread.Faulty at.0 at.1) r ≡ Ok claims
    → map_error (λ at. script_fault_at at.0 at.1) (Taken r) ≡ Ok (lines_in_claims claims)
read-taken (Ok read) claims is = let same : read ≡ claims = cc in ap (λ (cs : List ClaimLine). Ok (lines_in_claims cs)) same
read-taken (Err at) claims is = absurd (cc is)

refused-taken : (r : Result (List ClaimLine) (ℕ × ScriptLineFault)) (line : ℕ) (w : ScriptLineFault)
    → map_error (λ at. unread.Faulty at.0 at.1) r ≡ Err (unread.Faulty line w)
    → map_error (λ at. script_fault_at at.0 at.1) (Taken r) ≡ Err (script_fault_at line w)
refused-taken (Ok read) line w is = absurd (cc is)
refused-taken (Err (at, other)) line w is =
    let same : at ≡ line = cc in let too : other ≡ w = cc in rw (same, too) refl

pub claims_are_read : (bytes : List ℕ) (claims : List ClaimLine)
    → map_error (λ at. unread.Faulty at.0 at.1) (lines_of claim_lines_by_reader bytes) ≡ Ok claims
    → claims_of bytes ≡ Ok (lines_in_claims claims)
claims_are_read bytes claims is = rw (bytes-taken bytes) (read-taken (lines_of claim_lines_by_reader bytes) claims is)

pub claims_are_refused : (bytes : List ℕ) (line : ℕ) (w : ScriptLineFault)
    → map_error (λ at. unread.Faulty at.0 at.1) (lines_of claim_lines_by_reader bytes) ≡ Err (unread.Faulty line w)
    → claims_of bytes ≡ Err (script_fault_at line w)
claims_are_refused bytes line w is = rw (bytes-taken bytes) (refused-taken (lines_of claim_lines_by_reader bytes) line w is)

some-taken : (r : Result (List ClaimLine) (ℕ × ScriptLineFault)) → IsOkAnd r (λ claims. 0 < length claims)
    → IsOkAnd (map_error (λ at. script_fault_at at.0 at.1) (Taken r)) (λ lines. 0 < length lines)
some-taken (Ok []) some = absurd (omega (arith, some))
some-taken (Ok (claim ∷ claims)) some = omega arith
some-taken (Err at) some = absurd some

-- if the code's lines are some, so are the lines
pub claims_are_some : (bytes : List ℕ) → IsOkAnd (lines_of claim_lines_by_reader bytes) (λ claims. 0 < length claims)
    → IsOkAnd (claims_of bytes) (λ lines. 0 < length lines)
claims_are_some bytes some = rw (bytes-taken bytes) (some-taken (lines_of claim_lines_by_reader bytes) some)

pub claims_some : (claims : List ClaimLine) → 0 < length claims → 0 < length (lines_in_claims claims)
claims_some [] some = absurd (omega (arith, some))
claims_some (claim ∷ claims) some = omega arith

-- the facts about the code's lines are those of the lines in them
pub bounds_in_claims : (claims : List ClaimLine) → All (λ claim. HasBounds claim.line.act × CanBeRun claim.line.act) claims
    → HaveBounds (lines_in_claims claims)
bounds_in_claims claims all =
    All-map (λ (line : Line). HasBounds line.act) (λ (claim : ClaimLine). claim.line) claims
    (All-weaker (λ (claim : ClaimLine). HasBounds claim.line.act × CanBeRun claim.line.act) (λ claim. HasBounds claim.line.act)
    (λ claim both. both.0) claims all)

pub no_sections_in_claims : (claims : List ClaimLine) → All (λ claim. HasBounds claim.line.act × CanBeRun claim.line.act) claims
    → HaveNoSections (lines_in_claims claims)
no_sections_in_claims claims all =
    All-map (λ (line : Line). CanBeRun line.act) (λ (claim : ClaimLine). claim.line) claims
    (All-weaker (λ (claim : ClaimLine). HasBounds claim.line.act × CanBeRun claim.line.act) (λ claim. CanBeRun claim.line.act)
    (λ claim both. both.1) claims all)

-- out of memory is never a fault of the bytes, so a fault has an error line
pub claims_other : (bytes : List ℕ) → ¬ IsErrOf (claims_of bytes) script.Memory
claims_other bytes = turned_other (λ at. script_fault_at at.0 at.1) script.Memory (lines_of claim_lines bytes) (λ at is. grind arith)

fault_is_of_bytes : (r : Result (List Line) ScriptFault) → ¬ IsErrOf r script.Memory → IfErr (map_error faults.Script r) HasErrorLine
fault_is_of_bytes r other = grind arith

claims_are_of_bytes : (bytes : List ℕ) → ¬ IsErrOf (claims_of bytes) script.Memory → IfErr (claims_or_fault bytes) HasErrorLine
claims_are_of_bytes bytes other = fault_is_of_bytes (claims_of bytes) other

read_other : {A : Type 0} (held : Option (List ℕ)) (input : Input) (limit : ℕ) (read : List ℕ → Result A Fault)
    → ((bytes : List ℕ) → IfErr (read bytes) HasErrorLine)
    → IfErr (step_or_unread_file input held (λ bytes. answer_or_faulty_file input (within_limit limit bytes >>= read))) RefusedOfBytes
read_other held input limit read other = grind arith

pub optional_other : (held : FileContents) (name : Option (List ℕ)) → ((bytes : List ℕ) → ¬ IsErrOf (claims_of bytes) script.Memory)
    → IfErr (claims_of_optional_file held name) RefusedOfBytes
optional_other held None other = tt
optional_other held (Some name) other =
    read_other (held name) inputs.Claims claims_limit claims_or_fault (λ bytes. claims_are_of_bytes bytes (other bytes))
