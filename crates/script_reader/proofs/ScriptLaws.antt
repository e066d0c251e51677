-- Reading the lines one after another gives what the definition gives for all lines.
use Rattle.std.proofs.Common.{◌≡◌, ℕ, ◌+◌, ◌<◌, ◌≤◌, Bool, List, [], ◌∷◌, ◌++◌, length, length-append, Option, Some, None, option_to_list, Result, Ok, Err, Vec, Global, Bor, refl, sym, ◌∙◌, ap, subst, arith, append_assoc, ◌⊎◌, inl, inr}
use Rattle.std.specs.Prelude.{IfOk, IfErr, IfSome, IsOkAnd, IsErr, IsSome}
use Rattle.std.specs.List.{All, cons_option}
use Rattle.std.proofs.lemmas.List.Elements.{All-append, All-nil, All-cons}
use Rattle.text_words.proofs.WordsLaws.{left}
use Rattle.bm_base.specs.declared.memory.Memory.{Memory}
use Rattle.bm_base.specs.ResultSteps.{◌>>=◌}
use Rattle.script_reader.specs.Lines.{ScriptKind, script_line_at, has_once_command, read_line, script_lines_from}

-- the first argument's lines followed by the others; or the fault of the others, if they have one
abbrev pub after : {L E : Type 0} → List L → Result (List L) E → Result (List L) E
after front (Ok lines) = Ok (front ++ lines)
after front (Err fault) = Err fault

in_front : {L : Type 0} (line : Option L) (lines : List L) → cons_option line lines ≡ option_to_list line ++ lines
in_front None lines = refl
in_front (Some line) lines = refl

pub with_others : {L E : Type 0} (front : List L) (line : Option L) (others : Result (List L) E)
    → after front (others >>= λ lines. Ok (cons_option line lines)) ≡ after (front ++ option_to_list line) others
with_others {L = L} front line (Ok lines) =
    ap (λ (ls : List L). Ok ls)
    (ap (λ (ls : List L). front ++ ls) (in_front line lines) ∙ sym (append_assoc front (option_to_list line) lines))
with_others front line (Err fault) = refl

-- the first line that remains becomes the last one that was read
pub line_read : {A L : Type 0} (kind : ScriptKind A L) (seen : Bool) (number : ℕ) (front : List L) (text : List ℕ) (texts : List (List ℕ))
    (act : Option A) → read_line kind seen text ≡ Ok act
    → after front (script_lines_from kind seen number (text ∷ texts))
    ≡ after (front ++ option_to_list (script_line_at kind number act))
    (script_lines_from kind (has_once_command kind seen act) (number + 1) texts)
line_read kind seen number front text texts act is =
    rw is (with_others front (script_line_at kind number act) (script_lines_from kind (has_once_command kind seen act) (number + 1) texts))

-- after a line, the text that remains is shorter
pub left_after : (rest : Option (Bor (List ℕ))) (n : ℕ) → IfSome rest (λ text. length text.now < n) → left rest ≤ n
left_after None n shorter = omega arith
left_after (Some text) n shorter = omega (arith, shorter)

-- the list has exactly the lines that were read
pub kept_lines_are_read : {L : Type 0} (result lines : Result (Vec L Global) Memory) (front added : List L)
    → IfOk result (λ kept. IsOkAnd lines (λ before. kept.items ≡ before.items ++ added))
    → IfOk lines (λ before. before.items ≡ front) → IfOk result (λ kept. kept.items ≡ front ++ added)
kept_lines_are_read {L = L} (Ok kept) (Ok before) front added line are = line ∙ ap (λ (ls : List L). ls ++ added) are
kept_lines_are_read (Ok kept) (Err memory) front added line are = absurd line
kept_lines_are_read (Err memory) lines front added line are = tt

-- what holds for the lines read before, and stays true with the next line, holds for all lines
pub kept_lines_hold : {L : Type 0} (P : List L → Type 0) (result lines : Result (Vec L Global) Memory) (added : List L)
    → IfOk result (λ kept. IsOkAnd lines (λ before. kept.items ≡ before.items ++ added))
    → IfOk lines (λ before. P before.items) → ((ls : List L) → P ls → P (ls ++ added)) → IfOk result (λ kept. P kept.items)
kept_lines_hold P (Ok kept) (Ok before) added line hold one = subst P (sym line) (one before.items hold)
kept_lines_hold P (Ok kept) (Err memory) added line hold one = absurd line
kept_lines_hold P (Err memory) lines added line hold one = tt

-- each line is within its limits
line_within : {A L : Type 0} (kind : ScriptKind A L) (P : L → Type 0) (number : ℕ) (act : Option A)
    → IfSome act (λ act. (n : ℕ) → P (kind.line n act)) → All P (option_to_list (script_line_at kind number act))
line_within kind P number None limits = All-nil P
line_within kind P number (Some act) limits = All-cons P (kind.line number act) [] (limits number) (All-nil P)

pub limits_on : {A L : Type 0} (kind : ScriptKind A L) (P : L → Type 0) (number : ℕ) (act : Option A)
    → IfSome act (λ act. (n : ℕ) → P (kind.line n act)) → (ls : List L) → All P ls
    → All P (ls ++ option_to_list (script_line_at kind number act))
limits_on kind P number act limits ls all = All-append P ls _ all (line_within kind P number act limits)

some_in_front : {L : Type 0} (front : List L) (line : Option L) → (0 < length front) ⊎ IsSome line
    → 0 < length (front ++ option_to_list line)
some_in_front front None some = elim some [ inl more ↦ rw (length-append front []) (omega (arith, more)) | inr is ↦ cc is ]
some_in_front front (Some line) some = rw (length-append front (option_to_list (Some line))) (omega arith)

-- if the program ran out of memory, some line has a command
pub out_of_memory_has_command : {L : Type 0} (result lines : Result (Vec L Global) Memory) (front : List L) (line : Option L)
    → (IsErr result → IsErr lines ⊎ IsSome line) → IfErr lines (λ memory. 0 < length front)
    → IfErr result (λ memory. 0 < length (front ++ option_to_list line))
out_of_memory_has_command (Ok kept) lines front line memory some = tt
out_of_memory_has_command (Err wanting) (Ok before) front line memory some =
    elim (memory refl) [ inl was ↦ cc was | inr is ↦ some_in_front front line (inr is) ]
out_of_memory_has_command (Err wanting) (Err was) front line memory some = some_in_front front line (inl some)
