-- A script is read as what its lines spell, or has the fault of the lowest line that has one.
use Rattle.std.proofs.Common.{◌≡◌, ℕ, ◌+◌, ◌<◌, Bool, true, false, List, [], ◌∷◌, ◌++◌, codes, length, length-append, Option, Some, None, Result, Ok, Err, refl, ◌∙◌, ap, sym, get_or, suc, zero, arith, append_assoc, ◌⊎◌, ◌↔◌, inl, inr}
use Rattle.std.specs.Prelude.{Contains}
use Rattle.std.specs.List.{cons_option}
use Rattle.std.proofs.lemmas.List.{append-nil}
use Rattle.std.proofs.lemmas.List.Elements.{Contains-append_left, Contains-append_right, Contains-append_cases}
use Rattle.bm_base.specs.ResultSteps.{◌>>=◌, map_error}
use Rattle.text_words.specs.Parts.{parts_in}
use Rattle.text_words.specs.Spelling.{HasWords}
use Rattle.text_words.specs.Words.{words_in}
use Rattle.text_words.specs.declared.separators.Separators.TheVariants.{Script, Byte}
use Rattle.text_words.proofs.SpellingLaws.{has_words}
use Rattle.script_reader.specs.declared.act.Act.{Act}
use Rattle.script_reader.specs.declared.act.Act.TheVariants as acts
use Rattle.script_reader.specs.declared.act.Line.{Line}
use Rattle.script_reader.specs.declared.fault.ScriptLineFault.{ScriptLineFault}
use Rattle.script_reader.specs.declared.fault.ScriptFault.{ScriptFault}
use Rattle.script_reader.specs.Lines.{script_line_at, has_once_command, read_line, script_lines_from, lines_of}
use Rattle.script_reader.specs.Script.{script_fault_at, script_lines, script_of}
use Rattle.script_reader.specs.Spelling.{LineForm, sections, words_of_form, act_of_form}
use Rattle.script_reader.specs.ScriptSpelling.{HasSectionsLine, LineHasAct, LineHasFault, LinesHaveActs, IsFirstLineFault}
use Rattle.script_reader.proofs.StepLaws.{words_spelled}
use Rattle.script_reader.proofs.GrammarLaws.{nothing_read, fault_read}
use Rattle.script_reader.proofs.SpellingLaws.{script_reads, act_read}

-- `seen` is true exactly if one of the earlier lines is `sections`
abbrev pub SeenIn : List (List ℕ) → Bool → Type 0
SeenIn earlier seen = (seen ≡ true) ↔ HasSectionsLine earlier

same_seen : {P : Type 0} (a b : Bool) → ((a ≡ true) ↔ P) → ((b ≡ true) ↔ P) → a ≡ b
same_seen true true of_a of_b = refl
same_seen false false of_a of_b = refl
same_seen true false of_a of_b = let other : false ≡ true = of_b.1 (of_a.0 refl) in cc
same_seen false true of_a of_b = let other : false ≡ true = of_a.1 (of_b.0 refl) in cc

not_seen : (earlier : List (List ℕ)) (seen : Bool) → SeenIn earlier seen → (seen ≡ false) ↔ (¬ (HasSectionsLine earlier))
not_seen earlier true of = (λ is. cc, λ none. absurd (none (of.0 refl)))
not_seen earlier false of = (λ is has. let other : false ≡ true = of.1 has in cc, λ none. refl)

-- reading one line after the earlier ones gives what it spells
line_is_read : (earlier : List (List ℕ)) (seen : Bool) (text : List ℕ) (act : Option Act) → SeenIn earlier seen
    → (read_line script_lines seen text ≡ Ok act) ↔ LineHasAct earlier text act
line_is_read earlier seen text None of = (
  λ is. (words_in Script text, words_spelled text, (nothing_read (script_reads seen) (words_in Script text)).0 is),
  λ asks. rw (has_words Script text asks.0 asks.1) ((nothing_read (script_reads seen) asks.0).1 asks.2),
)
line_is_read earlier seen text (Some act) of = (
  λ is. let spelled = (act_read seen (words_in Script text) act).0 is in
      (words_in Script text, words_spelled text, spelled.0, λ same. (not_seen earlier seen of).0 (spelled.1 same)),
  λ asks. rw (has_words Script text asks.0 asks.1)
      ((act_read seen asks.0 act).1 (asks.2, λ same. (not_seen earlier seen of).1 (asks.3 same))),
)

line_at_fault : (earlier : List (List ℕ)) (seen : Bool) (text : List ℕ) (fault : ScriptLineFault) → SeenIn earlier seen
    → (read_line script_lines seen text ≡ Err fault) ↔ LineHasFault earlier text fault
line_at_fault earlier seen text fault of = (
  λ is. record {
    words = words_in Script text;
    spelled = words_spelled text;
    seen = seen;
    sections = of;
    fault = (fault_read (script_reads seen) (words_in Script text) fault).0 is;
  },
  λ at. rw (has_words Script text at.words at.spelled, same_seen seen at.seen of at.sections)
      ((fault_read (script_reads at.seen) at.words fault).1 at.fault),
)

-- a line has the act `sections` only if its words are `sections` alone
sections_words : (form : LineForm) → act_of_form form ≡ acts.Sections → words_of_form form ≡ codes "sections" ∷ []
sections_words sections is = refl
sections_words form is = cc

sections_spelled : (seen : Bool) (text : List ℕ) → read_line script_lines seen text ≡ Ok (Some acts.Sections)
    → HasWords Script text (codes "sections" ∷ [])
sections_spelled seen text is =
    let spelled = (act_read seen (words_in Script text) acts.Sections).0 is in
    let words : words_in Script text ≡ codes "sections" ∷ [] =
    spelled.0.numbers.spelled ∙ sections_words spelled.0.numbers.form (sym spelled.0.numbers.asks) in
    (rw words at (words_spelled text))

others_spelled : (text : List ℕ) (act : Option Act) → read_line script_lines false text ≡ Ok act
    → has_once_command script_lines false act ≡ false
    → ¬ (HasWords Script text (codes "sections" ∷ []))
others_spelled text act is isnt has =
    let was : read_line script_lines false text ≡ Ok (Some acts.Sections) = rw (has_words Script text (codes "sections" ∷ []) has) refl in
    let same : act ≡ Some acts.Sections = cc (is, was) in let other : true ≡ false = (rw same at isnt) in cc

is_sections_or : (act : Option Act) → (act ≡ Some acts.Sections) ⊎ (has_once_command script_lines false act ≡ false)
is_sections_or None = inr refl
is_sections_or (Some acts.Sections) = inl refl
is_sections_or (Some act) = inr refl

-- after one more line, the flag still says whether `sections` has occurred
only_one : (x y : List ℕ) → Contains (x ∷ []) y → y ≡ x
only_one x y has = at has.0 has.1 has.2
  where
    at : (k : ℕ) → k < 1 → get_or (x ∷ []) k y ≡ y → y ≡ x
    at zero below is = sym is
    at (suc k) below is = absurd (omega (arith, below))

seen_on : (earlier : List (List ℕ)) (seen : Bool) (text : List ℕ) (act : Option Act) → SeenIn earlier seen
    → read_line script_lines seen text ≡ Ok act → SeenIn (earlier ++ (text ∷ [])) (has_once_command script_lines seen act)
seen_on earlier true text act of is = (
  λ seen. let has = of.0 refl in (has.0, Contains-append_left earlier (text ∷ []) has.0 has.1, has.2),
  λ has. refl,
)
seen_on earlier false text act of is =
    elim (is_sections_or act) [
      | inl same ↦ (
        λ seen. (
          text,
          Contains-append_right earlier (text ∷ []) text (0, omega arith, refl),
          sections_spelled false text (is ∙ ap (λ (a : Option Act). Ok a) same),
        ),
        λ has. rw same refl,
      )
      | inr isnt ↦ (
        λ seen. cc (isnt, seen),
        λ has. elim (Contains-append_cases earlier (text ∷ []) has.0 has.1) [
          | inl before ↦ let other : false ≡ true = of.1 (has.0, before, has.2) in cc
          | inr this ↦ absurd (others_spelled text act is isnt (rw (only_one text has.0 this) at has.2))
        ],
      )
    ]

-- the lines after the earlier ones are the first of them and then the others
length_on : (earlier : List (List ℕ)) (text : List ℕ) → length (earlier ++ (text ∷ [])) + 1 ≡ length earlier + 1 + 1
length_on earlier text = rw (length-append earlier (text ∷ [])) refl

abbrev read_on : ℕ → Result (Option Act) ScriptLineFault → (Option Act → Result (List Line) (ℕ × ScriptLineFault))
    → Result (List Line) (ℕ × ScriptLineFault)
read_on number first others = do
  act ← map_error (λ wrong. (number, wrong)) first
  lines ← others act
  Ok (cons_option (script_line_at script_lines number act) lines)

abbrev FirstOk : ℕ → Result (Option Act) ScriptLineFault → (Option Act → Result (List Line) (ℕ × ScriptLineFault)) → List Line → Type 0
FirstOk number first others lines =
    (act : Option Act) × (left : List Line) × (first ≡ Ok act) × (others act ≡ Ok left)
    × (lines ≡ cons_option (script_line_at script_lines number act) left)

first_ok : (number : ℕ) (first : Result (Option Act) ScriptLineFault) (others : Option Act → Result (List Line) (ℕ × ScriptLineFault))
    (lines : List Line)
    → read_on number first others ≡ Ok lines → FirstOk number first others lines
first_ok number (Err fault) others lines is = cc (is)
first_ok number (Ok act) others lines is = after (others act) refl
  where
    after : (r : Result (List Line) (ℕ × ScriptLineFault)) → others act ≡ r → FirstOk number (Ok act) others lines
    after (Ok left) was = (act, left, refl, was, let read = (rw was at is) in cc (read))
    after (Err fault) was = let read = (rw was at is) in cc (read)

abbrev FirstFault : ℕ → Result (Option Act) ScriptLineFault → (Option Act → Result (List Line) (ℕ × ScriptLineFault))
    → ℕ × ScriptLineFault → Type 0
FirstFault number first others told = ((fault : ScriptLineFault) × (first ≡ Err fault) × (told ≡ (number, fault)))
    ⊎ ((act : Option Act) × (first ≡ Ok act) × (others act ≡ Err told))

first_fault : (number : ℕ) (first : Result (Option Act) ScriptLineFault) (others : Option Act → Result (List Line) (ℕ × ScriptLineFault))
    (told : ℕ × ScriptLineFault)
    → read_on number first others ≡ Err told → FirstFault number first others told
first_fault number (Err fault) others told is = inl (fault, refl, cc (is))
first_fault number (Ok act) others told is = after (others act) refl
  where
    after : (r : Result (List Line) (ℕ × ScriptLineFault)) → others act ≡ r → FirstFault number (Ok act) others told
    after (Ok left) was = let read = (rw was at is) in cc (read)
    after (Err fault) was = let read = (rw was at is) in inr (act, refl, was ∙ read)

lines_ask : (earlier : List (List ℕ)) (seen : Bool) (texts : List (List ℕ)) (lines : List Line) → SeenIn earlier seen
    → (script_lines_from script_lines seen (length earlier + 1) texts ≡ Ok lines) ↔ LinesHaveActs earlier texts lines
lines_ask earlier seen [] lines of = (λ is. cc (is), λ is. rw is refl)
lines_ask earlier seen (text ∷ texts) lines of = (
  λ is. let first = first_ok (length earlier + 1) (read_line script_lines seen text)
      (λ act. script_lines_from script_lines (has_once_command script_lines seen act) (length earlier + 1 + 1) texts) lines is in
      let others = lines_ask (earlier ++ (text ∷ [])) (has_once_command script_lines seen first.0) texts first.1
      (seen_on earlier seen text first.0 of first.2) in
      (first.0, first.1, (line_is_read earlier seen text first.0 of).0 first.2, first.4, others.0 (rw (length_on earlier text) first.3)),
  λ asks. let was = (line_is_read earlier seen text asks.0 of).1 asks.2 in
      let others = lines_ask (earlier ++ (text ∷ [])) (has_once_command script_lines seen asks.0) texts asks.1
      (seen_on earlier seen text asks.0 of was) in
      let read = (rw (length_on earlier text) at (others.1 asks.4)) in
      rw (was, read) (ap (λ (ls : List Line). Ok ls) (sym asks.3)),
)

-- if reading the lines fails, the fault is that of the first line that has one
fault_is_first : (earlier : List (List ℕ)) (seen : Bool) (texts : List (List ℕ)) (told : ℕ × ScriptLineFault) → SeenIn earlier seen
    → script_lines_from script_lines seen (length earlier + 1) texts ≡ Err told
    → IsFirstLineFault earlier texts (script_fault_at told.0 told.1)
fault_is_first earlier seen [] told of is = cc (is)
fault_is_first earlier seen (text ∷ texts) told of is =
    elim (first_fault (length earlier + 1) (read_line script_lines seen text)
    (λ act. script_lines_from script_lines (has_once_command script_lines seen act) (length earlier + 1 + 1) texts) told is) [
      | inl first ↦ record {
        before = [];
        text = text;
        after = texts;
        lines = refl;
        acts = [];
        faultless = refl;
        wrong = first.0;
        at_fault = rw (append-nil earlier) ((line_at_fault earlier seen text first.0 of).0 first.1);
        named = rw (append-nil earlier, first.2) refl;
      }
      | inr later ↦ let found = fault_is_first (earlier ++ (text ∷ [])) (has_once_command script_lines seen later.0) texts told
          (seen_on earlier seen text later.0 of later.1) (rw (length_on earlier text) later.2) in
          let whole : (earlier ++ (text ∷ [])) ++ found.before ≡ earlier ++ (text ∷ found.before) =
          append_assoc earlier (text ∷ []) found.before in
          record {
            before = text ∷ found.before;
            text = found.text;
            after = found.after;
            lines = ap (λ (ts : List (List ℕ)). text ∷ ts) found.lines;
            acts = cons_option (script_line_at script_lines (length earlier + 1) later.0) found.acts;
            faultless = (later.0, found.acts, (line_is_read earlier seen text later.0 of).0 later.1, refl, found.faultless);
            wrong = found.wrong;
            at_fault = rw whole at found.at_fault;
            named = rw whole at found.named;
          }
    ]

fault_of_one : (earlier : List (List ℕ)) (seen : Bool) (before : List (List ℕ)) (text : List ℕ) (after : List (List ℕ))
    (asks : List Line) (fault : ScriptLineFault) → SeenIn earlier seen → LinesHaveActs earlier before asks
    → LineHasFault (earlier ++ before) text fault
    → script_lines_from script_lines seen (length earlier + 1) (before ++ (text ∷ after)) ≡ Err (length (earlier ++ before) + 1, fault)
fault_of_one earlier seen [] text after asks fault of good at =
    let same = append-nil earlier in
    rw ((line_at_fault earlier seen text fault of).1 (rw same at at), same) refl
fault_of_one earlier seen (line ∷ before) text after asks fault of good at =
    let was = (line_is_read earlier seen line good.0 of).1 good.2 in
    let whole : (earlier ++ (line ∷ [])) ++ before ≡ earlier ++ (line ∷ before) = append_assoc earlier (line ∷ []) before in
    let others = fault_of_one (earlier ++ (line ∷ [])) (has_once_command script_lines seen good.0) before text after good.1 fault
    (seen_on earlier seen line good.0 of was) good.4 (rw whole at) in
    let read = (rw (length_on earlier line, whole) at others) in
    rw (was, read) refl

-- before the first line, no line is `sections`
none_seen : SeenIn [] false
none_seen = (λ is. cc (is), λ has. absurd (none has.1.0 has.1.1))
  where
    none : (k : ℕ) → k < 0 → ⊥
    none k below = omega (arith, below)

-- reading a whole script gives what its lines spell
pub script_read : (bytes : List ℕ) (lines : List Line) → script_of bytes ≡ Ok lines → lines_of script_lines bytes ≡ Ok lines
script_read bytes lines = unturned (lines_of script_lines bytes)
  where
    unturned : (r : Result (List Line) (ℕ × ScriptLineFault)) → map_error (λ at. script_fault_at at.0 at.1) r ≡ Ok lines → r ≡ Ok lines
    unturned (Ok read) is = cc (is)
    unturned (Err told) is = cc (is)

pub script_asks : (bytes : List ℕ) (lines : List Line)
    → (script_of bytes ≡ Ok lines) ↔ LinesHaveActs [] (parts_in (Byte 10) bytes) lines
script_asks bytes lines =
    let asks = lines_ask [] false (parts_in (Byte 10) bytes) lines none_seen in
    (λ is. asks.0 (script_read bytes lines is), λ ask. rw (asks.1 ask) refl)

pub script_fault : (bytes : List ℕ) (fault : ScriptFault)
    → (script_of bytes ≡ Err fault) ↔ IsFirstLineFault [] (parts_in (Byte 10) bytes) fault
script_fault bytes fault = (
  by_lines (lines_of script_lines bytes) refl,
  λ found. let read = fault_of_one [] false found.before found.text found.after found.acts found.wrong none_seen
      found.faultless found.at_fault in
      rw (found.lines, read, found.named) refl,
)
  where
    by_lines : (r : Result (List Line) (ℕ × ScriptLineFault)) → lines_of script_lines bytes ≡ r
        → map_error (λ at. script_fault_at at.0 at.1) r ≡ Err fault
        → IsFirstLineFault [] (parts_in (Byte 10) bytes) fault
    by_lines (Ok lines) was is = cc (is)
    by_lines (Err told) was is =
        let same : script_fault_at told.0 told.1 ≡ fault = cc (is) in
        rw same at (fault_is_first [] false (parts_in (Byte 10) bytes) told none_seen was)
