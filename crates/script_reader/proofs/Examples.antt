-- Worked examples of words, lines and scripts.
use Rattle.std.proofs.Common.{◌≡◌, ℕ, ◌-◌, ◌^◌, true, false, List, Some, None, [], ◌∷◌, Ok, Err, codes, refl, ap, lit<, lit≤, arith}
use Rattle.text_words.specs.Spelling.{HasWords, no_byte, blank_first, word_alone, word_first}
use Rattle.text_words.specs.Words.{words_in, IsWord}
use Rattle.text_words.specs.declared.separators.Separators.TheVariants as separators
use Rattle.script_reader.specs.declared.act.Act.TheVariants as acts
use Rattle.script_reader.specs.declared.fault.ScriptLineFault.TheVariants as wrong
use Rattle.script_reader.specs.declared.fault.ScriptFault.TheVariants as faults
use Rattle.script_reader.specs.Numbers.{Words, number_if_whole, number_in_word, number_if_within, number_within, optional_number, check_power_of_two, check_not_zero, range_or_fault}
use Rattle.script_reader.specs.Forms.{greatest_u64, greatest_id, greatest_node, greatest_byte, greatest_len, alloc_line, reserve_line, free_line, trim_line, fill_line, peek_line, act_by_name, HasBounds}
use Rattle.script_reader.specs.Grammar.{HasNoCommand, no_words, comment, IsWithin, front_value, value_of_word, HasLineForm, SpellsNumbers, HasWordsFault}
use Rattle.script_reader.specs.Spelling.{no_node, near_node, exact_node, alloc, trim, peek, sections, HasLineNumbers, act_of_form, IsAligned, HasSize, IsInSpace, script_grammar, SpellsAct, Fails}
use Rattle.script_reader.specs.ScriptSpelling.{HasSectionsLine, LineHasAct, LineHasFault, LinesHaveActs, IsFirstLineFault}
use Rattle.script_reader.proofs.StepLaws.{words_spelled}
use Rattle.script_reader.specs.Lines.{act_by_forms, read_line}
use Rattle.script_reader.specs.Script.{script_lines, script_of}

-- the words of a line, or of the rest of one
abbrev in_words : List ℕ → Words
in_words text = words_in separators.Script text

-- a size must take its whole word
whole_words : (number_in_word (codes "64K") ≡ Ok 65536) × (number_in_word (codes "64KB") ≡ Err wrong.Number)
    × (number_in_word (codes "x") ≡ Err wrong.Number)
    × (number_if_whole (codes "12") (Ok (12, 2)) ≡ Ok 12) × (number_if_whole (codes "12x") (Ok (12, 2)) ≡ Err wrong.Number)
whole_words = (refl, refl, refl, refl, refl)

bounded_numbers : (number_if_within 9 9 ≡ Ok 9) × (number_if_within 9 10 ≡ Err wrong.Number)
    × (number_within greatest_byte (codes "0xff") ≡ Ok 255)
    × (number_within greatest_byte (codes "256") ≡ Err wrong.Number) × (optional_number greatest_node None ≡ Ok None)
    × (optional_number greatest_node (Some (codes "1023")) ≡ Ok (Some 1023))
    × (optional_number greatest_node (Some (codes "1024")) ≡ Err wrong.Number) × (greatest_u64 ≡ 2 ^ 64 - 1) × (greatest_id ≡ 2 ^ 32 - 1)
    × (greatest_len ≡ 64)
bounded_numbers = (refl, refl, refl, refl, refl, refl, refl, refl, refl, refl)

powers_sizes_and_ranges : (check_power_of_two 4096 ≡ Ok 4096) × (check_power_of_two 3 ≡ Err wrong.Align)
    × (check_power_of_two 0 ≡ Err wrong.Align) × (check_not_zero 1 ≡ Ok 1)
    × (check_not_zero 0 ≡ Err wrong.ZeroSize) × (range_or_fault 1 (2 ^ 64 - 2) ≡ Ok (record { base = 1; size = 2 ^ 64 - 2 }))
    × (range_or_fault 1 (2 ^ 64 - 1) ≡ Err wrong.TooFar)
unfolding lib.Count.ones
powers_sizes_and_ranges = (refl, refl, refl, refl, refl, refl, refl)

-- an allocation, and one with each fault: the form is checked before the numbers, the numbers
-- before the alignment, the alignment before the size
allocations : (alloc_line (in_words (codes "1 8K 4 node 3 exact"))
    ≡ Ok (acts.Alloc 1 (record { size = 8192; align = 4; min = 0; max = None; node = Some 3; exact = true })))
    × (alloc_line (in_words (codes "x 0 3 exact")) ≡ Err wrong.Form) × (alloc_line (in_words (codes "1 0 3 node 1024")) ≡ Err wrong.Number)
    × (alloc_line (in_words (codes "1 0 3")) ≡ Err wrong.Align) × (alloc_line (in_words (codes "1 0 4")) ≡ Err wrong.ZeroSize)
unfolding lib.Count.ones
allocations = (refl, refl, refl, refl, refl)

forms_of_lines : (reserve_line (in_words (codes "1 0x1000 1")) ≡ Ok (acts.Reserve 1 (record { base = 4096; size = 1 })))
    × (reserve_line (in_words (codes "1 0xffffffffffffffff 1")) ≡ Err wrong.TooFar)
    × (reserve_line (in_words (codes "1 0xffffffffffffffff 0")) ≡ Err wrong.ZeroSize)
    × (free_line (in_words (codes "4294967295")) ≡ Ok (acts.Free 4294967295))
    × (free_line (in_words (codes "4294967296")) ≡ Err wrong.Number) × (trim_line (in_words (codes "1 1")) ≡ Ok (acts.Trim 1 1))
    × (trim_line (in_words (codes "1 0")) ≡ Err wrong.ZeroSize) × (fill_line (in_words (codes "1 0")) ≡ Ok (acts.Fill 1 0))
    × (fill_line (in_words (codes "1 256")) ≡ Err wrong.Number) × (peek_line (in_words (codes "0 64")) ≡ Ok (acts.Peek 0 64))
    × (peek_line (in_words (codes "0 65")) ≡ Err wrong.Number) × (peek_line (in_words (codes "0xffffffffffffffc0 64")) ≡ Err wrong.TooFar)
forms_of_lines = (refl, refl, refl, refl, refl, refl, refl, refl, refl, refl, refl, refl)

asked_examples : (act_by_forms (act_by_name false) [] ≡ Ok None) × (act_by_forms (act_by_name false) (in_words (codes "# free")) ≡ Ok None)
    × (read_line script_lines false (codes "\t\r") ≡ Ok None)
    × (act_by_forms (act_by_name false) (in_words (codes "free 1")) ≡ Ok (Some (acts.Free 1)))
    × (read_line script_lines false (codes " free\t1\r") ≡ Ok (Some (acts.Free 1)))
asked_examples = (refl, refl, refl, refl, refl)

-- acts with and without the limits that they must have
has_bounds : HasBounds (acts.Peek 0 64) × HasBounds (acts.Trim 1 1)
has_bounds = ((omega arith, omega arith, omega arith), omega arith)

has_none : HasBounds (acts.Peek 0 65) → ⊥
has_none bounds = let few = bounds.1 in omega (arith, few)

-- whole scripts: the last line may lack its newline; the fault of the lowest line is reported,
-- whatever lines follow
whole_scripts : (script_of (codes "free 1\n\nfree 2")
    ≡ Ok (record { number = 1; act = acts.Free 1 } ∷ record { number = 3; act = acts.Free 2 } ∷ [])) × (script_of [] ≡ Ok [])
    × (script_of (codes "\n") ≡ Ok []) × (script_of (codes "free 1\nfree x\nfree\n") ≡ Err (faults.BadNumber 2))
    × (script_of (codes "sections\n#\nsections\n") ≡ Err (faults.SecondSections 3))
whole_scripts = (refl, refl, refl, refl, refl)

-- the words of a line with blanks around them, and of a line that begins with a word
spelled_words : HasWords separators.Script (codes " free\t7 ") (codes "free" ∷ codes "7" ∷ [])
    × HasWords separators.Script (codes "free 7") (codes "free" ∷ codes "7" ∷ [])
spelled_words =
    let name : IsWord separators.Script (codes "free") = record { some = lit< tt; closed = (refl, (refl, (refl, (refl, refl)))) } in
    let id : IsWord separators.Script (codes "7") = record { some = lit< tt; closed = (refl, refl) } in (
      blank_first 32 (codes "free\t7 ") (codes "free" ∷ codes "7" ∷ []) refl
          (word_first (codes "free") 9 (codes "7 ") (codes "7" ∷ []) name refl (word_first (codes "7") 32 [] [] id refl no_byte)),
      word_first (codes "free") 32 (codes "7") (codes "7" ∷ []) name refl (word_alone (codes "7") id),
    )

-- a line without words, and a comment, have no command
passed_over : HasNoCommand [] × HasNoCommand (codes "#free" ∷ codes "1" ∷ [])
passed_over = (no_words, comment (codes "free") (codes "1" ∷ []))

-- a form takes any word in the place of a number: here `max` is read as the lowest address, and
-- not as a key
any_word_for_a_number :
    HasLineForm script_grammar
    (codes "alloc" ∷ codes "1" ∷ codes "1" ∷ codes "1" ∷ codes "min" ∷ codes "max" ∷ codes "max" ∷ codes "1" ∷ [])
    × HasLineForm script_grammar (codes "alloc" ∷ codes "1" ∷ codes "1" ∷ codes "1" ∷ codes "node" ∷ codes "exact" ∷ [])
any_word_for_a_number = (
  (alloc (codes "1") (codes "1") (codes "1") (Some (codes "max")) (Some (codes "1")) no_node, refl),
  (alloc (codes "1") (codes "1") (codes "1") None None (near_node (codes "exact")), refl),
)

-- a size within its limit, one above it, and a word that isn't a size; values of words
sizes_within : IsWithin 255 (codes "0xff") × (IsWithin 255 (codes "256") → ⊥) × (IsWithin 255 (codes "x") → ⊥)
    × (value_of_word (codes "64K") ≡ 65536) × (front_value (Ok (12, 2)) ≡ 12)
sizes_within = (
  (255, refl, lit≤ tt),
  λ is. (let same : 256 ≡ is.0 = ap front_value is.1 in omega (arith, same, is.2)),
  λ is. cc (is.1),
  refl,
  refl,
)

has_numbers : HasLineNumbers (peek (codes "0x10") (codes "64")) × HasLineNumbers sections
has_numbers = (((16, refl, lit≤ tt), (64, refl, lit≤ tt)), tt)

acts_of_forms : (act_of_form (peek (codes "0x10") (codes "64")) ≡ acts.Peek 16 64)
    × (act_of_form (alloc (codes "1") (codes "8K") (codes "4") None None (exact_node (codes "3")))
    ≡ acts.Alloc 1 (record { size = 8192; align = 4; min = 0; max = None; node = Some 3; exact = true }))
acts_of_forms = (refl, refl)

-- the conditions of an act beyond its numbers, met and not met
conditions : HasSize (acts.Trim 1 1) × (HasSize (acts.Trim 1 0) → ⊥) × IsInSpace (acts.Peek 16 64)
    × (IsInSpace (acts.Peek (2 ^ 64 - 64) 64) → ⊥) × IsAligned (acts.Free 1)
conditions = (lit< tt, λ is. omega (arith, is), lit< tt, λ is. omega (arith, is), tt)

peek_numbers : SpellsNumbers script_grammar (codes "peek" ∷ codes "0x10" ∷ codes "64" ∷ []) (acts.Peek 16 64)
peek_numbers = record { form = peek (codes "0x10") (codes "64"); spelled = refl; numbers = has_numbers.0; asks = refl }

spelled_peek : SpellsAct (codes "peek" ∷ codes "0x10" ∷ codes "64" ∷ []) (acts.Peek 16 64)
spelled_peek = record { numbers = peek_numbers; aligned = tt; size = lit< tt; in_space = lit< tt }

-- the first condition that a line doesn't meet: a size of 0, and a second `sections`
spells_sections : SpellsAct (codes "sections" ∷ []) acts.Sections
spells_sections = record {
  numbers = record { form = sections; spelled = refl; numbers = tt; asks = refl };
  aligned = tt;
  size = tt;
  in_space = tt;
}

faults_of_words : HasWordsFault script_grammar (Fails false) (codes "trim" ∷ codes "1" ∷ codes "0" ∷ []) wrong.ZeroSize
    × HasWordsFault script_grammar (Fails true) (codes "sections" ∷ []) wrong.SecondSections
faults_of_words = (
  (
    acts.Trim 1 0,
    record { form = trim (codes "1") (codes "0"); spelled = refl; numbers = ((1, refl, lit≤ tt), (0, refl, lit≤ tt)); asks = refl },
    (tt, λ is. omega (arith, is)),
  ),
  (acts.Sections, spells_sections.numbers, (refl, refl)),
)

-- the meaning of whole scripts: one with a comment, and one whose first line has a fault
none_earlier : HasSectionsLine [] → ⊥
none_earlier has = omega (arith, has.1.1)

lines_asked : LineHasAct [] (codes "#") None
    × LinesHaveActs [] (codes "sections" ∷ codes "#" ∷ []) (record { number = 1; act = acts.Sections } ∷ [])
lines_asked =
    let hash : IsWord separators.Script (codes "#") = record { some = lit< tt; closed = (refl, refl) } in
    let words : HasWords separators.Script (codes "#") (codes "#" ∷ []) = word_alone (codes "#") hash in (
      (codes "#" ∷ [], words, comment [] []),
      (
        Some acts.Sections,
        [],
        (codes "sections" ∷ [], words_spelled (codes "sections"), spells_sections, λ same has. none_earlier has),
        refl,
        (None, [], (codes "#" ∷ [], words, comment [] []), refl, refl),
      ),
    )

line_at_fault : LineHasFault [] (codes "trim 1 0") wrong.ZeroSize
line_at_fault = record {
  words = codes "trim" ∷ codes "1" ∷ codes "0" ∷ [];
  spelled = words_spelled (codes "trim 1 0");
  seen = false;
  sections = (λ is. cc is, λ has. absurd (none_earlier has));
  fault = faults_of_words.0;
}

first_fault : IsFirstLineFault [] (codes "trim 1 0" ∷ codes "x" ∷ []) (faults.ZeroSize 1)
first_fault = record {
  before = [];
  text = codes "trim 1 0";
  after = codes "x" ∷ [];
  lines = refl;
  acts = [];
  faultless = refl;
  wrong = wrong.ZeroSize;
  at_fault = line_at_fault;
  named = refl;
}
