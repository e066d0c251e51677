-- How a user writes a line of any kind of script: its forms, and the conditions on their numbers. A
-- line spells an act if it has a form and meets all conditions. Its fault is the first condition
-- that it doesn't meet.
use Rattle.std.specs.Prelude.{◌≡◌, ℕ, ◌≤◌, List, [], ◌∷◌, ◌++◌, codes, Result, Ok, Err}
use Rattle.bm_base.specs.Size.{size_of, IsSize}
use Rattle.bm_base.specs.declared.size.NumFault.{NumFault}
use Rattle.script_reader.specs.declared.fault.ScriptLineFault.{ScriptLineFault}
use Rattle.script_reader.specs.declared.fault.ScriptLineFault.TheVariants as wrong
use Rattle.script_reader.specs.Numbers.{Words}

-- the line has no command: it has no words, or is a comment
pub data HasNoCommand : Words → Type 0 where
  no_words : HasNoCommand []
  comment : (word : List ℕ) (words : Words) → HasNoCommand ((codes "#" ++ word) ∷ words)

-- the whole word is a size of at most `most`
abbrev pub IsWithin : ℕ → List ℕ → Type 0
IsWithin most word = (n : ℕ) × IsSize word n × (n ≤ most)

-- the size that was read at the start of a word, or 0 if none was
abbrev pub front_value : Result (ℕ × ℕ) NumFault → ℕ
front_value (Ok found) = found.0
front_value (Err fault) = 0

-- the size that a word spells
abbrev pub value_of_word : List ℕ → ℕ
value_of_word word = front_value (size_of word)

-- the grammar of a kind of script. A `Form` is a way to write a line, with an arbitrary word in the
-- place of each number. `words_of` gives the words of the line. `HasNumbers` says that the words
-- for numbers are sizes within their limits. `act_of` gives the act that the line then spells.
pub record Grammar (A : Type 0) : Type 1 where
  pub Form : Type 0
  pub words_of : Form → Words
  pub HasNumbers : Form → Type 0
  pub act_of : Form → A

-- the words are those of some form of the grammar
abbrev pub HasLineForm : {A : Type 0} → Grammar A → Words → Type 0
HasLineForm grammar words = (form : grammar.Form) × (words ≡ grammar.words_of form)

-- the words have a form, the words for its numbers are sizes within their limits, and `act` is the
-- act of that form
pub record SpellsNumbers {A : Type 0} (grammar : Grammar A) (words : Words) (act : A) : Type 0 where
  pub form : grammar.Form
  pub spelled : words ≡ grammar.words_of form
  pub numbers : grammar.HasNumbers form
  pub asks : act ≡ grammar.act_of form

-- for a grammar whose acts have no conditions beyond their form and the limits of their numbers: no
-- act has a further fault
abbrev pub NeverFails : {A : Type 0} → A → ScriptLineFault → Type 0
NeverFails act wrong = ⊥

-- the words have this fault: `Form` if they match no form, `Number` if they match a form but its
-- numbers aren't all right. They have any other fault if their form and numbers are right, and
-- `Fails` says that their act has it.
abbrev pub HasWordsFault : {A : Type 0} → Grammar A → (A → ScriptLineFault → Type 0) → Words → ScriptLineFault → Type 0
HasWordsFault grammar Fails words wrong.Form = (¬ (HasNoCommand words)) × (¬ (HasLineForm grammar words))
HasWordsFault grammar Fails words wrong.Number =
    (form : grammar.Form) × (words ≡ grammar.words_of form) × (¬ (grammar.HasNumbers form))
HasWordsFault {A = A} grammar Fails words other = (act : A) × SpellsNumbers grammar words act × Fails act other
