-- Lines of any kind of script: a line is read as what it spells, and has the fault of the first
-- condition that it doesn't meet.
use Rattle.std.proofs.Common.{◌≡◌, ℕ, ◌==◌, Bool, true, false, List, [], ◌∷◌, ◌++◌, codes, Some, None, Result, Ok, Err, refl, ap, arith, ◌⊎◌, ◌↔◌, inl, inr}
use Rattle.std.proofs.lemmas.Bool.Decides.{nat_tests}
use Rattle.bm_base.specs.ResultSteps.{◌>>=◌}
use Rattle.script_reader.specs.declared.fault.ScriptLineFault.{ScriptLineFault}
use Rattle.script_reader.specs.declared.fault.ScriptLineFault.TheVariants as wrong
use Rattle.script_reader.specs.Lines.{is_comment, act_by_forms}
use Rattle.script_reader.specs.Grammar.{HasNoCommand, no_words, comment, Grammar, HasLineForm, SpellsNumbers, HasWordsFault}
use Rattle.script_reader.specs.Numbers.{Words}

-- a kind of script, and what the lemmas need to know of it. Words have a form, or the fault
-- `Form`. If the numbers of a form are right, its act is checked; otherwise the words have the
-- fault `Number`. An act passes the checks, or has the fault of the first check that it fails.
pub record Reads (A : Type 0) : Type 1 where
  pub forms : List ℕ → Words → Result A ScriptLineFault
  pub grammar : Grammar A
  pub Passes : A → Type 0
  pub Fails : A → ScriptLineFault → Type 0
  pub named : (name : List ℕ) (words : Words) → HasLineForm grammar (name ∷ words) ⊎ (forms name words ≡ Err wrong.Form)
  pub checked : A → Result A ScriptLineFault
  pub numbers : (form : grammar.Form)
      → (grammar.HasNumbers form × (act_by_forms forms (grammar.words_of form) ≡ (checked (grammar.act_of form) >>= λ act. Ok (Some act))))
      ⊎ ((¬ (grammar.HasNumbers form)) × (act_by_forms forms (grammar.words_of form) ≡ Err wrong.Number))
  pub judged : (act : A) → (Passes act × (checked act ≡ Ok act)) ⊎ ((fault : ScriptLineFault) × Fails act fault × (checked act ≡ Err fault))
  pub passed : (act : A) → Passes act → checked act ≡ Ok act
  pub failed : (act : A) (fault : ScriptLineFault) → Fails act fault → checked act ≡ Err fault
  pub not_form : (act : A) → ¬ (Fails act wrong.Form)
  pub not_number : (act : A) → ¬ (Fails act wrong.Number)

-- a first word either begins a comment or doesn't
comment_or : (name : List ℕ) → ((word : List ℕ) × (name ≡ codes "#" ++ word)) ⊎ (is_comment name ≡ false)
comment_or [] = inr refl
comment_or (b ∷ bs) = by_test (b == 35) refl
  where
    by_test : (t : Bool) → (b == 35) ≡ t → ((word : List ℕ) × (b ∷ bs ≡ codes "#" ++ word)) ⊎ ((b == 35) ≡ false)
    by_test true is = let same : b ≡ 35 = grind (arith, nat_tests, is) in inl (bs, ap (λ (a : ℕ). a ∷ bs) same)
    by_test false isnt = inr isnt

not_comment : (name : List ℕ) (words : Words) → is_comment name ≡ false → ¬ (HasNoCommand (name ∷ words))
not_comment name words isnt (comment word others) = cc

-- every list of words has one of three meanings: no command, an act, or a fault
data Verdict {A : Type 0} (reads : Reads A) (words : Words) : Type 0 where
  passed_over : HasNoCommand words → act_by_forms reads.forms words ≡ Ok None → Verdict reads words
  asks : (act : A) → SpellsNumbers reads.grammar words act → reads.Passes act → act_by_forms reads.forms words ≡ Ok (Some act)
      → Verdict reads words
  at_fault : (fault : ScriptLineFault) → HasWordsFault reads.grammar reads.Fails words fault → act_by_forms reads.forms words ≡ Err fault
      → Verdict reads words

act_fault : {A : Type 0} (reads : Reads A) (words : Words) (act : A) (fault : ScriptLineFault) → SpellsNumbers reads.grammar words act
    → reads.Fails act fault → HasWordsFault reads.grammar reads.Fails words fault
act_fault reads words act wrong.Form spells fails = absurd (reads.not_form act fails)
act_fault reads words act wrong.Number spells fails = absurd (reads.not_number act fails)
act_fault reads words act other spells fails = (act, spells, fails)

form_judged : {A : Type 0} (reads : Reads A) (form : reads.grammar.Form) → Verdict reads (reads.grammar.words_of form)
form_judged reads form =
    elim (reads.numbers form) [
      | inl good ↦ let spells : SpellsNumbers reads.grammar (reads.grammar.words_of form) (reads.grammar.act_of form) =
          record { form = form; spelled = refl; numbers = good.0; asks = refl } in
          elim (reads.judged (reads.grammar.act_of form)) [
            | inl ok ↦ asks (reads.grammar.act_of form) spells ok.0 (rw (good.1, ok.1) refl)
            | inr bad ↦ at_fault bad.0 (act_fault reads _ _ bad.0 spells bad.1) (rw (good.1, bad.2) refl)
          ]
      | inr bad ↦ at_fault wrong.Number (form, refl, bad.0) bad.1
    ]

-- words that aren't a comment have a form, or have the fault `Form`
named_or : {A : Type 0} (reads : Reads A) (name : List ℕ) (words : Words) → is_comment name ≡ false
    → HasLineForm reads.grammar (name ∷ words)
    ⊎ ((¬ (HasLineForm reads.grammar (name ∷ words))) × (act_by_forms reads.forms (name ∷ words) ≡ Err wrong.Form))
named_or reads name words isnt =
    elim (reads.named name words) [
      | inl form ↦ inl form
      | inr bad ↦ let asked_bad : act_by_forms reads.forms (name ∷ words) ≡ Err wrong.Form = rw (isnt, bad) refl in
          inr (
            λ form. elim (form_judged reads form.0) [
              | passed_over passed was ↦ cc (form.1, was, asked_bad)
              | asks act spells passes was ↦ cc (form.1, was, asked_bad)
              | at_fault fault has was ↦ let same : fault ≡ wrong.Form = cc (form.1, was, asked_bad) in
                  absurd ((rw same at has).1 (form.0, refl))
            ],
            asked_bad,
          )
    ]

line_judged : {A : Type 0} (reads : Reads A) (words : Words) → Verdict reads words
line_judged reads [] = passed_over no_words refl
line_judged reads (name ∷ words) =
    elim (comment_or name) [
      | inl is ↦ rw is.1 (passed_over (comment is.0 words) refl)
      | inr isnt ↦ elim (named_or reads name words isnt) [
        | inl form ↦ rw form.1 (form_judged reads form.0)
        | inr bad ↦ at_fault wrong.Form (not_comment name words isnt, bad.0) bad.1
      ]
    ]

spelled_asked : {A : Type 0} (reads : Reads A) (words : Words) (act : A) → SpellsNumbers reads.grammar words act
    → act_by_forms reads.forms words ≡ (reads.checked act >>= λ act. Ok (Some act))
spelled_asked reads words act spells =
    elim (reads.numbers spells.form) [
      | inl good ↦ rw (spells.spelled, good.1, spells.asks) refl
      | inr bad ↦ absurd (bad.0 spells.numbers)
    ]

-- a line is read as an act exactly if its words spell it and it passes the checks
pub act_read : {A : Type 0} (reads : Reads A) (words : Words) (act : A)
    → (act_by_forms reads.forms words ≡ Ok (Some act)) ↔ (SpellsNumbers reads.grammar words act × reads.Passes act)
act_read reads words act = (
  λ is. elim (line_judged reads words) [
    | passed_over passed was ↦ cc (is, was)
    | asks other spells passes was ↦ let same : other ≡ act = cc (is, was) in (rw same at spells, rw same at passes)
    | at_fault fault has was ↦ cc (is, was)
  ],
  λ spells. rw (spelled_asked reads words act spells.0, reads.passed act spells.1) refl,
)

-- lines without words and comments are read as lines without a command
passed_read : {A : Type 0} (forms : List ℕ → Words → Result A ScriptLineFault) (words : Words) → HasNoCommand words
    → act_by_forms forms words ≡ Ok None
passed_read forms words no_words = refl
passed_read forms words (comment word others) = refl

pub nothing_read : {A : Type 0} (reads : Reads A) (words : Words) → (act_by_forms reads.forms words ≡ Ok None) ↔ HasNoCommand words
nothing_read reads words = (
  λ is. elim (line_judged reads words) [
    | passed_over passed was ↦ passed
    | asks other spells passes was ↦ cc (is, was)
    | at_fault fault has was ↦ cc (is, was)
  ],
  passed_read reads.forms words,
)

-- a line has the fault of the first condition that it doesn't meet
number_failed : {A : Type 0} (reads : Reads A) (words : Words) → HasWordsFault reads.grammar reads.Fails words wrong.Number
    → act_by_forms reads.forms words ≡ Err wrong.Number
number_failed reads words has = elim (reads.numbers has.0) [ inl good ↦ absurd (has.2 good.0) | inr bad ↦ rw has.1 bad.1 ]

has_failed : {A : Type 0} (reads : Reads A) (words : Words) (fault : ScriptLineFault) → HasWordsFault reads.grammar reads.Fails words fault
    → act_by_forms reads.forms words ≡ Err fault
has_failed reads [] wrong.Form has = absurd (has.0 no_words)
has_failed reads (name ∷ words) wrong.Form has =
    elim (comment_or name) [
      | inl is ↦ absurd (has.0 (rw is.1 (comment is.0 words)))
      | inr isnt ↦ elim (named_or reads name words isnt) [ inl form ↦ absurd (has.1 form) | inr bad ↦ bad.1 ]
    ]
has_failed reads words wrong.Number has = number_failed reads words has
has_failed reads words other has = rw (spelled_asked reads words has.0 has.1, reads.failed has.0 other has.2) refl

pub fault_read : {A : Type 0} (reads : Reads A) (words : Words) (fault : ScriptLineFault)
    → (act_by_forms reads.forms words ≡ Err fault) ↔ HasWordsFault reads.grammar reads.Fails words fault
fault_read reads words fault = (
  λ is. elim (line_judged reads words) [
    | passed_over passed was ↦ cc (is, was)
    | asks other spells passes was ↦ cc (is, was)
    | at_fault other has was ↦ let same : other ≡ fault = cc (is, was) in rw same at has
  ],
  has_failed reads words fault,
)
