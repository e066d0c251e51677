-- The outputs of a run over the words and files of a call, compared with the outcome.
use Rattle.std.proofs.Common.{◌≡◌, ◌≢◌, ℕ, zero, suc, Bool, true, false, List, [], ◌∷◌, ◌++◌, Option, Some, None, Result, Ok, Err, String, string_bytes, Global, map, refl, inl, inr, ap, arith, subst, sym, ◌∙◌}
use Rattle.std.specs.Prelude.{◌⊎◌, IsOkAnd}
use Rattle.std.specs.Io.KnownBytes.{Appends}
use Rattle.std.specs.List.{All}
use Rattle.std.specs.Str.{IsUtf8, is_utf8}
use Rattle.std.proofs.lemmas.Str.{IsUtf8-from_is_utf8, is_utf8-from_IsUtf8}
use Rattle.std.proofs.lemmas.List.Elements.{All-cons}
use Rattle.std.proofs.lemmas.Bool.{and_parts}
use Rattle.bm_io.specs.Counts.{Rose}
use Rattle.bm_io.specs.MemFiles.{file_bytes}
use Rattle.boot_inputs.specs.Inputs.{FileNames}
use Rattle.boot_inputs.specs.Reason.{InputsReason}
use Rattle.program_end.specs.Program.{FileContents}
use Rattle.bm_io.specs.declared.writing.Put.TheVariants as put
use Rattle.program_end.specs.declared.failure.Failure.{Failure}
use Rattle.program_end.specs.declared.failure.Failure.TheVariants as failures
use Rattle.program_end.specs.declared.failure.NoResult.TheVariants as errors
use Rattle.program_end.specs.declared.failure.Reason.TheVariants as reasons
use Rattle.program_end.specs.Causes.{FailureHasCause}
use Rattle.program_end.specs.Ends.{FitsFailure}
use Rattle.program_end.specs.Line.{PutsLine}
use Rattle.program_end.specs.Status.{failure_status}
use Rattle.program_run.specs.Bootmem.{reports_program}
use Rattle.program_run.specs.Line.{program_failure_line}
use Rattle.program_args.specs.Args.{bytes_of_words}
use Rattle.bootmem_c.specs.Call.{are_utf8, call_line_by, outcome_by, outcome_status, program_outcome_line}
use Rattle.bootmem_c.specs.Fetches.{LentFilesView, faults_at}
use Rattle.bootmem_c.specs.Copies.{CopiesText, TextSinkView, failed_writes_of}
use Rattle.bootmem_c.specs.declared.crossing.Text.{Text}
use Rattle.bootmem_c.specs.declared.profile.BootProfile.{BootProfile}
use Rattle.bootmem_c.specs.declared.profile.BootProfile.TheVariants as profiles
use Rattle.bootmem_c.specs.contracts.text_sink.TextSinkSink.TheImpl.{ghosts}
use Rattle.bootmem_c.proofs.ExactLaws.{NamesUnread, fails_as}

-- if all words are UTF-8, `are_utf8` is true
pub are-utf8 : (words : List (List ℕ)) → All IsUtf8 words → are_utf8 words ≡ true
are-utf8 [] all = refl
are-utf8 (word ∷ words) all =
    rw (is_utf8-from_IsUtf8 word (all 0 word (omega arith)), are-utf8 words (λ k d below. all (suc k) d (omega (arith, below)))) refl

pub all-utf8 : (words : List (List ℕ)) → are_utf8 words ≡ true → All IsUtf8 words
all-utf8 [] is = λ k d below. absurd (omega (arith, below))
all-utf8 (word ∷ words) is =
    let parts = and_parts (is_utf8 word) (are_utf8 words) is in
    All-cons IsUtf8 word words (IsUtf8-from_is_utf8 word parts.0) (all-utf8 words parts.1)

-- the exit status of a run
no_rise : Rose 0 0 → ⊥
no_rise rose = omega (arith, rose)

text_is_zero : (said : Result (List ℕ) InputsReason) (P : List ℕ → Type 0) → IsOkAnd said P → outcome_status said ≡ 0
text_is_zero (Ok text) P is = refl
text_is_zero (Err reason) P is = absurd is

appended_text_is_line : (l0 l1 : TextSinkView) (line : List ℕ) → l1.is_short ≡ false → l0.text ≡ [] → l0.is_short ≡ false
    → (l1.text ≡ l0.text ++ line) ⊎ Rose 0 0 ⊎ Rose (failed_writes_of l0) (failed_writes_of l1) → l1.text ≡ line
appended_text_is_line l0 l1 line short empty not_short (inl is) = rw empty at is
appended_text_is_line l0 l1 line short empty not_short (inr (inl rose)) = absurd (no_rise rose)
appended_text_is_line l0 l1 line short empty not_short (inr (inr rose)) = absurd (no_rise (rw (not_short, short) at rose))

-- The laws hold for each of the two programs: `name` is its name, `named` gives the names of its
-- files, `accepted` is its accepted command line, and `said` its outcome.
module _ {W : Type 0} (name : List ℕ) (named : W → FileNames) (old new : LentFilesView) (accepted : Option W)
    (said : Result (List ℕ) InputsReason) (names : NamesUnread named (file_bytes old.files) accepted said) where
  -- what the run's contract says of its failure
  abbrev IsFailure : ℕ → (Failure InputsReason → Type 0) → Type 0
  IsFailure status P =
      (failure : Failure InputsReason) × (status ≡ failure_status failure) × P failure
      × FailureHasCause (reports_program named) (faults_at old) (faults_at new) accepted failure
      × FitsFailure (reports_program named) failure said

  status_by : (failure : Failure InputsReason) → failure_status failure ≢ 4
      → FailureHasCause (reports_program named) (faults_at old) (faults_at new) accepted failure
      → FitsFailure (reports_program named) failure said → (failure_status failure ≡ outcome_status said) ⊎ (failure_status failure ≡ 7)
  status_by (failures.NoResult (errors.Reason reason)) other cause fits =
      inl (sym (ap outcome_status (fails_as named old new said accepted (errors.Reason reason) names cause fits)))
  status_by (failures.NoResult errors.Memory) other cause fits = inr refl
  status_by (failures.Output put.Failed) other cause fits = absurd (other refl)
  status_by (failures.Output put.Memory) other cause fits = inr refl

  pub ran_status : (P : List ℕ → Type 0) (Q : Failure InputsReason → Type 0) (status : ℕ) → (status ≡ 4 → Rose 0 0)
      → (status ≡ 0 → IsOkAnd said P) → (status ≢ 0 → IsFailure status Q) → (status ≡ outcome_status said) ⊎ (status ≡ 7)
  ran_status P Q zero unwritten written line = inl (sym (text_is_zero said P (written refl)))
  ran_status P Q (suc n) unwritten written line =
      let booted = line (λ is. omega (arith, is)) in
      rw booted.1 (status_by booted.0 (λ four. no_rise (unwritten (booted.1 ∙ four))) booted.3 booted.4)

  line_of : (reason : InputsReason) → said ≡ Err reason
      → program_failure_line name named accepted (failures.NoResult (errors.Reason reason)) ≡ program_outcome_line name named accepted said
  line_of reason are = sym (ap (program_outcome_line name named accepted) are)

  line_ends : (failure : Failure InputsReason) (l0 l1 : TextSinkView) → failure_status failure ≢ 4 → failure_status failure ≢ 7
      → l0.text ≡ [] → l0.is_short ≡ false → l1.is_short ≡ false
      → PutsLine ghosts l0 l1 (program_failure_line name named accepted failure)
      → FailureHasCause (reports_program named) (faults_at old) (faults_at new) accepted failure
      → FitsFailure (reports_program named) failure said → l1.text ≡ program_outcome_line name named accepted said
  line_ends (failures.NoResult (errors.Reason reason)) l0 l1 written other empty not_short short booted cause fits =
      appended_text_is_line l0 l1 (program_failure_line name named accepted (failures.NoResult (errors.Reason reason))) short empty
      not_short booted.whole
      ∙ line_of reason (fails_as named old new said accepted (errors.Reason reason) names cause fits)
  line_ends (failures.NoResult errors.Memory) l0 l1 written other empty not_short short booted cause fits = absurd (other refl)
  line_ends (failures.Output put.Failed) l0 l1 written other empty not_short short booted cause fits = absurd (written refl)
  line_ends (failures.Output put.Memory) l0 l1 written other empty not_short short booted cause fits = absurd (other refl)

  pub ran_line : (l0 l1 : TextSinkView) (status : ℕ) → (status ≡ 4 → Rose 0 0) → l0.text ≡ [] → l0.is_short ≡ false
      → (status ≢ 0 → IsFailure status (λ failure. PutsLine ghosts l0 l1 (program_failure_line name named accepted failure)))
      → status ≢ 0 → status ≢ 7 → l1.is_short ≡ false → l1.text ≡ program_outcome_line name named accepted said
  ran_line l0 l1 status unwritten empty not_short line some other short =
      let booted = line some in
      line_ends booted.0 l0 l1 (λ four. no_rise (unwritten (booted.1 ∙ four))) (λ seven. other (booted.1 ∙ seven)) empty not_short short
      booted.2 booted.3 booted.4

-- a text that was appended to the empty text is the whole text
pub appended_to_nothing : (said : Result (List ℕ) InputsReason) (old new : List ℕ) → old ≡ []
    → IsOkAnd said (λ text. Appends (Some old) (Some new) text) → IsOkAnd said (λ text. new ≡ text)
appended_to_nothing (Ok text) old new empty is = rw empty at is
appended_to_nothing (Err reason) old new empty is = is

-- what holds of the words that were read and their profile holds of the call's words and number
pub of_call : (P : Option BootProfile → Bool → List (List ℕ) → Type 0) (chosen : Option BootProfile) (profile : BootProfile)
    (taken : List (String Global)) (words : List (List ℕ)) → Some profile ≡ chosen → map string_bytes taken ≡ words → All IsUtf8 words
    → P (Some profile) true (bytes_of_words taken) → P chosen (are_utf8 words) words
of_call P chosen profile taken words is are all holds = rw (← is, are-utf8 words all, ← are) holds

-- if a word isn't UTF-8, `are_utf8` is false
not_utf8 : (words : List (List ℕ)) (b : Bool) → are_utf8 words ≡ b → ¬ All IsUtf8 words → are_utf8 words ≡ false
not_utf8 words true is other = absurd (other (all-utf8 words is))
not_utf8 words false is other = is

refused : (chosen : Option BootProfile) (words : List (List ℕ)) (held : FileContents)
    → outcome_by chosen false words held ≡ Err reasons.Usage
refused None words held = refl
refused (Some profiles.Own) words held = refl
refused (Some profiles.Linux61) words held = refl

silent : (chosen : Option BootProfile) (words : List (List ℕ)) (held : FileContents) → [] ≡ call_line_by chosen false words held
silent None words held = refl
silent (Some profiles.Own) words held = refl
silent (Some profiles.Linux61) words held = refl

-- if a word isn't UTF-8, the outcome is that the words aren't accepted
pub nothing_said : (chosen : Option BootProfile) (words : List (List ℕ)) (held : FileContents) → ¬ All IsUtf8 words
    → outcome_by chosen (are_utf8 words) words held ≡ Err reasons.Usage
nothing_said chosen words held other = rw (not_utf8 words (are_utf8 words) refl other) (refused chosen words held)

pub nothing_asked : (chosen : Option BootProfile) (words : List (List ℕ)) (held : FileContents) → ¬ All IsUtf8 words
    → outcome_status (outcome_by chosen (are_utf8 words) words held) ≡ 2
nothing_asked chosen words held other = ap outcome_status (nothing_said chosen words held other)

-- if a word isn't UTF-8, the call has no error line
pub none_asked : (chosen : Option BootProfile) (words : List (List ℕ)) (held : FileContents) → ¬ All IsUtf8 words
    → [] ≡ call_line_by chosen (are_utf8 words) words held
none_asked chosen words held other = rw (not_utf8 words (are_utf8 words) refl other) (silent chosen words held)

-- with a status other than 7 the status is that of the run, and memory didn't run out for the line
pub whole_run : (short : Bool) (ran status : ℕ) → (short ≡ false → status ≡ ran) → (short ≡ true → status ≡ 7) → status ≢ 7
    → (short ≡ false) × (status ≡ ran)
whole_run true ran status whole is_short other = absurd (other (is_short refl))
whole_run false ran status whole is_short other = (refl, whole refl)

-- a text that the call copied is the text of the outcome
pub taken_by : (said : Result (List ℕ) InputsReason) (text : List ℕ) (old new : Text) → IsOkAnd said (λ s. text ≡ s)
    → CopiesText text old new
    → IsOkAnd said (λ s. CopiesText s old new)
taken_by (Ok s) text old new same taken = subst (λ (t : List ℕ). CopiesText t old new) same taken
taken_by (Err reason) text old new same taken = same
