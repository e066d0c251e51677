-- The state after reading word by word is the result of the definitions over the list of all
-- words.
use Rattle.std.proofs.Common.{◌≡◌, ℕ, ◌+◌, ◌-◌, ◌==◌, nat_lt, if◌then◌else◌, Bool, ◌||◌, Option, Some, None, List, [], ◌∷◌, ◌++◌, refl, ap, sym, ◌∙◌, append_assoc, Result, Ok, Err, arith}
use Rattle.std.proofs.Math.Bool.{or-false, or-true}
use Rattle.std.proofs.lemmas.List.{append-nil}
use Rattle.std.proofs.lemmas.Bool.Decides.{nat_tests}
use Rattle.std.specs.List.{cons_option}
use Rattle.std.specs.Option.{option_map, option_or}
use Rattle.e820_model.specs.declared.entry.Edit.{Edit}
use Rattle.bm_base.specs.ResultSteps.{◌>>=◌}
use Rattle.boot_options.specs.declared.fault.OptionFault.{OptionFault}
use Rattle.boot_options.specs.declared.map_option.MapOption.{MapOption}
use Rattle.boot_options.specs.declared.map_option.MapOption.TheVariants.{ExactMap, Adding, Other}
use Rattle.boot_options.specs.declared.reading.UserMap.{UserMap}
use Rattle.boot_options.specs.Crash.{CrashOptionView, Plain, High, Low, no_crash}
use Rattle.boot_options.specs.Options.{WordMeaning, OfMap, OfCrash, NumaOff, AddEfi, OptionsView, options_of_words, last_crash_values, command_line_of, word_meanings_from, option_words, numbered_map_options, all_map_options, edit_of, edits_of, is_efi_added, is_numa_off, count_adding, last_exact_map, last_exact, check_user_map, options_with_user_map, options_of}
use Rattle.boot_options.specs.Reading.{ReadingState, start_state, reading_after_word, crash_option_after_form, user_map_less_one, user_map_after_option, after_map_option, after_map_options, after_words, after_meanings, options_of_end_state, at_line_end}

-- an edit appended to others, followed by the edits after it
pub edits-step : (front : List Edit) (e : Option Edit) (after : List Edit)
    → (front ++ cons_option e []) ++ after ≡ front ++ cons_option e after
edits-step front None after = rw append-nil refl
edits-step front (Some e) after = append_assoc front (e ∷ []) after

-- the edits of a word's map options
pub edits-map_options : (number : ℕ) (st : ReadingState) (ps : List MapOption) (after : List (ℕ × MapOption))
    → (after_map_options number st ps).edits ++ edits_of after ≡ st.edits ++ edits_of (numbered_map_options number ps after)
edits-map_options number st [] after = refl
edits-map_options number st (p ∷ ps) after =
    edits-map_options number (after_map_option number st p) ps after
    ∙ edits-step st.edits (edit_of p) (edits_of (numbered_map_options number ps after))

-- the edits of all words
pub edits-all : (st : ReadingState) (said : List (ℕ × WordMeaning))
    → (after_words st said).edits ≡ st.edits ++ edits_of (all_map_options said)
edits-all st [] = sym (append-nil st.edits)
edits-all st ((number, OfMap ps) ∷ said) =
    edits-all (after_map_options number st ps) said ∙ edits-map_options number st ps (all_map_options said)
edits-all st ((number, OfCrash form) ∷ said) = edits-all (reading_after_word number st (OfCrash form)) said
edits-all st ((number, NumaOff) ∷ said) = edits-all (reading_after_word number st NumaOff) said
edits-all st ((number, AddEfi) ∷ said) = edits-all (reading_after_word number st AddEfi) said

-- a part of the state that no map option changes isn't changed by the map options of a word
pub same-map_options : {X : Type 0} (part : ReadingState → X)
    → ((number : ℕ) (st : ReadingState) (p : MapOption) → part (after_map_option number st p) ≡ part st)
    → (number : ℕ) (st : ReadingState) (ps : List MapOption) → part (after_map_options number st ps) ≡ part st
same-map_options part same number st [] = refl
same-map_options part same number st (p ∷ ps) =
    same-map_options part same number (after_map_option number st p) ps ∙ same number st p

-- `numa_off` is set if a word is `numa=off`
pub numa_off-all : (st : ReadingState) (said : List (ℕ × WordMeaning)) → (after_words st said).numa_off ≡ (st.numa_off || is_numa_off said)
numa_off-all st [] = sym (or-false st.numa_off)
numa_off-all st ((number, OfMap ps) ∷ said) =
    numa_off-all (after_map_options number st ps) said
    ∙ ap (λ (b : Bool). b || is_numa_off said) (same-map_options (λ (s : ReadingState). s.numa_off) (λ n s p. refl) number st ps)
numa_off-all st ((number, OfCrash form) ∷ said) = numa_off-all (reading_after_word number st (OfCrash form)) said
numa_off-all st ((number, NumaOff) ∷ said) = numa_off-all (reading_after_word number st NumaOff) said ∙ sym (or-true st.numa_off)
numa_off-all st ((number, AddEfi) ∷ said) = numa_off-all (reading_after_word number st AddEfi) said

-- `add_efi` is set if a word is `add_efi_memmap`
pub add_efi-all : (st : ReadingState) (said : List (ℕ × WordMeaning)) → (after_words st said).add_efi ≡ (st.add_efi || is_efi_added said)
add_efi-all st [] = sym (or-false st.add_efi)
add_efi-all st ((number, OfMap ps) ∷ said) =
    add_efi-all (after_map_options number st ps) said
    ∙ ap (λ (b : Bool). b || is_efi_added said) (same-map_options (λ (s : ReadingState). s.add_efi) (λ n s p. refl) number st ps)
add_efi-all st ((number, OfCrash form) ∷ said) = add_efi-all (reading_after_word number st (OfCrash form)) said
add_efi-all st ((number, NumaOff) ∷ said) = add_efi-all (reading_after_word number st NumaOff) said
add_efi-all st ((number, AddEfi) ∷ said) = add_efi-all (reading_after_word number st AddEfi) said ∙ sym (or-true st.add_efi)

-- for each form, the later of two values
abbrev pub later : CrashOptionView → CrashOptionView → CrashOptionView
later c before = record {
  plain = option_or c.plain before.plain;
  high = option_or c.high before.high;
  low = option_or c.low before.low;
}

or_twice : {A : Type 0} (a b c : Option A) → option_or a (option_or b c) ≡ option_or (option_or a b) c
or_twice None b c = refl
or_twice (Some x) b c = refl

or_nothing : {A : Type 0} (a : Option A) → option_or a None ≡ a
or_nothing None = refl
or_nothing (Some x) = refl

pub later-twice : (a b c : CrashOptionView) → later a (later b c) ≡ later (later a b) c
later-twice a b c = rw (or_twice a.plain b.plain c.plain, or_twice a.high b.high c.high, or_twice a.low b.low c.low) refl

pub later-nothing : (a : CrashOptionView) → later a no_crash ≡ a
later-nothing a = rw (or_nothing a.plain, or_nothing a.high, or_nothing a.low) refl

-- the state has the last value of each form
pub crash-all : (st : ReadingState) (said : List (ℕ × WordMeaning)) → (after_words st said).crash ≡ later (last_crash_values said) st.crash
crash-all st [] = refl
crash-all st ((number, OfMap ps) ∷ said) =
    crash-all (after_map_options number st ps) said
    ∙ ap (later (last_crash_values said)) (same-map_options (λ (s : ReadingState). s.crash) (λ n s p. refl) number st ps)
    ∙ later-twice (last_crash_values said) no_crash st.crash
crash-all st ((number, OfCrash (Plain form)) ∷ said) =
    crash-all (reading_after_word number st (OfCrash (Plain form))) said
    ∙ later-twice (last_crash_values said) (crash_option_after_form no_crash (Plain form)) st.crash
crash-all st ((number, OfCrash (High size)) ∷ said) =
    crash-all (reading_after_word number st (OfCrash (High size))) said
    ∙ later-twice (last_crash_values said) (crash_option_after_form no_crash (High size)) st.crash
crash-all st ((number, OfCrash (Low size)) ∷ said) =
    crash-all (reading_after_word number st (OfCrash (Low size))) said
    ∙ later-twice (last_crash_values said) (crash_option_after_form no_crash (Low size)) st.crash
crash-all st ((number, NumaOff) ∷ said) =
    crash-all (reading_after_word number st NumaOff) said ∙ later-twice (last_crash_values said) no_crash st.crash
crash-all st ((number, AddEfi) ∷ said) =
    crash-all (reading_after_word number st AddEfi) said ∙ later-twice (last_crash_values said) no_crash st.crash

pub crash-start : (said : List (ℕ × WordMeaning)) → (after_words start_state said).crash ≡ last_crash_values said
crash-start said = crash-all start_state said ∙ later-nothing (last_crash_values said)

-- the user map after all these map options
abbrev pub user_map_after_options : List (ℕ × MapOption) → Option UserMap → Option UserMap
user_map_after_options [] m = m
user_map_after_options (p ∷ ps) m = user_map_after_options ps (user_map_after_option p.0 p.1 m)

pub user_map-map_options : (number : ℕ) (st : ReadingState) (ps : List MapOption) (after : List (ℕ × MapOption))
    → user_map_after_options after (after_map_options number st ps).user_map
    ≡ user_map_after_options (numbered_map_options number ps after) st.user_map
user_map-map_options number st [] after = refl
user_map-map_options number st (p ∷ ps) after = user_map-map_options number (after_map_option number st p) ps after

pub user_map-all : (st : ReadingState) (said : List (ℕ × WordMeaning))
    → (after_words st said).user_map ≡ user_map_after_options (all_map_options said) st.user_map
user_map-all st [] = refl
user_map-all st ((number, OfMap ps) ∷ said) =
    user_map-all (after_map_options number st ps) said ∙ user_map-map_options number st ps (all_map_options said)
user_map-all st ((number, OfCrash form) ∷ said) = user_map-all (reading_after_word number st (OfCrash form)) said
user_map-all st ((number, NumaOff) ∷ said) = user_map-all (reading_after_word number st NumaOff) said
user_map-all st ((number, AddEfi) ∷ said) = user_map-all (reading_after_word number st AddEfi) said

-- the user map after n more map options that add a range
abbrev pub fewer : ℕ → UserMap → UserMap
fewer n m = record { word = m.word; wanting = m.wanting - n }

-- the user map after the last `exactmap`: two missing map options, less those after it that add a
-- range
abbrev pub wanted : Option (ℕ × ℕ) → ℕ → Option UserMap → Option UserMap
wanted None n m = option_map (fewer n) m
wanted (Some exact) n m = Some (record { word = exact.0; wanting = 2 - exact.1 })

-- counting the missing map options from the start of the line gives the same user map as counting
-- them from the last `exactmap`
pub user_map_after_options-wanted : (ps : List (ℕ × MapOption)) (m : Option UserMap)
    → user_map_after_options ps m ≡ wanted (last_exact ps) (count_adding ps) m
user_map_after_options-wanted [] None = refl
user_map_after_options-wanted [] (Some m) =
    let same : m.wanting ≡ m.wanting - 0 = omega arith in
    ap (λ (w : ℕ). let map : UserMap = record { word = m.word; wanting = w } in Some map) same
user_map_after_options-wanted ((number, p) ∷ ps) m =
    user_map_after_options-wanted ps (user_map_after_option number p m) ∙ step (last_exact ps) p m
  where
    fewer_still : (m : UserMap) (n : ℕ) → fewer n (user_map_less_one m) ≡ fewer (n + 1) m
    fewer_still m n =
        let same : m.wanting - 1 - n ≡ m.wanting - (n + 1) = omega arith in
        ap (λ (w : ℕ). let map : UserMap = record { word = m.word; wanting = w } in map) same

    step : (found : Option (ℕ × ℕ)) (p : MapOption) (m : Option UserMap)
        → wanted found (count_adding ps) (user_map_after_option number p m)
        ≡ wanted (last_exact_map found number p (count_adding ps)) (count_adding ((number, p) ∷ ps)) m
    step (Some exact) p m = refl
    step None ExactMap m = refl
    step None (Adding e) None = refl
    step None (Adding e) (Some m) = ap (λ (map : UserMap). Some map) (fewer_still m (count_adding ps))
    step None (Other e) m = refl

-- the check at the end of the line gives what the definition gives for the last `exactmap`
pub at_line_end-with_user_map : (said : List (ℕ × WordMeaning)) → at_line_end (after_words start_state said) ≡ options_with_user_map said
at_line_end-with_user_map said =
    rw (
      edits-all start_state said,
      crash-start said,
      numa_off-all start_state said,
      add_efi-all start_state said,
      user_map-all start_state said,
      user_map_after_options-wanted (all_map_options said) None,
    )
    (by_exact (options_of_words said) (last_exact (all_map_options said)))
  where
    by_count : (chosen : OptionsView) (fault : OptionFault) (n : ℕ)
        → (if 2 - n == 0 then Ok chosen else Err fault) ≡ (if nat_lt n 2 then Err fault else Ok chosen)
    by_count chosen fault n = grind (arith, nat_tests)

    by_exact : (chosen : OptionsView) (found : Option (ℕ × ℕ))
        → options_of_end_state chosen (wanted found (count_adding (all_map_options said)) None) ≡ check_user_map chosen found
    by_exact chosen None = refl
    by_exact chosen (Some exact) = by_count chosen _ exact.1

-- the options of the bytes are those of the state after all words
pub options-read : (bytes line : List ℕ) (st : ReadingState) → command_line_of bytes ≡ Ok line
    → after_meanings start_state (word_meanings_from 1 (option_words line)) ≡ Ok st → options_of bytes ≡ at_line_end st
options-read bytes line st is read = rw is (by_said (word_meanings_from 1 (option_words line)) read)
  where
    by_said : (r : Result (List (ℕ × WordMeaning)) OptionFault) → after_meanings start_state r ≡ Ok st
        → (r >>= options_with_user_map) ≡ at_line_end st
    by_said (Ok said) read =
        let same : after_words start_state said ≡ st = cc in
        sym (at_line_end-with_user_map said) ∙ ap at_line_end same
    by_said (Err fault) read = cc

-- a fault of a word is the fault of the bytes
pub options-fault : (bytes line : List ℕ) (fault : OptionFault) → command_line_of bytes ≡ Ok line
    → after_meanings start_state (word_meanings_from 1 (option_words line)) ≡ Err fault → options_of bytes ≡ Err fault
options-fault bytes line fault is read = rw is (by_said (word_meanings_from 1 (option_words line)) read)
  where
    by_said : (r : Result (List (ℕ × WordMeaning)) OptionFault) → after_meanings start_state r ≡ Err fault
        → (r >>= options_with_user_map) ≡ Err fault
    by_said (Ok said) read = cc
    by_said (Err f) read = cc
