-- The state of the reader in the middle of a command line: the result of the words that it has
-- read. Of the user map, the state has only the last `exactmap` and how many map options that add
-- a range must still follow it.
use Rattle.std.specs.Prelude.{◌≡◌, ℕ, ◌-◌, ◌==◌, if◌then◌else◌, Bool, true, false, Option, Some, None, List, [], ◌∷◌, ◌++◌, Result, Ok, Err, IsErr}
use Rattle.std.specs.List.{cons_option}
use Rattle.std.specs.Option.{option_map}
use Rattle.e820_model.specs.declared.entry.Edit.{Edit}
use Rattle.boot_options.specs.declared.fault.OptionFault.{OptionFault}
use Rattle.boot_options.specs.declared.fault.OptionFault.TheVariants.{UserMapInvalid}
use Rattle.boot_options.specs.declared.map_option.MapOption.{MapOption}
use Rattle.boot_options.specs.declared.map_option.MapOption.TheVariants.{ExactMap, Adding, Other}
use Rattle.boot_options.specs.declared.crash.PlainRead.{PlainRead}
use Rattle.boot_options.specs.declared.reading.CrashRead.{CrashRead}
use Rattle.boot_options.specs.declared.reading.Reading.{Reading}
use Rattle.boot_options.specs.declared.reading.UserMap.{UserMap}
use Rattle.boot_options.specs.Crash.{CrashOptionView, CrashFormView, Plain, High, Low, no_crash}
use Rattle.boot_options.specs.Kept.{KeepsItems, KeepsLast}
use Rattle.boot_options.specs.Options.{WordMeaning, OfMap, OfCrash, NumaOff, AddEfi, OptionsView, edit_of}

-- the state of the reader after some words; `user_map` is the last `exactmap`, and how many map
-- options that add a range must still follow it
pub record ReadingState : Type 0 where
  pub edits : List Edit
  pub crash : CrashOptionView
  pub numa_off : Bool
  pub add_efi : Bool
  pub user_map : Option UserMap

-- the state before the first word
abbrev pub start_state : ReadingState
start_state = record { edits = []; crash = no_crash; numa_off = false; add_efi = false; user_map = None }

-- the last `exactmap` after one more map option that adds a range: the number of missing ones is
-- one less, but never below 0
abbrev pub user_map_less_one : UserMap → UserMap
user_map_less_one m = record { word = m.word; wanting = m.wanting - 1 }

-- the last `exactmap` after another map option, in the word `number`. After `exactmap` two options
-- that add a range are missing.
abbrev pub user_map_after_option : ℕ → MapOption → Option UserMap → Option UserMap
user_map_after_option number ExactMap m = Some (record { word = number; wanting = 2 })
user_map_after_option number (Adding edit) m = option_map user_map_less_one m
user_map_after_option number (Other edit) m = m

-- the state after another map option, which is in the word `number`
abbrev pub after_map_option : ℕ → ReadingState → MapOption → ReadingState
after_map_option number st p = record {
  edits = st.edits ++ cons_option (edit_of p) [];
  crash = st.crash;
  numa_off = st.numa_off;
  add_efi = st.add_efi;
  user_map = user_map_after_option number p st.user_map;
}

-- the state after all map options of the word `number`
abbrev pub after_map_options : ℕ → ReadingState → List MapOption → ReadingState
after_map_options number st [] = st
after_map_options number st (p ∷ ps) = after_map_options number (after_map_option number st p) ps

-- the last values of `crashkernel=` after another value: it replaces an earlier value of its form
abbrev pub crash_option_after_form : CrashOptionView → CrashFormView → CrashOptionView
crash_option_after_form c (Plain form) = record { plain = Some form; high = c.high; low = c.low }
crash_option_after_form c (High size) = record { plain = c.plain; high = Some size; low = c.low }
crash_option_after_form c (Low size) = record { plain = c.plain; high = c.high; low = Some size }

-- the state after another word, by the word's meaning; its number is `number`
abbrev pub reading_after_word : ℕ → ReadingState → WordMeaning → ReadingState
reading_after_word number st (OfMap ps) = after_map_options number st ps
reading_after_word number st (OfCrash form) =
    record {
      edits = st.edits;
      crash = crash_option_after_form st.crash form;
      numa_off = st.numa_off;
      add_efi = st.add_efi;
      user_map = st.user_map;
    }
reading_after_word number st NumaOff =
    record { edits = st.edits; crash = st.crash; numa_off = true; add_efi = st.add_efi; user_map = st.user_map }
reading_after_word number st AddEfi =
    record { edits = st.edits; crash = st.crash; numa_off = st.numa_off; add_efi = true; user_map = st.user_map }

-- the state after all these words, each with its number and its meaning
abbrev pub after_words : ReadingState → List (ℕ × WordMeaning) → ReadingState
after_words st [] = st
after_words st (s ∷ said) = after_words (reading_after_word s.0 st s.1) said

-- the state after a word that may be malformed, or its fault
abbrev pub after_meaning : ℕ → ReadingState → Result WordMeaning OptionFault → Result ReadingState OptionFault
after_meaning number st (Ok said) = Ok (reading_after_word number st said)
after_meaning number st (Err fault) = Err fault

-- the state after all words, or the fault of the first malformed one
abbrev pub after_meanings : ReadingState → Result (List (ℕ × WordMeaning)) OptionFault → Result ReadingState OptionFault
after_meanings st (Ok said) = Ok (after_words st said)
after_meanings st (Err fault) = Err fault

-- the state after the map options of a word, or None if one is malformed
abbrev pub read_map_options : ℕ → ReadingState → Option (List MapOption) → Option ReadingState
read_map_options number st ps = option_map (after_map_options number st) ps

-- the options at the end of the line, or the fault UserMapInvalid. After the last `memmap=exactmap`
-- at least two map options must add a range. `wanting` is how many of these are missing, and `word`
-- the number of the word of that `exactmap`.
abbrev pub options_of_end_state : OptionsView → Option UserMap → Result OptionsView OptionFault
options_of_end_state chosen None = Ok chosen
options_of_end_state chosen (Some m) = if m.wanting == 0 then Ok chosen else Err (UserMapInvalid m.word)

-- the options that the state gives at the end of the line, or the fault UserMapInvalid
abbrev pub at_line_end : ReadingState → Result OptionsView OptionFault
at_line_end st =
    options_of_end_state (record { edits = st.edits; crash = st.crash; numa_off = st.numa_off; add_efi = st.add_efi }) st.user_map

-- the reader has these `crashkernel=` options, but may have run out of memory for the ranges
pub record KeepsCrash (r : CrashRead) (c : CrashOptionView) : Type 0 where
  pub plain : KeepsLast r.plain c.plain
  pub high : r.high ≡ c.high
  pub low : r.low ≡ c.low

-- the reader is in this state, but may have run out of memory for its edits or ranges
pub record IsReadTo (r : Reading) (st : ReadingState) : Type 0 where
  pub edits : KeepsItems r.edits st.edits
  pub crash : KeepsCrash r.crash st.crash
  pub numa_off : r.numa_off ≡ st.numa_off
  pub add_efi : r.add_efi ≡ st.add_efi
  pub user_map : r.user_map ≡ st.user_map

-- the definition gives a state and no fault, and the reader is in that state
abbrev pub IsInState : Reading → Result ReadingState OptionFault → Type 0
IsInState r (Ok st) = IsReadTo r st
IsInState r (Err fault) = ⊥

-- the result matches the definition: the reader is in the state that the definition gives, or
-- returns the fault that it gives
abbrev pub ReadsAs : {X : Type 0} → (X → Reading) → Result X OptionFault → Result ReadingState OptionFault → Type 0
ReadsAs view (Ok x) definition = IsInState (view x) definition
ReadsAs view (Err fault) definition = definition ≡ Err fault

-- there is a plain form of `crashkernel=`, and the program ran out of memory for its ranges
abbrev pub LacksRanges : Option PlainRead → Type 0
LacksRanges None = ⊥
LacksRanges (Some kept) = IsErr kept.ranges
