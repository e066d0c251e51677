-- Worked examples of map options and command lines.
use Rattle.std.proofs.Common.{◌≡◌, ℕ, ◌-◌, ◌^◌, true, false, Some, None, List, [], ◌∷◌, codes, replicate, Ok, Err, refl, arith, Vec}
use Rattle.std.specs.declared.alloc.Global.{Global}
use Rattle.bm_base.specs.declared.memory.Memory.{Memory}
use Rattle.e820_model.specs.declared.entry.Edit.{Edit}
use Rattle.bm_base.specs.Range.{RangeView}
use Rattle.e820_model.specs.declared.entry.Edit.TheVariants.{Add, Remove, RemoveAll, Change, Clear}
use Rattle.boot_options.specs.declared.fault.OptionFault.TheVariants as faults
use Rattle.boot_options.specs.declared.options.Options.{Options}
use Rattle.boot_options.specs.declared.map_option.MapOption.{MapOption}
use Rattle.boot_options.specs.declared.map_option.MapOption.TheVariants.{ExactMap, Adding, Other}
use Rattle.boot_options.specs.declared.reading.Reading.{Reading}
use Rattle.boot_options.specs.declared.reading.UserMap.{UserMap}
use Rattle.boot_options.specs.MapOptions.{whole_size, range_if_addressable, range_above, ram_above, map_option_of, mem_of}
use Rattle.boot_options.specs.Crash.{crash_option_view, no_crash}
use Rattle.boot_options.specs.Kept.{KeepsItems}
use Rattle.boot_options.specs.Options.{raw_line, checked_line, command_line_of, WordMeaning, OfMap, NumaOff, AddEfi, memmap_of, meaning_of_map_option, word_meaning, name_value_of, option_words, word_meanings_from, all_map_options, edit_of, edits_of, count_adding, last_exact, OptionsView, options_view, check_user_map, options_with_user_map, options_of, HaveRanges, IsNumbered}
use Rattle.boot_options.specs.Reading.{start_state, user_map_after_option, after_map_option, reading_after_word, after_words, after_meaning, at_line_end, IsReadTo, IsInState, ReadsAs}

abbrev range : ℕ → ℕ → RangeView
range base size = record { base = base; size = size }

whole_sizes : (whole_size (codes "640K") ≡ Some 655360) × (whole_size (codes "0x1E") ≡ Some 30)
    × (whole_size (codes "1E") ≡ Some (2 ^ 60)) × (whole_size (codes "08") ≡ None) × (whole_size (codes "16E") ≡ None)
    × (whole_size (codes "K") ≡ None)
whole_sizes = (refl, refl, refl, refl, refl, refl)

-- base and size together are at most 2^64 - 1
ranges : (range_if_addressable (2 ^ 64 - 2) 1 ≡ Some (range (2 ^ 64 - 2) 1)) × (range_if_addressable (2 ^ 64 - 1) 1 ≡ None)
ranges = (refl, refl)

-- the range from an address up to 2^64 - 2, and the edit that removes RAM there; there is none if
-- no address is left
above : (range_above (2 ^ 64 - 2) ≡ range (2 ^ 64 - 2) 1) × (range_above 0 ≡ range 0 (2 ^ 64 - 1))
    × (ram_above (2 ^ 64 - 2) ≡ Some (Remove (range (2 ^ 64 - 2) 1) 1)) × (ram_above (2 ^ 64 - 1) ≡ None)
above = (refl, refl, refl, refl)

-- a map option of each form: RAM, ACPI data, reserved and persistent memory; RAM that ends at an
-- address; `exactmap`; and in a range one type changed, added or removed, or all types removed
map_option_forms : (map_option_of (codes "1M@2M") ≡ Some (Adding (Some (Add (range 0x200000 0x100000) 1))))
    × (map_option_of (codes "0x1000#0X2fff") ≡ Some (Adding (Some (Add (range 0x2fff 0x1000) 3))))
    × (map_option_of (codes "010$020") ≡ Some (Adding (Some (Add (range 16 8) 2))))
    × (map_option_of (codes "1g!4G") ≡ Some (Adding (Some (Add (range 0x100000000 0x40000000) 12))))
    × (map_option_of (codes "4G") ≡ Some (Other (Some (Remove (range 0x100000000 (2 ^ 64 - 1 - 0x100000000)) 1))))
    × (map_option_of (codes "exactmap") ≡ Some ExactMap) × (map_option_of (codes "exactmap ") ≡ None)
    × (map_option_of (codes "1M%2M-2+1") ≡ Some (Other (Some (Change (range 0x200000 0x100000) 2 1))))
    × (map_option_of (codes "1M%2M+5") ≡ Some (Adding (Some (Add (range 0x200000 0x100000) 5))))
    × (map_option_of (codes "1M%2M-5") ≡ Some (Other (Some (Remove (range 0x200000 0x100000) 5))))
    × (map_option_of (codes "1M%2M") ≡ Some (Other (Some (RemoveAll (range 0x200000 0x100000)))))
map_option_forms = (refl, refl, refl, refl, refl, refl, refl, refl, refl, refl, refl)

-- the largest range, a range of only the last byte, RAM that ends at 0, and RAM without a limit
edges : (map_option_of (codes "0xFFFFFFFFFFFFFFFF@0") ≡ Some (Adding (Some (Add (range 0 (2 ^ 64 - 1)) 1))))
    × (map_option_of (codes "1@18446744073709551614") ≡ Some (Adding (Some (Add (range (2 ^ 64 - 2) 1) 1))))
    × (map_option_of (codes "0") ≡ Some (Other (Some (Remove (range 0 (2 ^ 64 - 1)) 1))))
    × (map_option_of (codes "0xFFFFFFFFFFFFFFFF") ≡ Some (Other None))
edges = (refl, refl, refl, refl)

-- a type that is 0 counts as not given
types_of_zero : (map_option_of (codes "1%2-0+5") ≡ map_option_of (codes "1%2+5"))
    × (map_option_of (codes "1%2-5+0") ≡ map_option_of (codes "1%2-5"))
    × (map_option_of (codes "1%2-0+0") ≡ Some (Other (Some (RemoveAll (range 2 1)))))
    × (map_option_of (codes "1%2-0") ≡ map_option_of (codes "1%2"))
    × (map_option_of (codes "1%2+0") ≡ map_option_of (codes "1%2"))
types_of_zero = (refl, refl, refl, refl, refl)

-- types in other bases, and the largest type
types_as_numbers : (map_option_of (codes "1%2-0x10+021") ≡ Some (Other (Some (Change (range 2 1) 16 17))))
    × (map_option_of (codes "1%2-4294967295") ≡ Some (Other (Some (Remove (range 2 1) (2 ^ 32 - 1)))))
types_as_numbers = (refl, refl)

-- an empty range makes no edit, but the map option still counts as one that adds memory; a range
-- past 2^64 - 1 is malformed
empty_or_malformed : (map_option_of (codes "0@1M") ≡ Some (Adding None)) × (map_option_of [] ≡ None) × (map_option_of (codes "1M@") ≡ None)
    × (map_option_of (codes "1M@2MB") ≡ None) × (map_option_of (codes "1M&2M") ≡ None) × (map_option_of (codes "1M%2M-3+3") ≡ None)
    × (map_option_of (codes "15E@15E") ≡ None)
empty_or_malformed = (refl, refl, refl, refl, refl, refl, refl)

-- malformed map options: with text before, after or between the parts, with names that are almost
-- right, or with ranges past 2^64 - 1
no_map_options : (map_option_of (codes "@1M") ≡ None) × (map_option_of (codes "1KK") ≡ None) × (map_option_of (codes "1M@2M@3M") ≡ None)
    × (map_option_of (codes "1M@-2M") ≡ None) × (map_option_of (codes "exactmapx") ≡ None) × (map_option_of (codes "EXACTMAP") ≡ None)
    × (map_option_of (codes "16E@0") ≡ None) × (map_option_of (codes "2@0xFFFFFFFFFFFFFFFE") ≡ None)
no_map_options = (refl, refl, refl, refl, refl, refl, refl, refl)

-- malformed types: without digits, with a suffix, in the other order, above 2^32 - 1
no_types : (map_option_of (codes "1%2-") ≡ None) × (map_option_of (codes "1%2-3+") ≡ None) × (map_option_of (codes "1%2-1K") ≡ None)
    × (map_option_of (codes "1%2+3-4") ≡ None) × (map_option_of (codes "1%2+08") ≡ None) × (map_option_of (codes "1%2-0x10+020") ≡ None)
    × (map_option_of (codes "1%2+4294967296") ≡ None) × (map_option_of (codes "1%2-18446744073709551616") ≡ None)
no_types = (refl, refl, refl, refl, refl, refl, refl, refl)

-- `mem=` ends RAM at an address above 0
mem_values : (mem_of (codes "4G") ≡ Some (Other (Some (Remove (range 0x100000000 (2 ^ 64 - 1 - 0x100000000)) 1))))
    × (mem_of (codes "nopentium") ≡ Some (Other None)) × (mem_of (codes "0") ≡ None) × (mem_of (codes "4G@0") ≡ None)
    × (mem_of (codes "0xFFFFFFFFFFFFFFFF") ≡ Some (Other None)) × (mem_of (codes "16E") ≡ None) × (mem_of [] ≡ None)
mem_values = (refl, refl, refl, refl, refl, refl, refl)

-- the line ends before the first zero byte, and one newline at its end is dropped
raw_lines : (raw_line (codes "quiet\n") ≡ codes "quiet") × (raw_line (113 ∷ 10 ∷ 10 ∷ 0 ∷ 120 ∷ []) ≡ 113 ∷ 10 ∷ []) × (raw_line [] ≡ [])
raw_lines = (refl, refl, refl)

lines : (command_line_of (codes "mem=\"4G\"\n") ≡ Ok (codes "mem=\"4G\"")) × (command_line_of (codes "mem=\"4G\n") ≡ Err faults.OpenQuote)
lines = (refl, refl)

-- a line of 2,047 bytes is accepted, and one of 2,048 is too long
checked_lines : (checked_line (replicate 2047 97) ≡ Ok (replicate 2047 97)) × (checked_line (replicate 2048 34) ≡ Err faults.TooLong)
checked_lines = (refl, refl)

-- each text between commas must be a map option, even one after the last comma
options_in_order : (memmap_of (codes "exactmap,8@0") ≡ Some (OfMap (ExactMap ∷ Adding (Some (Add (range 0 8) 1)) ∷ [])))
    × (memmap_of (codes "exactmap,") ≡ None) × (memmap_of [] ≡ None)
options_in_order = (refl, refl, refl)

-- the name and the value of a word; the value loses its quotation marks
names : (name_value_of (codes "mem=\"4G\"") ≡ (codes "mem", Some (codes "4G")))
    × (name_value_of (codes "quiet") ≡ (codes "quiet", None)) × (name_value_of (codes "mem=") ≡ (codes "mem", Some []))
names = (refl, refl, refl)

-- the meaning of a word depends on its whole name; a fault has the number of the word
said_words : (word_meaning 2 (codes "mem", Some (codes "nopentium")) ≡ Ok (meaning_of_map_option (Other None)))
    × (word_meaning 2 (codes "numa", Some (codes "off")) ≡ Ok NumaOff)
    × (word_meaning 2 (codes "memory", Some (codes "4G")) ≡ Ok (OfMap []))
    × (word_meaning 2 (codes "mem", None) ≡ Err (faults.BadMem 2))
    × (word_meaning 3 (codes "memmap", Some (codes "1G!4X")) ≡ Err (faults.BadMemmap 3))
    × (word_meaning 4 (codes "numa", Some (codes "fake=2")) ≡ Err (faults.BadNuma 4))
said_words = (refl, refl, refl, refl, refl, refl)

-- `add_efi_memmap` means the same with any value and without one; its whole name is needed
efi_words : (word_meaning 2 (codes "add_efi_memmap", None) ≡ Ok AddEfi)
    × (word_meaning 2 (codes "add_efi_memmap", Some (codes "0")) ≡ Ok AddEfi)
    × (word_meaning 2 (codes "add_efi_memmaps", None) ≡ Ok (OfMap [])) × (word_meaning 2 (codes "add_efi", None) ≡ Ok (OfMap []))
efi_words = (refl, refl, refl, refl)

-- if `--` is the first word, no word comes before it
words_of_options : (option_words (codes "a \"b\" -- c") ≡ codes "a" ∷ codes "b" ∷ []) × (option_words (codes "-- a") ≡ [])
words_of_options = (refl, refl)

-- the fault of the lowest malformed word is reported; words are numbered from the given number on
first_fault : (word_meanings_from 1 (codes "quiet" ∷ codes "numa=on" ∷ codes "mem=0" ∷ []) ≡ Err (faults.BadNuma 2))
    × (word_meanings_from 1 (codes "quiet" ∷ codes "numa=off" ∷ []) ≡ Ok ((1, OfMap []) ∷ (2, NumaOff) ∷ []))
first_fault = (refl, refl)

-- word 1 is `memmap=exactmap,0@1M`, word 2 `numa=off`, word 3 `memmap=8@0`
abbrev a_page : MapOption
a_page = Adding (Some (Add (range 0 8) 1))

abbrev three_words : List (ℕ × WordMeaning)
three_words = (1, OfMap (ExactMap ∷ Adding None ∷ [])) ∷ (2, NumaOff) ∷ (3, OfMap (a_page ∷ [])) ∷ []

-- a map option that adds an empty range makes no edit
edits_of_options : (edits_of (all_map_options three_words) ≡ Clear ∷ Add (range 0 8) 1 ∷ []) × (edit_of (Adding None) ≡ None)
    × (edit_of ExactMap ≡ Some Clear) × (edits_of [] ≡ [])
edits_of_options = (refl, refl, refl, refl)

-- the last `exactmap`, and the number of map options that add a range after it
two_after_it : (last_exact (all_map_options three_words) ≡ Some (1, 2)) × (count_adding (all_map_options three_words) ≡ 2)
    × (count_adding ((1, ExactMap) ∷ (2, Other None) ∷ []) ≡ 0)
two_after_it = (refl, refl, refl)

-- after the last of two words with `exactmap` one map option adds a range; a line without
-- `exactmap` has none
last_exactmap : (last_exact ((1, ExactMap) ∷ (1, a_page) ∷ (2, ExactMap) ∷ (3, a_page) ∷ (4, Other None) ∷ []) ≡ Some (2, 1))
    × (last_exact ((1, a_page) ∷ (2, Other None) ∷ []) ≡ None)
last_exactmap = (refl, refl)

-- a user map needs two map options that add a range
abbrev nothing_chosen : OptionsView
nothing_chosen = record { edits = []; crash = no_crash; numa_off = false; add_efi = false }

user_maps : (check_user_map nothing_chosen (Some (3, 1)) ≡ Err (faults.UserMapInvalid 3))
    × (check_user_map nothing_chosen (Some (3, 2)) ≡ Ok nothing_chosen) × (check_user_map nothing_chosen None ≡ Ok nothing_chosen)
user_maps = (refl, refl, refl)

words_with_user_maps : (options_with_user_map three_words
    ≡ Ok (record { edits = Clear ∷ Add (range 0 8) 1 ∷ []; crash = no_crash; numa_off = true; add_efi = false }))
    × (options_with_user_map ((1, OfMap (ExactMap ∷ a_page ∷ [])) ∷ []) ≡ Err (faults.UserMapInvalid 1))
words_with_user_maps = (refl, refl)

-- contracts see the edits, without the vector that holds them, and whether `numa=off` and
-- `add_efi_memmap` are set
chosen_options : (options : Options) → options.edits.items ≡ Clear ∷ [] → options.numa_off ≡ true → options.add_efi ≡ true
    → options_view options ≡ record { edits = Clear ∷ []; crash = crash_option_view options.crash; numa_off = true; add_efi = true }
chosen_options options edits off efi = rw (edits, off, efi) refl

-- whole lines: two edits, in their order; words after `--` are ignored; `add_efi_memmap`; a
-- malformed third word; a user map with one map option
whole_lines : (options_of (codes "quiet mem=4G memmap=1G!2G\n")
    ≡ Ok (record nothing_chosen {
      edits = Remove (range 0x100000000 (2 ^ 64 - 1 - 0x100000000)) 1 ∷ Add (range 0x80000000 0x40000000) 12 ∷ [];
    }))
    × (options_of (codes "numa=off -- mem=0") ≡ Ok (record nothing_chosen { numa_off = true }))
    × (options_of (codes "quiet add_efi_memmap\n") ≡ Ok (record nothing_chosen { add_efi = true }))
    × (options_of (codes "add_efi_memmap=off") ≡ Ok (record nothing_chosen { add_efi = true }))
    × (options_of (codes "-- add_efi_memmap") ≡ Ok nothing_chosen)
    × (options_of (codes "quiet mem=2G memmap=1G!4X\n") ≡ Err (faults.BadMemmap 3))
    × (options_of (codes "a memmap=exactmap memmap=1M@0") ≡ Err (faults.UserMapInvalid 2))
whole_lines = (refl, refl, refl, refl, refl, refl, refl)

-- edits with and without an empty range, and faults with and without a word's number
ranges_of_edits : HaveRanges (Add (range 0 8) 1 ∷ Clear ∷ []) × (HaveRanges (Clear ∷ RemoveAll (range 5 0) ∷ []) → ⊥)
ranges_of_edits = ((omega arith, (tt, tt)), λ have. let has = have.1.0 in omega arith)

numbered_faults : IsNumbered (faults.BadMem 1) × IsNumbered faults.OpenQuote
numbered_faults = (omega arith, tt)

-- in the middle of a line: after `exactmap` two map options that add a range are missing, and one
-- fewer after each one that is read
read_three_words : after_words start_state three_words
    ≡ record {
      edits = Clear ∷ Add (range 0 8) 1 ∷ [];
      crash = no_crash;
      numa_off = true;
      add_efi = false;
      user_map = Some (record { word = 1; wanting = 0 });
    }
read_three_words = refl

none_wanted : (at_line_end (after_words start_state three_words) ≡ options_with_user_map three_words)
    × (at_line_end (reading_after_word 1 start_state (OfMap (ExactMap ∷ a_page ∷ []))) ≡ Err (faults.UserMapInvalid 1))
none_wanted = (refl, refl)

abbrev two_wanted : UserMap
two_wanted = record { word = 3; wanting = 2 }

abbrev one_wanted : UserMap
one_wanted = record { word = 3; wanting = 1 }

wanted_after : (user_map_after_option 3 ExactMap None ≡ Some two_wanted)
    × (user_map_after_option 4 a_page (Some two_wanted) ≡ Some one_wanted)
    × (user_map_after_option 4 (Other None) (Some two_wanted) ≡ Some two_wanted) × (user_map_after_option 4 a_page None ≡ None)
wanted_after = (refl, refl, refl, refl)

-- the reader has the edits of its state; if it ran out of memory, its state has at least one edit
edits_are_kept : (kept : Vec Edit Global) → kept.items ≡ Clear ∷ [] → KeepsItems (Ok kept) (Clear ∷ [])
edits_are_kept kept is = is

memory_ran_out : (m : Memory) → KeepsItems (Err m) (Clear ∷ []) × (KeepsItems {A = Edit} (Err m) [] → ⊥)
memory_ran_out m = (omega arith, λ wanting. omega arith)

abbrev half_read : Memory → Reading
half_read m = record {
  edits = Err m;
  crash = record { plain = None; high = None; low = None };
  numa_off = true;
  add_efi = false;
  user_map = None;
}

-- a reader that ran out of memory for the edits still has everything else of its state
at_a_state_without_memory : (m : Memory)
    → IsReadTo (half_read m) (reading_after_word 1 (after_map_option 1 start_state (Other (Some Clear))) NumaOff)
at_a_state_without_memory m =
    record {
      edits = omega arith;
      crash = record { plain = refl; high = refl; low = refl };
      numa_off = refl;
      add_efi = refl;
      user_map = refl;
    }

other_numa_off : (m : Memory) → IsReadTo (half_read m) (after_map_option 1 start_state (Other (Some Clear))) → ⊥
other_numa_off m has = let off = has.numa_off in cc off

-- a reader that goes on has no fault, and the fault that it returns is the definition's
no_state_with_a_fault : (m : Memory) → IsInState (half_read m) (Err (faults.BadMem 1)) → ⊥
no_state_with_a_fault m is = is

same_fault : (m : Memory)
    → ReadsAs {X = ℕ} (λ _. half_read m) (Err (faults.BadMem 1)) (after_meaning 1 start_state (word_meaning 1 (codes "mem", None)))
    × (ReadsAs {X = ℕ} (λ _. half_read m) (Err faults.Memory) (after_meaning 1 start_state (word_meaning 1 (codes "mem", None))) → ⊥)
same_fault m = (refl, λ same. cc same)
