-- Worked examples of the spelling of words and values.
use Rattle.std.proofs.Common.{◌≡◌, ℕ, ◌-◌, ◌^◌, Some, None, [], ◌∷◌, codes, Err, Ok, refl, arith}
use Rattle.bm_base.specs.Range.{RangeView}
use Rattle.e820_model.specs.declared.entry.Edit.TheVariants.{Add, Remove, RemoveAll}
use Rattle.text_words.specs.Spelling.{both_marks}
use Rattle.boot_options.specs.declared.fault.OptionFault.TheVariants as faults
use Rattle.boot_options.specs.declared.map_option.MapOption.{MapOption}
use Rattle.boot_options.specs.declared.map_option.MapOption.TheVariants.{ExactMap, Adding, Other}
use Rattle.boot_options.specs.Crash.{High, Plain, crash_form_of, one_range}
use Rattle.boot_options.specs.Options.{AddEfi, OfCrash, OfMap, WordMeaning}
use Rattle.boot_options.specs.Spelling.{HasName, SpellsMeaning, alone, crash_word, efi_word, with_value, IsBadMem, IsBadMemmap, IsCrashValue, IsFirstWordFault, IsMemmapValue, IsSoundWord, SpellsBase, SpellsForm, SpellsMapOption, SpellsMapOptions, SpellsNoType, SpellsPlace, SpellsType, a_base, a_type, every_type, exactmap, high, last_option, new_type, next_option, no_base, no_value, nothing, one_size, other_value, ram, size_alone, type_zero}
use Rattle.boot_options.proofs.FaultLaws.{memmap-exactly_first, sound-ok}
use Rattle.boot_options.proofs.SaidSpelledLaws.{word-exactly}
use Rattle.boot_options.proofs.SpelledCrashLaws.{form-exactly}
use Rattle.boot_options.proofs.SpelledLaws.{map_option-exactly, map_options-exactly}

abbrev range : ℕ → ℕ → RangeView
range base size = record { base = base; size = size }

-- a range may end at 2^64 - 1, and not above
places : SpellsPlace (codes "1") (codes "0xFFFFFFFFFFFFFFFE") (range (2 ^ 64 - 2) 1)
    × (SpellsPlace (codes "2") (codes "0xFFFFFFFFFFFFFFFE") (range (2 ^ 64 - 2) 2) → ⊥)
places = (record { size = refl; base = refl; ends = omega arith }, λ place. let ends = place.ends in omega arith)

-- a type, and two spellings of no type
types : SpellsType (codes "-") (codes "-12") 12 × SpellsNoType (codes "+") [] × SpellsNoType (codes "+") (codes "+0")
types = (a_type (codes "12") 12 refl (omega arith) (omega arith), nothing, type_zero (codes "0") refl)

abbrev a_place : SpellsPlace (codes "1M") (codes "0x200000") (range 0x200000 0x100000)
a_place = record { size = refl; base = refl; ends = omega arith }

-- map options: one that adds memory; one with two types, the first of which is 0; one without
-- types; a size alone; and a text that is none, since its base is missing
map_options : SpellsMapOption (codes "1M@0x200000") (Adding (Some (Add (range 0x200000 0x100000) 1)))
    × SpellsMapOption (codes "1M%0x200000-0+5") (Adding (Some (Add (range 0x200000 0x100000) 5)))
    × SpellsMapOption (codes "1M%0x200000") (Other (Some (RemoveAll (range 0x200000 0x100000))))
    × SpellsMapOption (codes "16M") (Other (Some (Remove (range 0x1000000 (2 ^ 64 - 1 - 0x1000000)) 1)))
    × ((option : MapOption) → SpellsMapOption (codes "1M@") option → ⊥)
map_options = (
  ram (codes "1M") (codes "0x200000") (range 0x200000 0x100000) a_place,
  new_type (codes "1M") (codes "0x200000") (codes "-0") (codes "+5") (range 0x200000 0x100000) 5 a_place (type_zero (codes "0") refl)
      (a_type (codes "5") 5 refl (omega arith) (omega arith)),
  every_type (codes "1M") (codes "0x200000") [] [] (range 0x200000 0x100000) a_place nothing nothing,
  size_alone (codes "16M") 0x1000000 refl,
  λ option spells. let is : None ≡ Some option = (map_option-exactly (codes "1M@") option).1 spells in cc is,
)

-- a value of two map options; a value with an empty text after a comma is malformed
memmap_values : SpellsMapOptions (codes "exactmap,1M@0x200000") (ExactMap ∷ Adding (Some (Add (range 0x200000 0x100000) 1)) ∷ [])
    × (IsMemmapValue (codes "exactmap,") → ⊥)
memmap_values = (
  next_option (codes "exactmap") (codes "1M@0x200000") ExactMap (Adding (Some (Add (range 0x200000 0x100000) 1)) ∷ []) exactmap
      (last_option (codes "1M@0x200000") (Adding (Some (Add (range 0x200000 0x100000) 1))) map_options.0),
  λ value. let is : None ≡ Some value.0 = (map_options-exactly (codes "exactmap,") value.0).1 value.1 in cc is,
)

-- sizes with a base, without one, and with a suffix; a suffix in the wrong case is malformed
crash_values : SpellsForm (codes "16M@1M") (Plain (one_range 0x1000000 0x100000)) × SpellsForm (codes "16M") (Plain (one_range 0x1000000 0))
    × SpellsForm (codes "16M,high") (High 0x1000000) × SpellsBase [] 0 × (IsCrashValue (codes "16M,HIGH") → ⊥)
unfolding crash_form_of
crash_values = (
  one_size (codes "16M") (codes "@1M") 0x1000000 0x100000 refl (a_base (codes "1M") 0x100000 refl),
  one_size (codes "16M") [] 0x1000000 0 refl no_base,
  high (codes "16M") 0x1000000 refl,
  no_base,
  λ value. let is : None ≡ Some value.0 = (form-exactly (codes "16M,HIGH") value.0).1 value.1 in cc is,
)

-- malformed words, one without a value and one with a malformed value; and a word with another
-- name, which is sound
words : IsBadMem (codes "mem") × IsBadMemmap (codes "memmap=\"exactmap,\"") × IsSoundWord (codes "quiet")
words = (
  no_value,
  other_value (codes "\"exactmap,\"") (codes "exactmap,") (both_marks (codes "exactmap,")) memmap_values.1,
  sound-ok 1 (codes "quiet") (OfMap []) refl,
)

-- the second word of the line is the lowest malformed one
first_fault : IsFirstWordFault (codes "quiet memmap=1M@ memmap=2") 2 IsBadMemmap
first_fault = (memmap-exactly_first (codes "quiet memmap=1M@ memmap=2") 2).0 refl

-- words with a quoted value, without a value, and with another name
said_words : SpellsMeaning (codes "crashkernel=\"16M,high\"") (OfCrash (High 0x1000000)) × SpellsMeaning (codes "add_efi_memmap") AddEfi
    × HasName (codes "numa") (codes "numa=on") × SpellsMeaning (codes "quiet") (OfMap [])
    × ((said : WordMeaning) → SpellsMeaning (codes "numa") said → ⊥)
said_words = (
  crash_word (codes "\"16M,high\"") (codes "16M,high") (High 0x1000000) (both_marks (codes "16M,high")) crash_values.2,
  efi_word (codes "add_efi_memmap") alone,
  with_value (codes "on"),
  (word-exactly 1 (codes "quiet") (OfMap [])).0 refl,
  λ said spells. let is : Err (faults.BadNuma 1) ≡ Ok said = (word-exactly 1 (codes "numa") said).1 spells in cc is,
)
