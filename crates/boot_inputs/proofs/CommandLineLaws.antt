-- The faults of a command line: its own, those of its words, and those of a user map. None of them
-- is out of memory.
use Rattle.std.proofs.Common.{◌≢◌, ℕ, ◌+◌, Bool, List, [], ◌∷◌, Option, Result, Ok, codes, arith}
use Rattle.std.specs.Prelude.{IsErrOf, if◌then◌else◌}
use Rattle.std.specs.Option.{option_and_then, option_map}
use Rattle.std.specs.Str.{bytes_eq}
use Rattle.boot_options.specs.MapOptions.{mem_of}
use Rattle.boot_options.specs.declared.fault.OptionFault.{OptionFault}
use Rattle.boot_options.specs.declared.fault.OptionFault.TheVariants as options
use Rattle.boot_options.specs.Options.{AddEfi, OfMap, WordMeaning, crash_of, command_line_of, memmap_of, numa_of, meaning_of_map_option, name_value_of, options_of, option_words, meaning_or_fault, word_meaning, word_meanings_from}
use Rattle.boot_inputs.proofs.WantLaws.{then_other}

word_first : (fault : OptionFault) (said : Option WordMeaning) (b : Bool) (y : Result WordMeaning OptionFault) → fault ≢ options.Memory
    → ¬ IsErrOf y options.Memory → ¬ IsErrOf (if b then meaning_or_fault fault said else y) options.Memory
word_first fault said b y other rest = grind arith

word_other : (number : ℕ) (word : List ℕ × Option (List ℕ)) → ¬ IsErrOf (word_meaning number word) options.Memory
word_other number word =
    let last = if bytes_eq word.0 (codes "add_efi_memmap") then Ok AddEfi else Ok (OfMap []) in
    word_first (options.BadMem number) (option_map meaning_of_map_option (option_and_then mem_of word.1))
    (bytes_eq word.0 (codes "mem")) _ (λ is.
    cc is)
    (word_first (options.BadMemmap number) (option_and_then memmap_of word.1) (bytes_eq word.0 (codes "memmap")) _ (λ is. cc is)
    (word_first (options.BadCrash number) (option_and_then crash_of word.1) (bytes_eq word.0 (codes "crashkernel")) _ (λ is. cc is)
    (word_first (options.BadNuma number) (option_and_then numa_of word.1) (bytes_eq word.0 (codes "numa")) last (λ is. cc is)
    (λ is. grind arith))))

words_other : (number : ℕ) (words : List (List ℕ)) → ¬ IsErrOf (word_meanings_from number words) options.Memory
words_other number [] = λ is. cc is
words_other number (word ∷ words) =
    then_other (word_meaning number (name_value_of word)) (word_other number (name_value_of word))
    (λ said. then_other (word_meanings_from (number + 1) words) (words_other (number + 1) words) (λ others is. cc is))

pub options_other : (bytes : List ℕ) → ¬ IsErrOf (options_of bytes) options.Memory
options_other bytes =
    then_other (command_line_of bytes) (λ is. grind arith)
    (λ line. then_other (word_meanings_from 1 (option_words line)) (words_other 1 (option_words line)) (λ said is. grind arith))
