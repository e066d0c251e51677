use Rattle.std.proofs.Common.{◌≡◌}
use Rattle.text_words.specs.declared.separators.Separators.TheVariants.{Byte}
use Rattle.text_words.specs.Parts.{parts_of_rest}
use Rattle.text_words.proofs.WordsLaws.{text_of, left}
use Rattle.boot_options.specs.Options.{map_options_of}
use Rattle.boot_options.specs.Reading.{ReadingState, IsReadTo, read_map_options}
use Rattle.boot_options.proofs.reading.read_memmap.Given as goal

-- reading the texts that remain from the current state gives what reading all texts from the first
-- state gives
abbrev pub invariant-loop-rest : goal.invariant-loop-rest
invariant-loop-rest l =
    (st : ReadingState) → IsReadTo l.fn.reading st → (mid : ReadingState) × IsReadTo l.reading mid
    × (read_map_options l.number mid (map_options_of (parts_of_rest (Byte 44) (text_of l.rest)))
    ≡ read_map_options l.number st (map_options_of (parts_of_rest (Byte 44) (text_of l.initial.rest))))

abbrev pub decreases-loop-rest : goal.decreases-loop-rest
decreases-loop-rest l = left l.rest
