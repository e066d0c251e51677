use Rattle.std.proofs.Common.{◌≡◌, List}
use Rattle.text_words.specs.declared.separators.Separators.TheVariants.{Byte}
use Rattle.text_words.specs.Parts.{parts_of_rest}
use Rattle.text_words.proofs.WordsLaws.{text_of, left}
use Rattle.boot_options.specs.declared.crash.CrashRange.{CrashRange}
use Rattle.boot_options.specs.Crash.{crash_ranges_of}
use Rattle.boot_options.specs.Kept.{KeepsItems}
use Rattle.boot_options.proofs.CrashLaws.{ranges_before}
use Rattle.boot_options.proofs.crash.read_ranges.Given as goal

-- the ranges read before, followed by those of the texts that remain, are the ranges of all texts
abbrev pub invariant-loop-rest : goal.invariant-loop-rest
invariant-loop-rest l =
    (kept : List CrashRange) × KeepsItems l.ranges kept
    × (ranges_before kept (crash_ranges_of (parts_of_rest (Byte 44) (text_of l.rest)))
    ≡ crash_ranges_of (parts_of_rest (Byte 44) (text_of l.initial.rest)))

abbrev pub decreases-loop-rest : goal.decreases-loop-rest
decreases-loop-rest l = left l.rest
