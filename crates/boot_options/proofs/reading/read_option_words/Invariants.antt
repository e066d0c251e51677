use Rattle.std.proofs.Common.{◌≡◌, ◌+◌, ◌≤◌, length}
use Rattle.boot_options.specs.Options.{word_meanings_from, option_words}
use Rattle.boot_options.specs.Reading.{ReadingState, IsReadTo, start_state, after_meanings}
use Rattle.boot_options.proofs.reading.read_option_words.Given as goal

abbrev pub invariant-loop-word : goal.invariant-loop-word
invariant-loop-word l = record {
  reading : (st : ReadingState) × IsReadTo l.reading st
      × (after_meanings st (word_meanings_from l.number (option_words l.rest))
      ≡ after_meanings start_state (word_meanings_from 1 (option_words l.line)));
  few : l.number + length l.rest ≤ length l.line + 1;
}

abbrev pub decreases-loop-word : goal.decreases-loop-word
decreases-loop-word l = length l.rest
