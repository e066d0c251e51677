use Rattle.std.proofs.Common.{◌≡◌, ◌+◌, ◌≤◌, length, filter}
use Rattle.text_words.specs.Parts.{parts_of_rest}
use Rattle.text_words.specs.Words.{is_word, words_in}
use Rattle.text_words.proofs.WordsLaws.{text_of, left}
use Rattle.text_words.proofs.words.next_word.Given as goal

abbrev pub invariant-loop-rest : goal.invariant-loop-rest
invariant-loop-rest l = record {
  words : filter is_word (parts_of_rest l.separators (text_of l.rest)) ≡ words_in l.separators l.text;
  shorter : left l.rest ≤ length l.text + 1;
}

abbrev pub decreases-loop-rest : goal.decreases-loop-rest
decreases-loop-rest l = left l.rest
