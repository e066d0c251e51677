use Rattle.text_words.proofs.WordsLaws.{words-spelled, words-one}
use Rattle.text_words.proofs.words.spelled_words_are_read.Goals as goal

pub returns-clause-word : goal.returns-clause-word
returns-clause-word c = words-spelled

pub returns-clause-last : goal.returns-clause-last
returns-clause-last c = words-one
