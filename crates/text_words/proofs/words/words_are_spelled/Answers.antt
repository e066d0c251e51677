use Rattle.text_words.proofs.SpellingLaws.{words_exactly, unquoted_exactly}
use Rattle.text_words.proofs.words.words_are_spelled.Goals as goal

pub returns : goal.returns
returns c = record { words = words_exactly; unquoted = unquoted_exactly }
