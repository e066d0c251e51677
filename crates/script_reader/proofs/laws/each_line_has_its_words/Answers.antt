use Rattle.std.proofs.Common.{sym, ◌∙◌}
use Rattle.text_words.specs.Words.{words_in}
use Rattle.text_words.specs.declared.separators.Separators.TheVariants.{Script}
use Rattle.text_words.proofs.SpellingLaws.{has_words}
use Rattle.script_reader.proofs.StepLaws.{words_spelled}
use Rattle.script_reader.proofs.laws.each_line_has_its_words.Goals as goal

pub returns-clause-some : goal.returns-clause-some
returns-clause-some c text = (words_in Script text, words_spelled text)

pub returns-clause-one : goal.returns-clause-one
returns-clause-one c text words others has also = sym (has_words Script text words has) ∙ has_words Script text others also
