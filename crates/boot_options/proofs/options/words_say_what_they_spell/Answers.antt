use Rattle.boot_options.proofs.SaidSpelledLaws.{line-exactly, word-exactly}
use Rattle.boot_options.proofs.options.words_say_what_they_spell.Goals as goal

pub returns : goal.returns
returns c = record { word = word-exactly; line = line-exactly }
