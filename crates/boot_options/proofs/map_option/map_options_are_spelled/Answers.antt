use Rattle.boot_options.proofs.SpelledLaws.{map_option-exactly, map_options-exactly, mem-exactly}
use Rattle.boot_options.proofs.map_option.map_options_are_spelled.Goals as goal

pub returns : goal.returns
returns c = record { one = map_option-exactly; value = map_options-exactly; mem = mem-exactly }
