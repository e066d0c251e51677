use Rattle.bm_base.proofs.SpellingLaws.{size-exactly, number-exactly, size-front, number-front}
use Rattle.bm_base.proofs.size.sizes_are_spelled.Goals as goal

pub returns : goal.returns
returns c = record { size = size-exactly; number = number-exactly; front_size = size-front; front_number = number-front }
