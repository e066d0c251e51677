use Rattle.bm_base.proofs.SizeLaws.{size_of-mark, number_of-mark, size_of-decimal}
use Rattle.bm_base.proofs.size.spelled_sizes_are_read.Goals as goal

pub returns-clause-size : goal.returns-clause-size
returns-clause-size c = size_of-mark

pub returns-clause-number : goal.returns-clause-number
returns-clause-number c = number_of-mark

pub returns-clause-decimal : goal.returns-clause-decimal
returns-clause-decimal c = size_of-decimal
