use Rattle.std.proofs.Common.{arith}
use Rattle.std.proofs.lemmas.Grind.{common_steps}
use Rattle.bm_base.proofs.SizeLaws.{digits_value-grows}
use Rattle.bm_base.proofs.size.read_digits.Goals as goal

pub returns-in_err-value-clause-none : goal.returns-in_err-value-clause-none
returns-in_err-value-clause-none c = grind (arith, common_steps, digits_value-grows)
