use Rattle.crash_kernel.proofs.ToldLaws.{reserve_crash_area_by-told}
use Rattle.crash_kernel.proofs.laws.area_by_rule_was_free.Goals as goal

pub returns : goal.returns
returns c = λ rule added asked items main low told. reserve_crash_area_by-told rule added asked items main low told
