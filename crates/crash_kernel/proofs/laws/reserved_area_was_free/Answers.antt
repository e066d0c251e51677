use Rattle.crash_kernel.proofs.ToldLaws.{reserve_crash_area-told}
use Rattle.crash_kernel.proofs.laws.reserved_area_was_free.Goals as goal

pub returns : goal.returns
returns c = λ asked items main low told. reserve_crash_area-told asked items main low told
