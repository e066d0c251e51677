use Rattle.std.proofs.Common.{refl}
use Rattle.crash_kernel.specs.Request.{request_by}
use Rattle.crash_kernel.specs.Reservation.{reserve_crash_area, reserve_crash_area_by}
use Rattle.crash_kernel.proofs.laws.own_rule_is_reserve.Goals as goal

pub returns : goal.returns
unfolding reserve_crash_area reserve_crash_area_by request_by
returns c = λ added asked. refl
