-- The stage is that of the program's own rule.
use Rattle.crash_kernel.specs.Request.{request_by}
use Rattle.crash_kernel.specs.Reservation.{reserve_crash_area, reserve_crash_area_by}
use Rattle.crash_kernel.proofs.reservation.reserve.Goals as goal

pub returns-clause-ends : goal.returns-clause-ends
unfolding reserve_crash_area reserve_crash_area_by request_by
returns-clause-ends c = c.reserve_by_rule.ensures.ends

pub returns-clause-idle : goal.returns-clause-idle
unfolding reserve_crash_area reserve_crash_area_by request_by
returns-clause-idle c = c.reserve_by_rule.ensures.idle
