-- The results of a boot that isn't stopped are the report of what it made (`finish_boot`).
use Rattle.std.proofs.Common.{◌≡◌, Result, Ok, Err, refl}
use Rattle.bm_base.specs.ResultSteps.{◌>>=◌}
use Rattle.boot_model.specs.declared.stop.Cause.{Cause}
use Rattle.boot_model.specs.Boot.{ExtraView, InputsView, BootSoFar, BootedView, boot, boot_with, finish_boot_by, no_extra, whole_boot, whole_boot_with}

-- the boot made `made`, and `t` is the report of that
pub record IsReportOfBoot (extra : ExtraView) (inputs : InputsView) (t : BootedView) : Type 0 where
  pub made : BootSoFar
  pub boots : boot_with extra inputs ≡ Ok made
  pub tells : finish_boot_by extra.profile inputs made ≡ t

told_of : (extra : ExtraView) (inputs : InputsView) (answer : Result BootSoFar Cause) (t : BootedView) → boot_with extra inputs ≡ answer
    → (answer >>= λ made. Ok (finish_boot_by extra.profile inputs made)) ≡ Ok t → IsReportOfBoot extra inputs t
told_of extra inputs (Ok made) t is ends = record { made = made; boots = is; tells = cc ends }
told_of extra inputs (Err cause) t is ends = absurd (cc ends)

pub is_told_of : (extra : ExtraView) (inputs : InputsView) (t : BootedView) → whole_boot_with extra inputs ≡ Ok t
    → IsReportOfBoot extra inputs t
is_told_of extra inputs t ends = told_of extra inputs (boot_with extra inputs) t refl ends

-- what holds of each boot's report by its profile and early claims holds of `bootmem`'s own
pub own_told : (t : BootedView) (inputs : InputsView) → whole_boot inputs ≡ Ok t → whole_boot_with no_extra inputs ≡ Ok t
unfolding boot
own_told t inputs ends = ends
