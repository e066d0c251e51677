-- The boot with the program's own profile and without early claims is the boot.
use Rattle.std.proofs.Common.{◌≡◌, ℕ, [], ◌∙◌, ap, subst, Ok, Result}
use Rattle.std.specs.Prelude.{IfOk}
use Rattle.bm_base.specs.Answers.{Answers}
use Rattle.bm_base.specs.Range.{RangeView}
use Rattle.bm_base.specs.ResultSteps.{map_error}
use Rattle.growth_model.specs.Bytes.{byte_from_history}
use Rattle.phys_store.specs.Bytes.{byte_of}
use Rattle.boot_model.specs.Boot.{BootSoFar, ExtraView, InputsView, boot, boot_with, no_extra, whole_boot, whole_boot_with}
use Rattle.boot_model.specs.Stop.{stop_of}
use Rattle.boot_model.specs.View.{booted_view, extra_view}
use Rattle.boot_model.specs.declared.booted.Booted.{Booted}
use Rattle.boot_model.specs.declared.extra.Profile.{Profile}
use Rattle.boot_model.specs.declared.stop.Stop.{Stop}
use Rattle.boot_model.specs.declared.stop.Stop.TheVariants as stops
use Rattle.boot_stages.proofs.stages.boot.Goals as goal
use Rattle.boot_stages.proofs.stages.boot.Goals.{After-without_claims-extra}

own_extra : (c : After-without_claims-extra) → extra_view c.without_claims-extra.result ≡ no_extra
own_extra c =
    c.without_claims-extra.ensures ∙ ap (λ (p : Profile). let e : ExtraView = record { profile = p; claims = [] } in e) c.own.ensures

own_report : (extra : ExtraView) (inputs : InputsView) (result : Result Booted Stop) → extra ≡ no_extra
    → Answers stops.Memory booted_view result (map_error stop_of (whole_boot_with extra inputs))
    → Answers stops.Memory booted_view result (map_error stop_of (whole_boot inputs))
unfolding boot
own_report extra inputs result is answers =
    subst (λ (e : ExtraView). Answers stops.Memory booted_view result (map_error stop_of (whole_boot_with e inputs))) is answers

-- what the bytes of a boot's result are
abbrev HasBytes : ExtraView → InputsView → RangeView → Booted → Type 0
HasBytes extra inputs kernel booted =
    (made : BootSoFar) → boot_with extra inputs ≡ Ok made → (x : ℕ)
    → byte_of booted.store x ≡ byte_from_history kernel made.items made.fills x

own_bytes : (extra : ExtraView) (inputs : InputsView) (kernel : RangeView) (result : Result Booted Stop) → extra ≡ no_extra
    → IfOk result (HasBytes extra inputs kernel)
    → IfOk result (λ booted. (made : BootSoFar) → boot inputs ≡ Ok made → (x : ℕ) →
    byte_of booted.store x ≡ byte_from_history kernel made.items made.fills x)
unfolding boot
own_bytes extra inputs kernel result is bytes = subst (λ (e : ExtraView). IfOk result (HasBytes e inputs kernel)) is bytes

pub returns-clause-boots : goal.returns-clause-boots
returns-clause-boots c = own_report _ _ _ (own_extra (goal.at.returns-clause-boots c).After-without_claims-extra) c.boot_with.ensures.boots

pub returns-clause-bytes : goal.returns-clause-bytes
returns-clause-bytes c = own_bytes _ _ _ _ (own_extra (goal.at.returns-clause-bytes c).After-without_claims-extra) c.boot_with.ensures.bytes
