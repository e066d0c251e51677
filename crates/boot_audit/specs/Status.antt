-- The exit status of a verdict.
use Rattle.std.specs.Prelude.{◌≡◌, ℕ, ◌⊎◌}
use Rattle.std.proofs.Common.{refl, inl, inr}
use Rattle.boot_audit.specs.declared.judgement.Verdict.{Verdict}
use Rattle.boot_audit.specs.declared.judgement.Verdict.TheVariants as verdicts

abbrev pub verdict_status : Verdict → ℕ
verdict_status verdicts.Sound = 0
verdict_status other = 8

pub verdict_statuses : (verdict : Verdict) → (verdict_status verdict ≡ 0) ⊎ (verdict_status verdict ≡ 8)
verdict_statuses verdicts.Sound = inl refl
verdict_statuses (verdicts.Misaligned line) = inr refl
verdict_statuses (verdicts.WrongZone line) = inr refl
verdict_statuses (verdicts.NotFree frame) = inr refl
verdict_statuses (verdicts.Lost frame) = inr refl
verdict_statuses (verdicts.NotMaximal line) = inr refl
