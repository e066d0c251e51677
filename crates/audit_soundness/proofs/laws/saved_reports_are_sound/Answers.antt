use Rattle.std.proofs.Common.{Some}
use Rattle.boot_audit.proofs.HeadlineLaws.{conserved_sound}
use Rattle.audit_soundness.proofs.SavedLaws.{saved_conserved}
use Rattle.audit_soundness.proofs.laws.saved_reports_are_sound.Goals as goal

pub returns : goal.returns
returns c = record {
  conserved = saved_conserved;
  sound = λ inputs booted ends can held args is.
      conserved_sound (Some args) held (saved_conserved inputs booted ends can held args is);
}
