-- The boot is printable, since each run of its map and of its owners was read.
use Rattle.std.proofs.Common.{ℕ, List, Some, subst}
use Rattle.std.specs.List.{All}
use Rattle.address_runs.specs.Runs.{IsRunsOf, RunOf}
use Rattle.boot_audit.proofs.HeadlineLaws.{conserved_sound}
use Rattle.boot_model.specs.View.{booted_view}
use Rattle.memblock_model.specs.Items.{owner_of}
use Rattle.memblock_model.specs.declared.owner.Owner.{Owner}
use Rattle.audit_soundness.specs.PrintableBoots.{RunEndsInSpace, IsBoundedOwnerRun}
use Rattle.audit_soundness.proofs.BootedLaws.{can_be_told}
use Rattle.audit_soundness.proofs.SavedLaws.{saved_conserved}
use Rattle.audit_soundness.proofs.booted.booted_reports_are_sound.Goals as goal

pub returns-clause-printable : goal.returns-clause-printable
returns-clause-printable g c =
    can_be_told g.inputs (booted_view c.args.booted.now) c.requires
    (subst (λ (rs : List (RunOf ℕ)). All RunEndsInSpace rs) c.deref.ensures.value c.map_runs_end_in_space.ensures)
    (subst (λ (rs : List (RunOf Owner)). IsRunsOf (owner_of c.args.booted.now.journal.items) rs) c.owners.ensures.list
    c.owners.ensures.runs)
    (subst (λ (rs : List (RunOf Owner)). All IsBoundedOwnerRun rs) c.owners.ensures.list c.owner_runs_are_bounded.ensures)

pub returns-clause-conserved : goal.returns-clause-conserved
returns-clause-conserved g c = λ held args is.
    saved_conserved g.inputs (booted_view c.args.booted.now) c.requires (returns-clause-printable g c) held args is

pub returns-clause-sound : goal.returns-clause-sound
returns-clause-sound g c = λ held args is. conserved_sound (Some args) held (returns-clause-conserved g c held args is)
