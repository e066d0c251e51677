use Rattle.std.proofs.Common.{◌≡◌, ℕ, sym, ◌∙◌, ap}
use Rattle.address_runs.specs.Runs.{value_at}
use Rattle.memblock_model.specs.Items.{owner_of}
use Rattle.boot_journal.specs.JournalView.{JournalView}
use Rattle.boot_journal.proofs.journal.Journal.owns.Goals as goal

pub returns : goal.returns
returns c =
    let told : (x : ℕ) → value_at c.self.inside.owners.items x ≡ owner_of c.args.self.now.items x = λ x.
    c.self.invariant.3.each x ∙ ap (λ (v : JournalView). owner_of v.items x) c.self.view_is in (
      λ holds x above under. sym (told x) ∙ c.has_value_throughout.ensures.0 holds x above under,
      λ each. c.has_value_throughout.ensures.1 (λ x above under. told x
          ∙ each x above under),
    )
