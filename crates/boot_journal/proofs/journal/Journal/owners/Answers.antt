use Rattle.std.proofs.Common.{◌∙◌, ap}
use Rattle.memblock_model.specs.Items.{owner_runs_of}
use Rattle.boot_journal.specs.JournalView.{JournalView}
use Rattle.boot_journal.proofs.OwnerLaws.{owner_list}
use Rattle.boot_journal.proofs.journal.Journal.owners.Goals as goal

pub returns-clause-list : goal.returns-clause-list
returns-clause-list c =
    c.as_slice.ensures ∙ owner_list c.self.inside.items.items c.self.inside.owners.items c.self.invariant.3 c.self.invariant.4
    ∙ ap (λ (v : JournalView). owner_runs_of v.items) c.self.view_is
