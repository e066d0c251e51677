use Rattle.std.proofs.Common.{◌≡◌, Bool, sym, ◌∙◌, ap, arith}
use Rattle.address_runs.specs.Runs.{IsRunsOf}
use Rattle.memblock_model.specs.Items.{owner_of}
use Rattle.memblock_model.proofs.ItemLaws.{ItemsHaveBytes-push}
use Rattle.boot_journal.specs.JournalView.{JournalView}
use Rattle.boot_journal.specs.Mirrors.{has_mirrors_after, has_mirrors}
use Rattle.boot_journal.proofs.MirrorLaws.{has_mirrors-push}
use Rattle.boot_journal.proofs.OwnerLaws.{owner_runs_after_item, owners_within}
use Rattle.boot_journal.proofs.journal.Journal.push_ready.Goals as goal

pub invariant_of-self : goal.invariant_of-self
invariant_of-self c =
    let spare : c.self.inside.spare ≡ c.args.self.now.spare = ap (λ (v : JournalView). v.spare) c.self.view_is in
    let pushed = c.push_within_capacity.ensures.items in
    let runs : IsRunsOf (owner_of c.push_within_capacity.new.items.items) c.update_owners.new.owners.items =
    rw pushed (owner_runs_after_item c.self.inside.items.items c.args.item c.self.inside.owners.items c.update_owners.new.owners.items
    c.self.invariant.3
    c.update_owners.ensures.runs) in (
      omega (arith, c.self.invariant.0, c.push_within_capacity.ensures.len, c.push_within_capacity.ensures.capacity, c.requires.spare),
      rw pushed (ItemsHaveBytes-push c.self.inside.items.items c.args.item c.self.invariant.1 c.requires.item),
      omega (arith, c.self.invariant.2, c.update_owners.ensures.len, c.update_owners.ensures.room, c.requires.spare),
      runs,
      owners_within c.push_within_capacity.new.items.items c.update_owners.new.owners.items runs c.update_owners.ensures.within,
      c.has_mirrors_after-self-inside.ensures ∙ ap (λ (m : Bool). has_mirrors_after m c.args.item) c.self.invariant.5
          ∙ sym (has_mirrors-push c.self.inside.items.items c.args.item) ∙ ap has_mirrors (sym pushed),
    )
