use Rattle.std.proofs.Common.{set, ◌∙◌, ap}
use Rattle.std.proofs.lemmas.List.{drop-set-add}
use Rattle.boot_journal.specs.RunList.{RunListView}
use Rattle.boot_journal.proofs.run_list.RunListSlotsOwnerRun.put.Goals as goal

pub returns-clause-list : goal.returns-clause-list
returns-clause-list c =
    drop-set-add c.self.inside.front c.self.inside.records.items c.args.i c.args.item
    ∙ ap (λ (v : RunListView). set v.items c.args.i c.args.item) c.self.view_is
