use Rattle.std.proofs.Common.{◌≡◌, ◌≤◌, ◌+◌, ◌++◌, length, take, drop, ◌∙◌, ap, arith}
use Rattle.std.proofs.lemmas.List.{length-drop}
use Rattle.boot_journal.specs.RunList.{RunListView}
use Rattle.boot_journal.proofs.RunListLaws.{drop-closed}
use Rattle.boot_journal.proofs.run_list.RunListSlotsOwnerRun.close.Goals as goal

pub returns-else-i-after-clause-list : goal.returns-else-i-after-clause-list
returns-else-i-after-clause-list c =
    let len = ap (λ (v : RunListView). length v.items) c.self.view_is in
    ap (drop c.self.inside.front) c.close_high.ensures.items
    ∙ drop-closed c.self.inside.front c.args.i c.args.n c.self.inside.records.items
    (omega (
      arith,
      len,
      c.requires,
      c.self.invariant,
      length-drop c.self.inside.front
          c.self.inside.records.items,
      c.self.inside.records.ok.0,
    ))
    ∙ ap (λ (v : RunListView). take c.args.i v.items ++ drop (c.args.i + c.args.n) v.items) c.self.view_is
