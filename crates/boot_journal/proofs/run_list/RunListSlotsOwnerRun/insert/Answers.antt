use Rattle.std.proofs.Common.{◌≡◌, ◌<◌, ◌≤◌, ◌+◌, ◌∷◌, ◌++◌, true, length, take, drop, ◌∙◌, ap, vec_len, vec_capacity, arith}
use Rattle.std.specs.Prelude.{is_ok}
use Rattle.std.proofs.lemmas.List.{length-drop}
use Rattle.boot_journal.specs.RunList.{RunListView}
use Rattle.boot_journal.proofs.RunListLaws.{drop-insert}
use Rattle.boot_journal.proofs.run_list.RunListSlotsOwnerRun.insert.Goals as goal

pub returns-else-moves_lower_runs-clause-list : goal.returns-else-moves_lower_runs-clause-list
returns-else-moves_lower_runs-clause-list c =
    let len = ap (λ (v : RunListView). length v.items) c.self.view_is in
    let after = c.moves_lower_runs.ensures.high c.if-moves_lower_runs.false in
    let room : vec_len c.self.inside.records < vec_capacity c.self.inside.records =
    omega (arith, after, c.len.ensures, c.capacity.ensures, c.len-2.ensures) in
    let done : is_ok c.insert.result ≡ true = c.insert.ensures.succeeds room in
    ap (drop c.self.inside.front) (rw done at c.insert.ensures.items)
    ∙ drop-insert c.self.inside.front c.args.i c.args.item c.self.inside.records.items
    (omega (
      arith,
      len,
      c.requires.within,
      c.self.invariant,
      length-drop c.self.inside.front
          c.self.inside.records.items,
      c.self.inside.records.ok.0,
    ))
    ∙ ap (λ (v : RunListView). take c.args.i v.items ++ c.args.item ∷ drop c.args.i v.items) c.self.view_is
