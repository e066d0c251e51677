use Rattle.std.proofs.Common.{◌≡◌, ◌+◌, ◌∷◌, ◌++◌, take, drop, sym, ◌∙◌, ap, arith}
use Rattle.std.proofs.lemmas.Grind.{common_steps}
use Rattle.std.proofs.lemmas.List.{take-append-drop}
use Rattle.address_runs.specs.Sweep.{StartAtOrPast}
use Rattle.run_edits.proofs.JoinLaws.{begun_inside, begun_outside}
use Rattle.run_edits.proofs.edits.stretch_at.Goals as goal
use Rattle.run_edits.proofs.edits.stretch_at.Goals.{in_default-via-in-Some+else-range-at, in_default-via-in_default}

pub returns-in-Some : goal.returns-in-Some
returns-in-Some g c = λ f like.
    let base : c.result.inside.base ≡ (g.S.ValuedRange.run c.in-Some.record).base = grind (arith, common_steps) in
    let parts : take c.args.first (g.T.Rows.list c.args.table.now)
    ++ g.S.ValuedRange.run c.in-Some.record ∷ drop (c.args.first + 1) (g.T.Rows.list c.args.table.now) ≡ g.T.Rows.list c.args.table.now =
    ap (λ l. take c.args.first (g.T.Rows.list c.args.table.now) ++ l) (sym c.in-Some.ensures.record)
    ∙ take-append-drop c.args.first (g.T.Rows.list c.args.table.now) in
    rw (base, c.value.ensures) (begun_inside (g.T.Rows.list c.args.table.now) f c.args.at
    (take c.args.first (g.T.Rows.list c.args.table.now)) (drop (c.args.first + 1) (g.T.Rows.list c.args.table.now))
    (g.S.ValuedRange.run c.in-Some.record) parts c.requires.runs (grind (arith, common_steps))
    (rw c.in-Some.ensures.record at c.requires.from) like)

pub returns-in_default : goal.returns-in_default
returns-in_default g c = λ f like.
    let starts : StartAtOrPast c.args.at (drop c.args.first (g.T.Rows.list c.args.table.now)) = elim c.in_default.branch [
      | in_default-via-in-Some+else-range-at w ↦ rw w.in-Some.ensures.record (grind (arith, common_steps))
      | in_default-via-in_default w ↦ rw w.in_default.ensures.record tt
    ] in
    begun_outside (g.T.Rows.list c.args.table.now) f c.args.at (take c.args.first (g.T.Rows.list c.args.table.now))
    (drop c.args.first (g.T.Rows.list c.args.table.now))
    (take-append-drop c.args.first (g.T.Rows.list c.args.table.now)) c.requires.runs c.requires.before starts like
