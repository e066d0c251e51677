use Rattle.std.proofs.Common.{◌-◌, take, drop, arith}
use Rattle.std.proofs.lemmas.List.{take-append-drop}
use Rattle.address_runs.specs.Runs.{value_at}
use Rattle.run_edits.proofs.JoinLaws.{rest_before}
use Rattle.run_edits.proofs.reading.first_ending_above.Goals as goal

pub returns-clause-rest : goal.returns-clause-rest
returns-clause-rest g c =
    let first = c.first_ending_from-first in
    c.skip_ended.ensures.rest (value_at (g.T.Rows.list c.args.table.now)) (c.args.at - 1)
    (rest_before (g.T.Rows.list c.args.table.now) c.args.at (take first.result (g.T.Rows.list c.args.table.now))
    (drop first.result (g.T.Rows.list c.args.table.now))
    (take-append-drop first.result (g.T.Rows.list c.args.table.now)) c.requires first.ensures.before first.ensures.from) (omega arith)
    first.ensures.from
