use Rattle.address_runs.specs.Runs.{value_at}
use Rattle.run_edits.proofs.reading.value_at.Goals as goal

pub returns : goal.returns
returns g c = c.value_and_end.ensures.value (value_at (g.T.Rows.list c.args.table.now)) c.first_ending_above-read.ensures.rest
