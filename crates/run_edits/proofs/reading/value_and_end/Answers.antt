use Rattle.std.proofs.Common.{◌≡◌, drop, sym, ◌∙◌, arith}
use Rattle.std.proofs.lemmas.Grind.{common_steps}
use Rattle.address_runs.specs.Runs.{run_end}
use Rattle.address_runs.specs.Sweep.{StartAtOrPast}
use Rattle.address_runs.proofs.SweepLaws.{rest_gap, ends_another}
use Rattle.run_edits.proofs.reading.value_and_end.Goals as goal

pub returns-then-from-range-clause-value : goal.returns-then-from-range-clause-value
returns-then-from-range-clause-value g c = λ f rest.
    let starts : StartAtOrPast c.range.inside.base (drop c.args.read (g.T.Rows.list c.args.table.now)) = rw c.in-Some.ensures.record
    (grind (arith, common_steps)) in
    sym (rest_gap f c.args.from c.range.inside.base c.args.from _ rest starts (omega arith) (omega arith))

pub returns-then-from-range-clause-stays : goal.returns-then-from-range-clause-stays
returns-then-from-range-clause-stays g c = λ f rest x above under.
    let starts : StartAtOrPast c.range.inside.base (drop c.args.read (g.T.Rows.list c.args.table.now)) = rw c.in-Some.ensures.record
    (grind (arith, common_steps)) in
    rest_gap f c.args.from c.range.inside.base x _ rest starts above under
    ∙ sym (rest_gap f c.args.from c.range.inside.base c.args.from _ rest starts (omega arith) (omega arith))

pub returns-then-from-range-clause-another : goal.returns-then-from-range-clause-another
returns-then-from-range-clause-another g c = λ f rest same.
    let starts : StartAtOrPast c.range.inside.base (drop c.args.read (g.T.Rows.list c.args.table.now)) = rw c.in-Some.ensures.record
    (grind (arith, common_steps)) in
    rest_gap f c.args.from c.range.inside.base c.args.from _ rest starts (omega arith) (omega arith)

pub returns-else-from-range-clause-another : goal.returns-else-from-range-clause-another
returns-else-from-range-clause-another g c = λ f rest same.
    let until : c.end.result ≡ run_end (g.S.ValuedRange.run c.in-Some.record) = grind (arith, common_steps) in
    let other = ends_another f c.args.from (g.S.ValuedRange.run c.in-Some.record) _ (rw c.in-Some.ensures.record at rest)
    (grind (arith, common_steps)) in
    absurd (other (rw until at same))
