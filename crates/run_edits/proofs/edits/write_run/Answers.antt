use Rattle.std.proofs.Common.{◌≡◌, ℕ, ◌<◌, ◌+◌, ◌-◌, ◌++◌, ◌∷◌, [], true, nat_lt, Option, Some, take, drop, refl, sym, ◌∙◌, ap, arith}
use Rattle.std.proofs.lemmas.Bool.Decides.{nat_tests}
use Rattle.address_runs.specs.Runs.{RunOf}
use Rattle.run_edits.specs.Records.{run_or_none}
use Rattle.run_edits.proofs.SlotLaws.{take_insert, drop_insert}
use Rattle.run_edits.proofs.edits.write_run.Goals as goal

-- the list with the run from `start` to `until` has one member, the record that is written
one_stretch : {X : Type 0} (start until : ℕ) (value : Option X) (v : X) (r : RunOf X) → value ≡ Some v → start < until
    → r ≡ record { base = start; size = until - start; value = v } → run_or_none start until value ≡ r ∷ []
one_stretch start until value v r is lt run = let test : nat_lt start until ≡ true = grind (arith, nat_tests) in rw (is, test, run) refl

pub returns-else-write-read-clause-written : goal.returns-else-write-read-clause-written
returns-else-write-read-clause-written g c =
    let range : c.in-Some-between.range ≡ record { base = c.args.start; size = c.args.until - c.args.start } =
    c.in-Some-between.ensures.1 in
    let one = one_stretch c.args.start c.args.until c.args.value c.in-Some.value
    (g.S.ValuedRange.run c.of-else-write-read.result) c.in-Some.is
    c.in-Some-between.ensures.0 (rw range at c.of-else-write-read.ensures) in
    ap (take (c.args.write + 1)) c.insert.ensures.list
    ∙ take_insert c.args.write (g.S.ValuedRange.run c.of-else-write-read.result) (g.T.Rows.list c.args.table.now)
    (omega (arith, c.requires.order, c.requires.within))
    ∙ ap (λ l. take c.args.write (g.T.Rows.list c.args.table.now) ++ l) (sym one)

pub returns-else-write-read-clause-rest : goal.returns-else-write-read-clause-rest
returns-else-write-read-clause-rest g c =
    let same : c.args.read ≡ c.args.write = omega (arith, c.requires.order, c.if-write-read.false) in
    rw same (ap (drop (c.args.write + 1)) c.insert.ensures.list
    ∙ drop_insert c.args.write (g.S.ValuedRange.run c.of-else-write-read.result) (g.T.Rows.list c.args.table.now)
    (omega (arith, c.requires.order, c.requires.within)))
