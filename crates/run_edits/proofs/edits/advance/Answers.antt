use Rattle.std.proofs.Common.{◌≡◌, ◌≢◌, true, false}
use Rattle.run_edits.proofs.JoinLaws.{built_stretch}
use Rattle.run_edits.proofs.edits.advance.Goals as goal

pub returns-clause-built : goal.returns-clause-built
returns-clause-built g c = λ f until built is order stays.
    let other : c.args.sweep.value ≢ c.args.value = λ same. let clash : false ≡ true = rw c.if-agree.false at (c.agree.ensures.1 same) in
    cc in
    rw c.write_run-write.ensures.written
    (built_stretch f c.args.sweep.start c.args.from until c.args.sweep.value c.args.value _ built is other
    order stays)
