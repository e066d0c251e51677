use Rattle.std.proofs.lemmas.Result.{err_from_is_err_and}
use Rattle.memblock_ranges.proofs.PairLaws.{prepared_stay}
use Rattle.memblock_ranges.proofs.tables.Tables.prepare.Goals as goal

pub invariant_of-self-2 : goal.invariant_of-self-2
invariant_of-self-2 c =
    let s = c.self.inside.store in
    let m = c.self.inside.heads.memory in
    let r = c.self.inside.heads.reserved in
    let both = c.self.invariant in
    let p = prepared_stay s c.prepare.new.self m r c.args.range both c.prepare.ensures.bytes c.in_ok-prepare.ensures.ready in
    p.0

pub returns-in_err-prepare-clause-wants : goal.returns-in_err-prepare-clause-wants
returns-in_err-prepare-clause-wants c =
    let p = err_from_is_err_and c.from_residual.result c.from_residual.ensures.1 in
    rw (← c.self.view_is) (rw p.1 c.in_err-prepare.ensures.memory)
