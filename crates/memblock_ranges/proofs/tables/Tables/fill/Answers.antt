use Rattle.memblock_ranges.proofs.PairLaws.{filled_stay}
use Rattle.memblock_ranges.proofs.tables.Tables.fill.Goals as goal

pub invariant_of-self : goal.invariant_of-self
invariant_of-self c =
    (filled_stay _ _ _ _ c.args.range (λ _. c.args.byte) c.self.invariant c.fill.ensures (rw (← c.self.view_is) at c.requires.apart)).0

pub returns-clause-memory : goal.returns-clause-memory
returns-clause-memory c =
    let apart = rw (← c.self.view_is) at c.requires.apart in
    rw (← c.self.view_is) (filled_stay _ _ _ _ c.args.range (λ _. c.args.byte) c.self.invariant c.fill.ensures apart).1

pub returns-clause-reserved : goal.returns-clause-reserved
returns-clause-reserved c =
    let apart = rw (← c.self.view_is) at c.requires.apart in
    rw (← c.self.view_is) (filled_stay _ _ _ _ c.args.range (λ _. c.args.byte) c.self.invariant c.fill.ensures apart).2
