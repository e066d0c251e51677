use Rattle.std.proofs.lemmas.List.{map-set}
use Rattle.run_edits.proofs.slots.VecSlots.put.Goals as goal

pub returns-clause-list : goal.returns-clause-list
returns-clause-list g c = map-set g.S.ValuedRange.run c.args.self.now.items c.args.i c.args.item
