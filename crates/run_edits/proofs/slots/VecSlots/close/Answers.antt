use Rattle.std.proofs.Common.{◌≡◌, ◌≤◌, ◌+◌, ◌-◌, length, take, ◌∙◌, ap, map, arith}
use Rattle.std.proofs.lemmas.List.{length-map}
use Rattle.run_edits.proofs.SlotLaws.{closed, map_closed}
use Rattle.run_edits.proofs.slots.VecSlots.close.Goals as goal

pub returns-clause-list : goal.returns-clause-list
returns-clause-list g c =
    let len : length (map g.S.ValuedRange.run c.args.self.now.items)
    ≡ length c.args.self.now.items = length-map c.args.self.now.items g.S.ValuedRange.run in
    let count : c.len-count.result ≡ length c.args.self.now.items = omega (arith, c.len-count.ensures, c.args.self.now.ok.0) in
    let fits : c.args.i + c.args.n ≤ c.len-count.result = omega (arith, len, count, c.requires) in
    ap (map g.S.ValuedRange.run) (c.truncate.ensures.items ∙ ap (take (c.len-count.result - c.args.n)) c.copy_within.ensures.items
    ∙ closed c.args.i c.args.n c.len-count.result c.args.self.now.items count fits)
    ∙ map_closed g.S.ValuedRange.run c.args.i c.args.n c.args.self.now.items
