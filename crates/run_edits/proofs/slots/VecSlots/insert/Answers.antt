use Rattle.std.proofs.Common.{◌≡◌, ◌<◌, true, length, ◌∙◌, ap, map, vec_len, vec_capacity, arith}
use Rattle.std.specs.Prelude.{is_ok}
use Rattle.std.proofs.lemmas.List.{length-map}
use Rattle.run_edits.proofs.SlotLaws.{map_insert}
use Rattle.run_edits.proofs.slots.VecSlots.insert.Goals as goal

pub returns-clause-list : goal.returns-clause-list
returns-clause-list g c =
    let len : length (map g.S.ValuedRange.run c.args.self.now.items)
    ≡ length c.args.self.now.items = length-map c.args.self.now.items g.S.ValuedRange.run in
    let room : vec_len c.args.self.now < vec_capacity c.args.self.now = omega (arith, len, c.requires.room, c.args.self.now.ok.0) in
    let done : is_ok c.insert.result ≡ true = c.insert.ensures.succeeds room in
    ap (map g.S.ValuedRange.run) (rw done at c.insert.ensures.items)
    ∙ map_insert g.S.ValuedRange.run c.args.i c.args.item c.args.self.now.items
