-- The fill overlaps no table, so both tables are in their bytes as before.
use Rattle.std.proofs.Common.{ℕ, length, sym, ◌∙◌, ap}
use Rattle.phys_store.specs.Bytes.{byte_of}
use Rattle.growth_model.specs.Bytes.{Fill, byte_after_fill}
use Rattle.memblock_grow.specs.MemblockView.{MemblockView}
use Rattle.memblock_grow.proofs.MemblockLaws.{wrote-put, whole-fill}
use Rattle.memblock_grow.proofs.memblock.Memblock.fill.Goals as goal

pub invariant_of-self-2 : goal.invariant_of-self-2
invariant_of-self-2 c =
    let m = c.self.inside in
    let fill : Fill = record { range = c.args.range; byte = c.args.byte; at = length m.journal.items } in
    whole-fill c.fill.new.self fill (c.fill.ensures.memory ∙ c.in_ok-prepare.ensures.memory)
    (c.fill.ensures.reserved ∙ c.in_ok-prepare.ensures.reserved)
    (λ x. wrote-put c.prepare.new.self.store c.fill.new.self.store fill c.fill.ensures.bytes x
    ∙ ap (λ (b : ℕ). byte_after_fill fill x b) (c.in_ok-prepare.ensures.bytes x)) (rw (sym c.self.view_is) at c.requires) c.self.invariant

pub returns-clause-ok : goal.returns-clause-ok
returns-clause-ok c = λ x.
    let m = c.self.inside in
    let fill : Fill = record { range = c.args.range; byte = c.args.byte; at = length c.args.self.now.journal.items } in
    wrote-put c.prepare.new.self.store c.fill.new.self.store fill c.fill.ensures.bytes x
    ∙ ap (λ (b : ℕ). byte_after_fill fill x b) (c.in_ok-prepare.ensures.bytes x
    ∙ ap (λ (v : MemblockView). byte_of v.tables.store x) c.self.view_is)
