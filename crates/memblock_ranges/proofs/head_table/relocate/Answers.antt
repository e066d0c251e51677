use Rattle.std.proofs.Common.{◌-◌, ◌*◌, refl, arith}
use Rattle.memblock_ranges.proofs.MoveLaws.{copied_apart, moves}
use Rattle.memblock_ranges.proofs.head_table.relocate.Goals as goal

pub copy_bytes-requires-clause-disjoint : goal.copy_bytes-requires-clause-disjoint
copy_bytes-requires-clause-disjoint c =
    let h = c.args.head.now in
    copied_apart h.place h.room h.count c.args.place c.requires.table.few c.requires.apart

pub returns : goal.returns
returns c =
    let h = c.args.head.now in
    moves c.args.store.now c.copy_bytes.new.self c.fill.new.self c.fill-2.new.self h c.args.place (24 * h.count)
    (2 * 24 * h.room - 24 * h.count) (24 * h.room)
    c.requires.table c.requires.small c.requires.prepared c.requires.apart c.copy_bytes.ensures c.fill.ensures c.fill-2.ensures refl
    (omega arith) refl
