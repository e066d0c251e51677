use Rattle.std.proofs.Common.{◌+◌, ◌-◌, ◌*◌, ◌++◌, ◌∷◌, length, take, drop, refl, arith}
use Rattle.phys_store.specs.Bytes.{byte_of}
use Rattle.memblock_ranges.specs.Tables.{records_of_head}
use Rattle.memblock_ranges.proofs.LentLaws.{count_is}
use Rattle.memblock_ranges.proofs.SpellLaws.{length-records_at}
use Rattle.memblock_ranges.proofs.ByteEdits.{Edited, insert_table}
use Rattle.memblock_ranges.proofs.borrowed_table.TableMutSlotsRecord.insert.Goals as goal
use Rattle.memblock_ranges.proofs.borrowed_table.TableMutSlotsRecord.insert.Goals.{After-write}

pub move_bytes-requires : goal.move_bytes-requires
move_bytes-requires c =
    let low = count_is c.args.self.now.store.now c.args.self.now.head.now in
    λ x from to. c.args.self.now.table.prepared x (omega (arith, from)) (omega (arith, to, c.requires.within, c.requires.room, low))

-- the table after the edit
opened : (c : After-write) → let l = c.args.self.now in
    let rs = records_of_head l.store.now l.head.now in
    Edited l.store.now c.write.new.self l.head.now.place l.head.now.room (l.head.now.count + 1)
    (take c.args.i rs ++ c.args.item ∷ drop c.args.i rs)
opened c =
    let l = c.args.self.now in
    let h = l.head.now in
    let i = c.args.i in
    let low = count_is l.store.now h in
    let at = h.place + 24 * i in
    insert_table l.store.now c.move_bytes.new.self c.write.new.self h.place h.room h.count i (at + 24) (24 * (h.count - i)) at
    (length c.encode_record.result) c.args.item c.encode_record.result l.table (omega (arith, c.requires.within, low))
    (omega (arith, c.requires.room, low))
    c.encode_record.ensures.fits c.encode_record.ensures.bytes c.move_bytes.ensures c.write.ensures refl refl refl refl

pub invariant_of-self : goal.invariant_of-self
invariant_of-self c = record { table = (opened (goal.at.invariant_of-self c).After-write).table }

pub returns-clause-list : goal.returns-clause-list
returns-clause-list c = (opened (goal.at.returns-clause-list c).After-write).list_is

pub returns-clause-small : goal.returns-clause-small
returns-clause-small c =
    let l = c.args.self.now in
    let h = l.head.now in
    let low = count_is l.store.now h in
    omega (arith, length-records_at (byte_of c.write.new.self) h.place (h.count + 1), c.requires.room, low, l.table.fits)
