use Rattle.std.proofs.Common.{◌≡◌, ◌+◌, ◌*◌, length, set, refl, ◌∙◌, ap, arith}
use Rattle.memblock_ranges.specs.Encoding.{flags_field, node_field}
use Rattle.memblock_ranges.specs.Tables.{records_of_head}
use Rattle.memblock_ranges.proofs.LentLaws.{count_is}
use Rattle.memblock_ranges.proofs.SpellLaws.{length-fields_of}
use Rattle.memblock_ranges.proofs.ByteEdits.{Edited, edited_kept, put_table}
use Rattle.memblock_ranges.proofs.borrowed_table.TableMutSlotsRecord.put.Goals as goal
use Rattle.memblock_ranges.proofs.borrowed_table.TableMutSlotsRecord.put.Goals.{After-write}

pub overflow_mul-i : goal.overflow_mul-i
overflow_mul-i c = let l = c.args.self.now in omega (arith, l.table.few, l.table.fits, c.requires, count_is l.store.now l.head.now)

pub overflow_add-self : goal.overflow_add-self
overflow_add-self c = let l = c.args.self.now in omega (arith, l.table.few, l.table.fits, c.requires, count_is l.store.now l.head.now)

pub write-requires : goal.write-requires
write-requires c =
    let t = c.args.self.now.table in
    let low = count_is c.args.self.now.store.now c.args.self.now.head.now in
    let long : length c.encode_record.result ≡ 24 = ap length c.encode_record.ensures.bytes
    ∙ length-fields_of c.args.item.base c.args.item.size (flags_field c.args.item.value) (node_field c.args.item.value) in
    λ x from to. t.prepared x (omega (arith, from)) (omega (arith, to, long, t.few, c.requires, low))

-- the table after the edit
written : (c : After-write) → let l = c.args.self.now in
    Edited l.store.now c.write.new.self l.head.now.place l.head.now.room l.head.now.count
    (set (records_of_head l.store.now l.head.now) c.args.i c.args.item)
written c =
    let l = c.args.self.now in
    let h = l.head.now in
    let low = count_is l.store.now h in
    put_table l.store.now c.write.new.self h.place h.room h.count c.args.i (h.place + 24 * c.args.i)
    (length c.encode_record.result) c.args.item
    c.encode_record.result l.table
    (omega (arith, c.requires, low)) c.encode_record.ensures.fits c.encode_record.ensures.bytes c.write.ensures refl refl

pub invariant_of-self : goal.invariant_of-self
invariant_of-self c = record { table = (written (goal.at.invariant_of-self c).After-write).table }

pub returns-clause-list : goal.returns-clause-list
returns-clause-list c = (written (goal.at.returns-clause-list c).After-write).list_is

pub returns-clause-keeps : goal.returns-clause-keeps
returns-clause-keeps c = (refl, refl, edited_kept _ _ _ _ _ _ (written (goal.at.returns-clause-keeps c).After-write))
