use Rattle.std.proofs.Common.{◌+◌, ◌*◌, length, sym, ◌∙◌, ap, subst}
use Rattle.phys_store.specs.Bytes.{byte_of}
use Rattle.phys_store.proofs.ByteLists.{length-bytes_at}
use Rattle.memblock_ranges.specs.Encoding.{decode_record, IsRecord}
use Rattle.memblock_ranges.proofs.SpellLaws.{get-records_at}
use Rattle.memblock_ranges.proofs.borrowed_table.read_slot.Goals as goal

pub decode_record-requires-clause-long : goal.decode_record-requires-clause-long
decode_record-requires-clause-long c =
    ap length c.slice.ensures ∙ length-bytes_at (byte_of c.args.store.now) (c.args.head.now.place + 24 * c.args.i) 24

pub decode_record-requires-clause-record : goal.decode_record-requires-clause-record
decode_record-requires-clause-record c = subst IsRecord (sym c.slice.ensures) (c.requires.table.records c.args.i c.requires.used)

pub returns : goal.returns
returns c =
    c.decode_record.ensures ∙ ap decode_record c.slice.ensures
    ∙ sym (get-records_at (byte_of c.args.store.now) c.args.head.now.place c.args.head.now.count c.args.i c.decode_record.result
    c.requires.used)
