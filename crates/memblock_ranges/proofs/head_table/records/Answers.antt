use Rattle.std.proofs.Common.{◌∙◌, List, ℕ, ap, sym, subst}
use Rattle.phys_store.specs.Bytes.{byte_of}
use Rattle.memblock_ranges.specs.RecordBytes.{records_in_bytes, AreRecordBytes}
use Rattle.memblock_ranges.proofs.LentLaws.{lent_runs, are_lent}
use Rattle.memblock_ranges.proofs.head_table.records.Goals as goal

pub of-requires : goal.of-requires
of-requires c =
    let h = c.args.head.now in
    subst (λ (bs : List ℕ). AreRecordBytes bs h.count) (sym c.slice.ensures)
    (are_lent c.args.store.now h c.requires.table c.requires.records)

pub returns : goal.returns
returns c =
    let h = c.args.head.now in
    c.of.ensures ∙ ap (λ (bs : List ℕ). records_in_bytes bs h.count) c.slice.ensures ∙ lent_runs (byte_of c.args.store.now) h.place h.count
