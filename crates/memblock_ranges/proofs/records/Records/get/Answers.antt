use Rattle.std.proofs.Common.{◌+◌, ◌*◌, ◌<◌, length, ap, ◌∙◌, arith}
use Rattle.memblock_ranges.specs.Encoding.{decode_region}
use Rattle.memblock_ranges.proofs.LentLaws.{slice_is, record_is, record_fits}
use Rattle.memblock_ranges.proofs.records.Records.get.Goals as goal

pub returns-clause-region : goal.returns-clause-region
returns-clause-region c = λ r.
    let s = c.self.inside in
    let less : c.args.i < s.count = omega (arith, c.requires, c.self.invariant.counted, ap length c.self.view_is) in
    let piece = slice_is s.bytes.now (24 * c.args.i) (24 * c.args.i + 24) 24 (omega arith) (omega (arith, c.self.invariant.long)) in
    rw (← c.self.view_is) (c.decode_region.ensures ∙ ap decode_region piece
    ∙ record_is s.bytes.now s.count c.args.i r c.self.invariant less)

pub returns-clause-fits : goal.returns-clause-fits
returns-clause-fits c = λ r.
    let s = c.self.inside in
    let less : c.args.i < s.count = omega (arith, c.requires, c.self.invariant.counted, ap length c.self.view_is) in
    rw (← c.self.view_is) (record_fits s.bytes.now s.count c.args.i r c.self.invariant less)
