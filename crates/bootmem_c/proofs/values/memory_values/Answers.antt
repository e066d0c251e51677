-- The value that is added is that of the next record.
use Rattle.std.proofs.Common.{arith}
use Rattle.phys_store.specs.Bytes.{byte_of}
use Rattle.bootmem_c.proofs.ValueLaws.{no_more, one_more}
use Rattle.bootmem_c.proofs.values.memory_values.Goals as goal

pub loop-index-preserved : goal.loop-index-preserved
loop-index-preserved c =
    one_more (byte_of c.args.store.now) c.args.head.now.place c.args.head.now.count c.loop-index.index c.loop-index.values.items
    c.push.new.self.items c.of.result c.region_at.result (omega arith) c.region_at.ensures c.of.ensures c.in_ok-push.ensures.items
    c.loop-index.invariant

pub returns : goal.returns
returns c =
    no_more (byte_of c.args.store.now) c.args.head.now.place c.args.head.now.count c.loop-index.index c.loop-index.values.items
    (omega arith) c.loop-index.invariant
