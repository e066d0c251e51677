use Rattle.std.proofs.Common.{length, map, arith}
use Rattle.phys_store.specs.Bytes.{byte_of}
use Rattle.phys_store.specs.Extents.{extent_view}
use Rattle.phys_store.proofs.ByteLists.{told_bytes}
use Rattle.phys_store.proofs.extents.read.Goals as goal

pub returns : goal.returns
returns c =
    told_bytes (byte_of (map extent_view c.args.extents.now)) c.args.at (length c.args.into.now) c.loop-k.into c.loop-k.auto.into
    (λ j less. c.loop-k.invariant j (omega arith))
