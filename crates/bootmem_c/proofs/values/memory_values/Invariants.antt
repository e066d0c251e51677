-- The values so far, followed by those of the remaining records, are all values.
use Rattle.std.proofs.Common.{◌≡◌, ◌+◌, ◌-◌, ◌*◌, ◌++◌}
use Rattle.phys_store.specs.Bytes.{byte_of}
use Rattle.bootmem_c.specs.Values.{regions_at}
use Rattle.bootmem_c.proofs.values.memory_values.Given as goal

abbrev pub invariant-loop-index : goal.invariant-loop-index
invariant-loop-index l =
    l.values.items ++ regions_at (byte_of l.store) (l.head.place + 24 * l.index) (l.head.count - l.index)
    ≡ regions_at (byte_of l.store) l.head.place l.head.count
