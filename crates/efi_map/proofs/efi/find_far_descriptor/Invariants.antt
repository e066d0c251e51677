use Rattle.std.proofs.Common.{◌≡◌, ◌-◌}
use Rattle.efi_map.specs.Map.{descriptors_from, far_descriptor_from}
use Rattle.efi_map.proofs.efi.find_far_descriptor.Given as goal

abbrev pub invariant-loop-index : goal.invariant-loop-index
invariant-loop-index l = far_descriptor_from l.index (descriptors_from l.stride l.index (l.count - l.index) l.bytes)
    ≡ far_descriptor_from 0 (descriptors_from l.stride 0 l.count l.bytes)
