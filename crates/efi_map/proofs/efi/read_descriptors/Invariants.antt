use Rattle.std.proofs.Common.{◌≡◌, ◌-◌, ◌++◌, map, None}
use Rattle.efi_map.specs.Descriptors.{entry_of_descriptor}
use Rattle.efi_map.specs.Map.{descriptors_from, far_descriptor_from, mirrors_of_descriptors}
use Rattle.efi_map.proofs.efi.read_descriptors.Given as goal

abbrev pub invariant-loop-index : goal.invariant-loop-index
invariant-loop-index l =
    (far_descriptor_from l.index (descriptors_from l.stride l.index (l.count - l.index) l.bytes) ≡ None)
    × (l.entries.items ++ map entry_of_descriptor (descriptors_from l.stride l.index (l.count - l.index) l.bytes)
    ≡ map entry_of_descriptor (descriptors_from l.stride 0 l.count l.bytes))
    × (l.mirrors.items ++ mirrors_of_descriptors (descriptors_from l.stride l.index (l.count - l.index) l.bytes)
    ≡ mirrors_of_descriptors (descriptors_from l.stride 0 l.count l.bytes))
