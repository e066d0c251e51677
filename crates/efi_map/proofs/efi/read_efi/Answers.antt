use Rattle.std.proofs.Common.{◌≡◌, ◌<◌, None, refl, rules, arith}
use Rattle.efi_map.specs.Map.{descriptor_size, descriptor_count, descriptors_of, far_descriptor_from}
use Rattle.efi_map.proofs.DescriptorLaws.{counted, space_of_near}
use Rattle.efi_map.proofs.efi.read_efi.Goals as goal

pub returns-in_err-read_descriptors-clause-some : goal.returns-in_err-read_descriptors-clause-some
returns-in_err-read_descriptors-clause-some c = λ told.
    let some : 0 < c.in_ok-count.count = c.in_err-read_descriptors.ensures.some refl in
    let count : c.in_ok-count.count ≡ descriptor_count c.args.bytes.now = search rules in
    rw (counted (descriptor_size c.args.bytes.now) 0 (descriptor_count c.args.bytes.now) c.args.bytes.now) (omega arith)

pub returns-clause-space : goal.returns-clause-space
returns-clause-space c =
    let none : far_descriptor_from 0 (descriptors_of c.args.bytes.now) ≡ None = search rules in
    rw c.in_ok-read_descriptors.ensures.entries (search (rules, space_of_near 0 _ none))
