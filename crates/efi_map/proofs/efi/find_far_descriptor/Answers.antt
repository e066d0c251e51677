use Rattle.std.proofs.Common.{◌≡◌, true, false, arith, sym, ◌∙◌}
use Rattle.std.proofs.lemmas.Bool.Decides.{nat_tests}
use Rattle.std.proofs.lemmas.Grind.{common_steps}
use Rattle.efi_map.specs.Descriptors.{is_descriptor_too_far}
use Rattle.efi_map.specs.Map.{nth_descriptor}
use Rattle.efi_map.proofs.DescriptorLaws.{far_hit, far_miss, far_end}
use Rattle.efi_map.proofs.efi.find_far_descriptor.Goals as goal

pub loop-index-preserved : goal.loop-index-preserved
loop-index-preserved c =
    let near : is_descriptor_too_far (nth_descriptor c.args.stride c.loop-index.index c.args.bytes.now) ≡ false =
    rw (← c.nth_descriptor.ensures) (grind (arith, nat_tests, common_steps)) in
    sym (far_miss c.args.stride c.loop-index.index c.args.count c.args.bytes.now (omega arith) near) ∙ c.loop-index.invariant

pub returns-then-is_none : goal.returns-then-is_none
returns-then-is_none c =
    let far : is_descriptor_too_far (nth_descriptor c.args.stride c.loop-index.index c.args.bytes.now) ≡ true =
    rw (← c.nth_descriptor.ensures) (grind (arith, nat_tests, common_steps)) in
    sym (far_hit c.args.stride c.loop-index.index c.args.count c.args.bytes.now (omega arith) far) ∙ c.loop-index.invariant

pub returns : goal.returns
returns c = sym (far_end c.args.stride c.loop-index.index c.args.count c.args.bytes.now (omega arith)) ∙ c.loop-index.invariant
