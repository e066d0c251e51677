-- The limit of physical addresses is at most 2^52 and a multiple of the frame size.
use Rattle.std.proofs.Common.{◌≡◌, ◌%◌, ◌^◌, ◌≤◌, refl, arith}
use Rattle.bm_base.specs.Width.{address_limit_of}
use Rattle.bm_base.specs.declared.width.Width.{Width}
use Rattle.bm_base.specs.declared.width.Width.TheVariants.{Bits46, Bits52}
use Rattle.boot_model.specs.Boot.{InputsView, reach}

width-small : (width : Width) → address_limit_of width ≤ 2 ^ 52
width-small Bits46 = omega arith
width-small Bits52 = omega arith

width-whole : (width : Width) → address_limit_of width % 4096 ≡ 0
width-whole Bits46 = refl
width-whole Bits52 = refl

pub reach-small : (inputs : InputsView) → reach inputs ≤ 2 ^ 52
reach-small inputs = width-small inputs.width

pub reach-below : (inputs : InputsView) → reach inputs ≤ 2 ^ 64
reach-below inputs = let small : reach inputs ≤ 2 ^ 52 = reach-small inputs in omega (arith, small)

pub reach-whole : (inputs : InputsView) → reach inputs % 4096 ≡ 0
reach-whole inputs = width-whole inputs.width
