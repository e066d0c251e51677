use Rattle.std.proofs.Common.{◌≡◌, Bool, false, if◌then◌else◌, Option, Some, None, Result, Ok, Err, refl}
use Rattle.std.specs.Prelude.{OnOk}
use Rattle.bm_base.specs.declared.range.Range.{Range}
use Rattle.e820_table.specs.declared.zero_page.ZeroFault.{ZeroFault}
use Rattle.e820_table.specs.declared.zero_page.ZeroFault.TheVariants.{InitrdTooFar}
use Rattle.e820_table.specs.Initrd.{is_initrd_far}
use Rattle.e820_table.proofs.initrd.read_initrd.Goals as goal

-- if the reader succeeds, the initrd has no fault
no_fault : (r : Result (Option Range) ZeroFault) (far : Bool) → OnOk r (far ≡ false)
    → OnOk r ((if far then Some InitrdTooFar else None) ≡ None)
no_fault (Ok initrd) far near = rw near refl
no_fault (Err fault) far near = tt

pub returns-clause-well_formed : goal.returns-clause-well_formed
unfolding is_initrd_far
returns-clause-well_formed c =
    no_fault c.place_initrd.result (is_initrd_far c.args.bytes.now)
    (rw (c.read_halves-base.ensures, c.read_halves-size.ensures) at c.place_initrd.ensures.near)
