-- The mirrored ranges of an EFI memory map are whole frames. If the reader runs out of memory, the
-- bytes have no fault.
use Rattle.boot_inputs.proofs.efi.EfiMapsReader.read.Goals as goal

pub invariant_of-inputs-clause-efi_mirrors_fit : goal.invariant_of-inputs-clause-efi_mirrors_fit
invariant_of-inputs-clause-efi_mirrors_fit c = rw c.in-Ok.ensures.answers at (c.mirrors_are_whole_frames.ensures.firmware c.args.bytes.now)
