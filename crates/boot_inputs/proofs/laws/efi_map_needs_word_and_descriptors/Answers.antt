use Rattle.boot_inputs.proofs.WithoutEfiLaws.{unasked, empty}
use Rattle.boot_inputs.proofs.laws.efi_map_needs_word_and_descriptors.Goals as goal

pub returns : goal.returns
returns c = record { unasked = unasked; empty = empty }
