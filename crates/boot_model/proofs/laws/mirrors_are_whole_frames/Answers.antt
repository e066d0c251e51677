use Rattle.boot_model.proofs.MirrorLaws.{cut-mirrors, efi-mirrors}
use Rattle.boot_model.proofs.laws.mirrors_are_whole_frames.Goals as goal

pub returns : goal.returns
returns c = record { cut = cut-mirrors; firmware = efi-mirrors }
