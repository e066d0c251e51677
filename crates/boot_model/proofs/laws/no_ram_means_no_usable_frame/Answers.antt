use Rattle.boot_model.specs.Boot.{boot, no_extra}
use Rattle.boot_model.proofs.RamLaws.{no_ram_told}
use Rattle.boot_model.proofs.laws.no_ram_means_no_usable_frame.Goals as goal

pub returns : goal.returns
unfolding boot
returns c = no_ram_told no_extra
