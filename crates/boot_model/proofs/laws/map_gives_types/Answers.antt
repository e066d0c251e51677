use Rattle.boot_model.specs.Boot.{boot, no_extra}
use Rattle.boot_model.proofs.BootLaws.{map_has_claimed_types, accepted_map_fits}
use Rattle.boot_model.proofs.laws.map_gives_types.Goals as goal

pub returns : goal.returns
unfolding boot
returns c = record { types = map_has_claimed_types no_extra; room = accepted_map_fits no_extra }
