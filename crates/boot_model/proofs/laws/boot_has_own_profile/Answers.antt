use Rattle.std.proofs.Common.{refl}
use Rattle.boot_model.specs.Boot.{boot}
use Rattle.boot_model.proofs.laws.boot_has_own_profile.Goals as goal

pub returns : goal.returns
unfolding boot
returns c = record { made = λ inputs. refl; report = λ inputs. refl }
