use Rattle.boot_model.specs.Boot.{no_extra}
use Rattle.conservation.proofs.HeadlineLaws.{blocks_whole}
use Rattle.conservation.proofs.ToldLaws.{own_told}
use Rattle.conservation.proofs.laws.blocks_are_whole.Goals as goal

pub returns : goal.returns
returns c = record { own = λ inputs t ends. blocks_whole no_extra inputs t (own_told t inputs ends); by_profile = blocks_whole }
