use Rattle.boot_model.specs.Boot.{no_extra}
use Rattle.conservation.proofs.HeadlineLaws.{no_other_in_a_block}
use Rattle.conservation.proofs.ToldLaws.{own_told}
use Rattle.conservation.proofs.laws.no_other_frame_is_in_a_block.Goals as goal

pub returns : goal.returns
returns c =
    record { own = λ inputs t ends. no_other_in_a_block no_extra inputs t (own_told t inputs ends); by_profile = no_other_in_a_block }
