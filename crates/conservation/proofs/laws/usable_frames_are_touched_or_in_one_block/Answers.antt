use Rattle.boot_model.specs.Boot.{no_extra}
use Rattle.conservation.proofs.HeadlineLaws.{all_touched_or_in_one}
use Rattle.conservation.proofs.ToldLaws.{own_told}
use Rattle.conservation.proofs.laws.usable_frames_are_touched_or_in_one_block.Goals as goal

pub returns : goal.returns
returns c =
    record { own = λ inputs t ends. all_touched_or_in_one no_extra inputs t (own_told t inputs ends); by_profile = all_touched_or_in_one }
