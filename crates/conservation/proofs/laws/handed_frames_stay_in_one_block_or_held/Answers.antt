use Rattle.boot_model.specs.Boot.{no_extra}
use Rattle.conservation.proofs.PagedLaws.{all_in_one_or_held, no_other_in_one_or_held}
use Rattle.conservation.proofs.ToldLaws.{own_told}
use Rattle.conservation.proofs.laws.handed_frames_stay_in_one_block_or_held.Goals as goal

pub returns : goal.returns
returns c = record {
  each = λ inputs t ends. all_in_one_or_held no_extra inputs t (own_told t inputs ends);
  others = λ inputs t ends. no_other_in_one_or_held no_extra inputs t (own_told t inputs ends);
  each_by_profile = all_in_one_or_held;
  others_by_profile = no_other_in_one_or_held;
}
