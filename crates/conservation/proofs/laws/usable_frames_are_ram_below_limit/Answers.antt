use Rattle.boot_model.specs.Boot.{no_extra}
use Rattle.conservation.proofs.MapLaws.{usable_mapped}
use Rattle.conservation.proofs.ToldLaws.{own_told}
use Rattle.conservation.proofs.laws.usable_frames_are_ram_below_limit.Goals as goal

pub returns : goal.returns
returns c = record {
  own = λ inputs t frame ends. usable_mapped no_extra inputs t frame (own_told t inputs ends);
  by_profile = usable_mapped;
}
