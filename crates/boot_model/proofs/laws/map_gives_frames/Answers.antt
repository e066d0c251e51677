use Rattle.boot_model.specs.Boot.{boot, no_extra}
use Rattle.boot_model.proofs.BootLaws.{usable_lies, accepted_map_has_usable_frames}
use Rattle.boot_model.proofs.laws.map_gives_frames.Goals as goal

pub returns : goal.returns
unfolding boot
returns c = record {
  each = usable_lies no_extra;
  some = λ inputs made ends. (accepted_map_has_usable_frames no_extra inputs made ends).0;
  few = λ inputs made ends. (accepted_map_has_usable_frames no_extra inputs made ends).1;
}
