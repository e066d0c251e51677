use Rattle.boot_model.specs.Boot.{boot, no_extra}
use Rattle.boot_model.proofs.MemoryLaws.{limit_is_memory_end, booted_memory_is_usable}
use Rattle.boot_model.proofs.laws.map_gives_memory.Goals as goal

pub returns : goal.returns
unfolding boot
returns c = record { memory = booted_memory_is_usable no_extra; limit = limit_is_memory_end no_extra }
