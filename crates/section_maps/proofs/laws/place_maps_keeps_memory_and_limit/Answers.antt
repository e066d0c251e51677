use Rattle.section_maps.proofs.QuietLaws.{place_maps-memory, place_maps-limit}
use Rattle.section_maps.proofs.laws.place_maps_keeps_memory_and_limit.Goals as goal

pub returns-clause-memory : goal.returns-clause-memory
returns-clause-memory c = place_maps-memory

pub returns-clause-limit : goal.returns-clause-limit
returns-clause-limit c = place_maps-limit
