use Rattle.sparse_sections.proofs.QuietLaws.{place_roots-memory, place_roots-limit}
use Rattle.sparse_sections.proofs.laws.place_roots_keeps_memory_and_limit.Goals as goal

pub returns : goal.returns
returns c = record { memory = place_roots-memory; limit = place_roots-limit }
