use Rattle.std.proofs.Common.{refl}
use Rattle.memblock_grow.proofs.ReservedLaws.{still-bytes}
use Rattle.memblock_grow.proofs.memory.free_old_place.Goals as goal

pub returns-in_default-clause-bytes : goal.returns-in_default-clause-bytes
returns-in_default-clause-bytes c = still-bytes c.args.tables.now refl (λ x. refl)
