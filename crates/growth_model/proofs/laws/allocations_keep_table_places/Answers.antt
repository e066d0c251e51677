use Rattle.std.proofs.Common.{refl}
use Rattle.growth_model.specs.Request.{place_for}
use Rattle.growth_model.proofs.SoundLaws.{alloc-placed}
use Rattle.growth_model.proofs.laws.allocations_keep_table_places.Goals as goal

pub returns : goal.returns
returns c = λ kernel result old new request who placed ends.
    alloc-placed kernel result old new request who placed (place_for request old) refl ends
