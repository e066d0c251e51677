use Rattle.growth_model.specs.Growth.{add_range, set_range_node, set_range_mirror}
use Rattle.growth_model.specs.Tables.{TablesAreClaimed}
use Rattle.growth_model.proofs.CutLaws.{cuts-ends}
use Rattle.growth_model.proofs.PlacedMemoryLaws.{add_range-cuts, set_range_node-cuts, set_range_mirror-cuts}
use Rattle.growth_model.proofs.laws.memory_edits_keep_table_places.Goals as goal

pub returns-clause-added : goal.returns-clause-added
returns-clause-added c = λ kernel result old new range placed ends.
    cuts-ends (TablesAreClaimed kernel) result old new (add_range range old) (add_range-cuts kernel old range placed) ends

pub returns-clause-noded : goal.returns-clause-noded
returns-clause-noded c = λ kernel result old new range node placed ends.
    cuts-ends (TablesAreClaimed kernel) result old new (set_range_node range node old)
    (set_range_node-cuts kernel old range node placed) ends

pub returns-clause-mirrored : goal.returns-clause-mirrored
returns-clause-mirrored c = λ kernel result old new range placed ends.
    cuts-ends (TablesAreClaimed kernel) result old new (set_range_mirror range old) (set_range_mirror-cuts kernel old range placed) ends
