use Rattle.std.proofs.lemmas.List.{map-id}
use Rattle.buddy_handover.proofs.NodeLaws.{same_number, number_tells}
use Rattle.buddy_handover.proofs.PutLaws.{low_put, in_space}
use Rattle.buddy_handover.proofs.runs.insert_frames.Goals as goal

pub edit_without_cover-requires-clause-within : goal.edit_without_cover-requires-clause-within
edit_without_cover-requires-clause-within c = rw (map-id c.args.runs.now.items) (in_space c.args.runs.now.items c.requires.within)

pub edit_without_cover-requires-clause-tells : goal.edit_without_cover-requires-clause-tells
edit_without_cover-requires-clause-tells c = (same_number, number_tells)

pub returns-clause-runs : goal.returns-clause-runs
returns-clause-runs c = rw (map-id c.args.runs.now.items, map-id c.edit_without_cover.new.table.items) at c.edit_without_cover.ensures.list

pub returns-clause-within : goal.returns-clause-within
returns-clause-within c =
    low_put c.args.frames.now c.args.node c.args.runs.now.items c.edit_without_cover.new.table.items c.requires.low c.requires.within
    (rw (map-id c.args.runs.now.items, map-id c.edit_without_cover.new.table.items) at c.edit_without_cover.ensures.list)
