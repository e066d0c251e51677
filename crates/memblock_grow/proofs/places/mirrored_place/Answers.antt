-- If no item mirrors memory, the tables have no mirrored memory.
use Rattle.std.proofs.Common.{sym, ◌∙◌}
use Rattle.memblock_grow.proofs.PlaceLaws.{top_place-mirrorless}
use Rattle.memblock_grow.proofs.places.mirrored_place.Goals as goal

pub returns-then-not-has_mirrors : goal.returns-then-not-has_mirrors
returns-then-not-has_mirrors c = sym (top_place-mirrorless c.args.journal.now.items c.args.tables.now c.args.upward c.args.query.now
    c.requires.mirrors (sym c.has_mirrors.ensures ∙ c.if-not-has_mirrors.true))
