-- If no item mirrors memory, the tables have no mirrored memory.
use Rattle.std.proofs.Common.{sym, ◌∙◌}
use Rattle.memblock_grow.proofs.RequestLaws.{node_attempts-mirrorless}
use Rattle.memblock_grow.proofs.request.mirrored_place.Goals as goal

pub returns-then-not-has_mirrors : goal.returns-then-not-has_mirrors
returns-then-not-has_mirrors c =
    sym (node_attempts-mirrorless c.args.journal.now.items c.args.tables.now c.args.aim.upward c.args.request.now
    c.args.aim.limit c.args.lo c.requires.mirrors (sym c.has_mirrors.ensures ∙ c.if-not-has_mirrors.true))
