-- The top place in mirrored memory, or else the one in any.
use Rattle.std.proofs.Common.{sym, ◌∙◌}
use Rattle.address_runs.specs.Runs.{value_at}
use Rattle.memblock_model.proofs.SearchLaws.{best_place_in-mirrored, best_place_in-other}
use Rattle.memblock_grow.proofs.places.best_place_in_tables.Goals as goal

pub returns-in-Some : goal.returns-in-Some
returns-in-Some c = sym (best_place_in-mirrored c.args.upward (value_at c.args.tables.now.memory.records)
    (value_at c.args.tables.now.reserved.records)
    c.args.query.now c.in-Some.place (sym c.mirrored_place.ensures ∙ c.in-Some.is))

pub returns : goal.returns
returns c = c.find.ensures ∙ sym (best_place_in-other c.args.upward (value_at c.args.tables.now.memory.records)
    (value_at c.args.tables.now.reserved.records) c.args.query.now (sym c.mirrored_place.ensures ∙ c.in_default.is))
