-- The search over the tables is that over the items.
use Rattle.std.proofs.Common.{sym, ◌∙◌, ap}
use Rattle.memblock_model.specs.Search.{best_place}
use Rattle.memblock_grow.specs.MemblockView.{MemblockView}
use Rattle.memblock_grow.proofs.GoingLaws.{place-away}
use Rattle.memblock_grow.proofs.PlaceLaws.{best_place-is, knows-mirrors}
use Rattle.memblock_grow.proofs.memblock.Memblock.find.Goals as goal

pub best_place_in_tables-requires-clause-mirrors : goal.best_place_in_tables-requires-clause-mirrors
best_place_in_tables-requires-clause-mirrors c = knows-mirrors c.self.invariant.kept

pub returns-clause-place : goal.returns-clause-place
returns-clause-place c =
    c.best_place_in_tables.ensures ∙ best_place-is c.self.invariant.kept c.args.query.now
    ∙ ap (λ (v : MemblockView). best_place v.journal.items c.args.query.now) c.self.view_is

pub returns-clause-away : goal.returns-clause-away
returns-clause-away c =
    rw (sym c.self.view_is) (λ begun. place-away _ _ c.args.query.now c.best_place_in_tables.result (c.self.invariant.placed begun)
    (c.best_place_in_tables.ensures ∙ best_place-is c.self.invariant.kept c.args.query.now))
