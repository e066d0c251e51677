-- The roots are placed, and then the section maps.
use Rattle.std.proofs.Common.{◌≡◌, ◌∙◌, ◌^◌, List, ap, sym, subst, arith}
use Rattle.std.specs.List.{All}
use Rattle.address_runs.specs.Runs.{RunOf, value_at}
use Rattle.memblock_model.specs.declared.item.Item.{Item}
use Rattle.memblock_model.specs.declared.owner.Which.TheVariants as which
use Rattle.memblock_model.specs.Items.{memory_of}
use Rattle.memblock_model.specs.Labels.{LabelView}
use Rattle.memblock_model.specs.Tables.{records_of}
use Rattle.memblock_ranges.specs.Tables.{TableView}
use Rattle.memblock_grow.proofs.GoingLaws.{goes-then}
use Rattle.sparse_sections.specs.Present.{IsWholeFramesWithNode, present}
use Rattle.sparse_sections.proofs.AscendLaws.{present-ascends}
use Rattle.sparse_sections.proofs.NodedLaws.{noded-records, noded-runs, noded-told}
use Rattle.boot_stages.proofs.ExitLaws.{exit}
use Rattle.boot_stages.proofs.PlaceLaws.{places-all, places-first, places-second, places-wanting}
use Rattle.boot_stages.proofs.later.place_sections.Goals as goal
use Rattle.boot_stages.proofs.later.place_sections.Goals.{After-deref}

-- the sections that `present` lists are those of memory
listed : (c : After-deref) → c.deref.result.now ≡ present (memory_of c.args.memblock.now.journal.items)
listed c =
    c.deref.ensures.value ∙ c.in_ok-sections.ensures ∙ ap (λ (t : TableView). present (value_at t.records)) c.tables.ensures.memory
    ∙ ap present (noded-told (2 ^ 52) c.args.memblock.now.journal.items (omega arith) c.requires.noded)

pub present-requires : goal.present-requires
present-requires c =
    let items : List Item = c.args.memblock.now.journal.items in
    let whole : All IsWholeFramesWithNode (records_of which.Memory items) =
    noded-records (memory_of items) (records_of which.Memory items) (noded-runs (2 ^ 52) items (omega arith) c.requires.noded)
    c.requires.noded in
    subst (λ (rs : List (RunOf LabelView)). All IsWholeFramesWithNode rs)
    (sym (ap (λ (t : TableView). t.records) c.tables.ensures.memory)) whole

pub returns-in_err-sections-clause-ends : goal.returns-in_err-sections-clause-ends
returns-in_err-sections-clause-ends c =
    places-wanting c.args.width c.from_residual.result c.args.memblock.now.journal.items (exit _ _ c.from_residual.ensures.1)

pub returns-in_err-roots-clause-ends : goal.returns-in_err-roots-clause-ends
returns-in_err-roots-clause-ends c =
    places-first c.args.width _ _ _ _ (listed (goal.at.returns-in_err-roots-clause-ends c).After-deref) c.in_err-roots.field-0.0
    (exit _ _ c.from_residual-in_err-roots.ensures.1) c.in_err-roots.ensures.ends

pub place_maps-requires-clause-ascend : goal.place_maps-requires-clause-ascend
place_maps-requires-clause-ascend c =
    rw (c.deref-2.ensures.value ∙ c.in_ok-sections.ensures) (present-ascends (value_at c.tables.result.now.memory.records)).ascend

pub returns-in_err-placed-clause-ends : goal.returns-in_err-placed-clause-ends
returns-in_err-placed-clause-ends c =
    let same : c.deref-2.result.now ≡ c.deref.result.now = c.deref-2.ensures.value ∙ sym c.deref.ensures.value in
    places-second c.args.width _ _ _ _ (listed (goal.at.returns-in_err-placed-clause-ends c).After-deref) c.in_err-placed.field-0.0 _ _
    (exit _ _ c.from_residual-in_err-placed.ensures.1) c.in_ok-roots.ensures.ends (rw (← same) c.in_err-placed.ensures.ends)

pub returns-in_err-placed-clause-goes_on : goal.returns-in_err-placed-clause-goes_on
returns-in_err-placed-clause-goes_on c = goes-then _ _ _ c.in_ok-roots.ensures.goes_on c.in_err-placed.ensures.goes_on

pub returns-clause-ends : goal.returns-clause-ends
returns-clause-ends c =
    let same : c.deref-2.result.now ≡ c.deref.result.now = c.deref-2.ensures.value ∙ sym c.deref.ensures.value in
    places-all c.args.width _ _ _ _ _ _ (listed (goal.at.returns-clause-ends c).After-deref) c.in_ok-roots.ensures.ends
    (rw (← same) c.in_ok-placed.ensures.ends)

pub returns-clause-goes_on : goal.returns-clause-goes_on
returns-clause-goes_on c = goes-then _ _ _ c.in_ok-roots.ensures.goes_on c.in_ok-placed.ensures.goes_on
