use Rattle.std.proofs.Common.{map, refl, drop}
use Rattle.phys_store.specs.declared.extents.Extent.{Extent}
use Rattle.phys_store.specs.Extents.{extent_view}
use Rattle.phys_store.proofs.Widening.{stands, none_covered, same_piece}
use Rattle.phys_store.proofs.prepare.insert_extent.Goals as goal

pub returns-clause-ok : goal.returns-clause-ok
returns-clause-ok c =
    let es = c.args.extents.now.items in
    let e : Extent = record { base = c.args.low; front = 0; bytes = c.in_ok-bytes.bytes } in
    stands es c.insert.new.self.items e c.args.first c.args.first c.args.low c.args.high
    c.in_ok-insert.ensures.items
    (same_piece c.args.low c.args.low _ _ refl
    (none_covered (drop c.args.first (map extent_view es)) c.args.first c.args.low c.args.high e.bytes.items
    (c.in_ok-bytes.ensures.items_if_clones_equal (λ y same. same))))
