-- A section whose root isn't placed yet is the next step.
use Rattle.std.proofs.Common.{◌≡◌, ℕ, false, Some, Ok, get_or, sym, ◌∙◌, ap, arith}
use Rattle.std.proofs.lemmas.Result.{err_from_is_err_and}
use Rattle.memblock_grow.specs.declared.stop.Section.{Section}
use Rattle.stage_steps.specs.Causes.{error_of_stage_cause}
use Rattle.stage_steps.proofs.DoingLaws.{ends-begun}
use Rattle.memblock_grow.proofs.GoingLaws.{goes-then}
use Rattle.sparse_sections.specs.Roots.{root_of, is_last_root, place_root}
use Rattle.sparse_sections.proofs.RootLaws.{no_section, goes-first, goes-same, goes-next, goes-fails, goes-all}
use Rattle.sparse_sections.proofs.places.place_each_root.Goals as goal
use Rattle.sparse_sections.proofs.places.place_each_root.Goals.{then-not-is_last_root+in_ok-place_root, else-not-is_last_root}

pub loop-section-init : goal.loop-section-init
loop-section-init c = record {
  goes = goes-first c.args.memblock.now.journal.items c.args.sections.now c.in_ok-roots.roots.items c.in_ok-roots.ensures.empty;
  room = omega (arith, c.in_ok-roots.ensures.room);
  begun = c.requires;
  goes_on = c.no_items_no_change.ensures;
}

pub returns-in_err-place_root : goal.returns-in_err-place_root
returns-in_err-place_root c =
    let p = err_from_is_err_and c.from_residual-in_err-place_root.result c.from_residual-in_err-place_root.ensures.1 in
    let other = ap (is_last_root c.loop-section.last) (sym c.root_of-root.ensures) ∙ sym c.is_last_root.ensures
    ∙ c.if-not-is_last_root.true in
    record {
      ends = rw (p.1, p.2) (goes-fails c.in_err-place_root.field-0.0 c.args.memblock.now.journal.items c.args.sections.now
          c.loop-section.memblock.journal.items c.place_root.new.memblock.journal.items c.loop-section.roots.items c.loop-section.last
          c.loop-section.section-index no_section c.loop-section-test.true other c.in_err-place_root.ensures.ends
          c.loop-section.invariant.goes);
      goes_on = goes-then c.args.memblock.now c.loop-section.memblock c.place_root.new.memblock c.loop-section.invariant.goes_on
          c.in_err-place_root.ensures.goes_on;
    }

pub loop-section-preserved : goal.loop-section-preserved
loop-section-preserved c =
    let entry = c.args.memblock.now.journal.items in
    let sections = c.args.sections.now in
    let i = c.loop-section.section-index in
    let last = c.loop-section.last in
    let now = c.loop-section.memblock.journal.items in
    let before = c.loop-section.roots.items in
    let s : Section = get_or sections i no_section in
    let told : is_last_root last (root_of s) ≡ c.is_last_root.result =
    ap (is_last_root last) (sym c.root_of-root.ensures) ∙ sym c.is_last_root.ensures in
    elim c.if-not-is_last_root.branch [
      | then-not-is_last_root+in_ok-place_root w ↦
          let mid = w.place_root.new.memblock.journal.items in
          let is : c.if-not-is_last_root.last ≡ Some (root_of s) = w.last-is ∙ ap (λ (n : ℕ). Some n) c.root_of-root.ensures in
          rw (w.memblock-is, w.roots-is, is) (record {
            goes = goes-next entry sections now mid before w.place_root.new.roots.items last i no_section c.loop-section-test.true
                (told ∙ w.if-not-is_last_root.true) w.in_ok-place_root.ensures.ends c.loop-section.invariant.goes;
            room = omega (arith, w.place_root.ensures.len, w.place_root.ensures.capacity, c.loop-section.invariant.room);
            begun = ends-begun (Ok w.place_root.new.roots.items) error_of_stage_cause now mid (place_root before s)
                c.loop-section.invariant.begun w.in_ok-place_root.ensures.ends;
            goes_on = goes-then c.args.memblock.now c.loop-section.memblock w.place_root.new.memblock c.loop-section.invariant.goes_on
                w.in_ok-place_root.ensures.goes_on;
          })
      | else-not-is_last_root w ↦
          rw (w.memblock-is, w.roots-is, w.last-is) (record {
            goes = goes-same entry sections now before last i no_section c.loop-section-test.true (told ∙ w.if-not-is_last_root.false)
                c.loop-section.invariant.goes;
            room = omega (arith, c.loop-section.invariant.room);
            begun = c.loop-section.invariant.begun;
            goes_on = c.loop-section.invariant.goes_on;
          })
    ]

pub returns-clause-ends : goal.returns-clause-ends
returns-clause-ends c =
    goes-all c.args.memblock.now.journal.items c.args.sections.now c.loop-section.memblock.journal.items c.loop-section.roots.items
    c.loop-section.last c.loop-section.section-index c.loop-section-test.false c.loop-section.invariant.goes
