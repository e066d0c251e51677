use Rattle.std.proofs.Common.{◌≡◌, ◌+◌, Some, sym, ◌∙◌, ap}
use Rattle.bm_base.specs.Range.{RangeView}
use Rattle.crash_kernel.proofs.PlaceLaws.{exact-base, fixed-found, fixed-fails}
use Rattle.crash_kernel.proofs.places.fixed_range.Goals as goal
use Rattle.crash_kernel.proofs.places.fixed_range.Goals.{After-end}

-- the window ends where the range ends
end_is : (c : After-end) → c.end.result ≡ c.args.base + c.args.size
end_is c = c.end.ensures.value ∙ ap (λ (r : RangeView). r.base + r.size) c.in_ok-range.ensures.1

pub returns-in_err-find-clause-range : goal.returns-in_err-find-clause-range
returns-in_err-find-clause-range c =
    let none = rw (end_is (goal.at.returns-in_err-find-clause-range c).After-end) at (sym c.in_err-find.ensures.place) in
    c.from_residual-in_err-find.ensures
    ∙ sym (fixed-fails c.args.memblock.now.journal.items c.args.size c.args.base c.if-base-ne0.false c.in_ok-range.ensures.0 none)

pub returns-clause-range : goal.returns-clause-range
returns-clause-range c =
    let found = rw (end_is (goal.at.returns-clause-range c).After-end) at (sym c.in_ok-find.ensures.place) in
    ap (λ (r : RangeView). Some r) c.in_ok-range.ensures.1
    ∙ sym (fixed-found c.args.memblock.now.journal.items c.args.size c.args.base c.in_ok-find.field-0 c.if-base-ne0.false
    c.in_ok-range.ensures.0 found)

pub returns-clause-away : goal.returns-clause-away
returns-clause-away c =
    let found = rw (end_is (goal.at.returns-clause-away c).After-end) at (sym c.in_ok-find.ensures.place) in
    rw (c.in_ok-range.ensures.1, ← exact-base c.args.memblock.now.journal.items c.args.size c.args.base c.in_ok-find.field-0 found)
    (c.in_ok-find.ensures.away c.requires.begun)
