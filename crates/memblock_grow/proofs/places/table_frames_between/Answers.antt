use Rattle.std.proofs.Common.{◌≡◌, ◌*◌, refl, sym, ◌∙◌, arith}
use Rattle.growth_model.specs.Growth.{round_up_to_frames}
use Rattle.memblock_grow.proofs.PlaceLaws.{between-none, between-some}
use Rattle.memblock_grow.proofs.places.table_frames_between.Goals as goal

pub best_place_in_tables-requires-clause-aligned : goal.best_place_in_tables-requires-clause-aligned
best_place_in_tables-requires-clause-aligned c = (12, refl)

pub returns-in_err-checked_mul : goal.returns-in_err-checked_mul
returns-in_err-checked_mul c =
    let large = c.in_err-checked_mul.ensures in
    c.from_residual.ensures ∙ between-none c.args.tables.now _ c.args.room _ _ c.ranges.hi.fits (λ small. large (omega arith))

pub returns-in_err-size : goal.returns-in_err-size
returns-in_err-size c =
    let large = c.in_err-size.ensures in
    let bytes : c.in_ok-checked_mul.field-0 ≡ 48 * c.args.room = let is = c.in_ok-checked_mul.ensures in omega arith in
    c.from_residual-in_err-size.ensures
    ∙ between-none c.args.tables.now _ c.args.room _ _ c.ranges.hi.fits (λ small. large (rw bytes (omega (arith, small))))

pub returns : goal.returns
returns c =
    let bytes : c.in_ok-checked_mul.field-0 ≡ 48 * c.args.room = let is = c.in_ok-checked_mul.ensures in omega arith in
    let size : c.in_ok-size.size ≡ round_up_to_frames (48 * c.args.room) = let is = c.in_ok-size.ensures in omega arith in
    between-some c.args.tables.now _ c.args.room _ _ c.in_ok-size.size c.in_ok-base.base c.new.result size
    (sym c.best_place_in_tables.ensures ∙ c.in_ok-base.was) c.new.ensures c.ranges.hi.fits
