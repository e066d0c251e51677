use Rattle.std.proofs.Common.{◌≡◌, ◌+◌, ◌-◌, ◌≤◌, ◌^◌, None, bit_and, refl, arith}
use Rattle.std.proofs.lemmas.Grind.{common_steps}
use Rattle.memblock_find.proofs.BottomLaws.{first_is, none_first}
use Rattle.memblock_find.proofs.bottom.first_between.Goals as goal

pub returns-in_err-place : goal.returns-in_err-place
returns-in_err-place c =
    let none : c.from_residual-in_err-place.result ≡ None = grind (arith, common_steps) in
    let over : 2 ^ 64 ≤ c.args.low + bit_and (c.args.align - bit_and c.args.low (c.args.align - 1)) (c.args.align - 1) =
    grind (arith, common_steps) in
    rw none (none_first c.args.low c.args.high c.args.size c.args.align c.requires.0 _ c.requires.1 refl (omega arith))

pub returns-then-place-top : goal.returns-then-place-top
returns-then-place-top c =
    let top : c.in_ok-top.top + c.args.size ≡ c.args.high = grind (arith, common_steps) in
    first_is c.args.low c.args.high c.args.size c.args.align c.requires.0 c.in_ok-place.place c.requires.1
    (grind (arith, common_steps)) (omega arith)

pub returns-else-place-top : goal.returns-else-place-top
returns-else-place-top c =
    let top : c.in_ok-top.top + c.args.size ≡ c.args.high = grind (arith, common_steps) in
    none_first c.args.low c.args.high c.args.size c.args.align c.requires.0 c.in_ok-place.place c.requires.1
    (grind (arith, common_steps)) (omega arith)
