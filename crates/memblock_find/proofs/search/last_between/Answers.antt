use Rattle.std.proofs.Common.{◌≡◌, ◌-◌, ◌≤◌, refl, arith}
use Rattle.std.proofs.lemmas.Grind.{common_steps}
use Rattle.memblock_find.proofs.PlaceLaws.{last_is, none_last}
use Rattle.memblock_find.proofs.search.last_between.Goals as goal

pub returns-then-low-place : goal.returns-then-low-place
returns-then-low-place c =
    let room : c.args.size ≤ c.args.high = grind (arith, common_steps) in
    let top : c.in_ok-top.top ≡ c.args.high - c.args.size = grind (arith, common_steps) in
    last_is c.args.low c.args.high c.args.size c.args.align c.requires.0 c.in_ok-top.top _ c.requires.1 room top refl (omega arith)

pub returns-else-low-place : goal.returns-else-low-place
returns-else-low-place c =
    let room : c.args.size ≤ c.args.high = grind (arith, common_steps) in
    let top : c.in_ok-top.top ≡ c.args.high - c.args.size = grind (arith, common_steps) in
    none_last c.args.low c.args.high c.args.size c.args.align c.requires.0 c.in_ok-top.top _ c.requires.1 room top refl (omega arith)
