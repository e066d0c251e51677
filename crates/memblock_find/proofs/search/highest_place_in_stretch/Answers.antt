use Rattle.std.proofs.Common.{◌≡◌, true, false, max, Some, arith}
use Rattle.std.proofs.lemmas.Grind.{common_steps}
use Rattle.memblock_find.specs.Places.{is_allowed_label}
use Rattle.memblock_find.proofs.PlaceLaws.{none_bare, none_served, best_of_stretch}
use Rattle.memblock_find.proofs.search.highest_place_in_stretch.Goals as goal

pub returns-in_default : goal.returns-in_default
returns-in_default c = λ memory reserved stays down.
    none_bare c.args.mirror memory reserved c.args.query.now c.args.from c.args.until c.args.label c.requires.some
    (record { stays = stays; down = down }) c.in_default.is

pub returns-then-not-is_allowed_label : goal.returns-then-not-is_allowed_label
returns-then-not-is_allowed_label c = λ memory reserved stays down.
    let refused : is_allowed_label c.args.mirror c.args.query.now.node (Some c.in-Some.found) ≡ false = grind (arith, common_steps) in
    none_served c.args.mirror memory reserved c.args.query.now c.args.from c.args.until c.args.label c.in-Some.found c.requires.some
    (record { stays = stays; down = down }) c.in-Some.is refused

pub returns : goal.returns
returns c = λ memory reserved stays down.
    let served : is_allowed_label c.args.mirror c.args.query.now.node (Some c.in-Some.found) ≡ true = grind (arith, common_steps) in
    let low : c.max.result ≡ max (max c.args.from c.args.query.now.lo) 4096 = grind (arith, common_steps) in
    best_of_stretch c.args.mirror memory reserved c.args.query.now c.args.from c.args.until c.args.label c.in-Some.found
    c.last_between.result
    c.requires.some c.requires.window (record { stays = stays; down = down }) c.in-Some.is served
    (rw low at c.last_between.ensures)
