use Rattle.std.proofs.Common.{◌≡◌, true, false, min, Some, arith}
use Rattle.std.proofs.lemmas.Grind.{common_steps}
use Rattle.memblock_find.specs.Places.{is_allowed_label}
use Rattle.memblock_find.proofs.BottomLaws.{none_begins_bare, none_begins_refused, first_of_stretch}
use Rattle.memblock_find.proofs.bottom.lowest_place_in_stretch.Goals as goal

pub returns-in_default : goal.returns-in_default
returns-in_default c = λ memory reserved stays up.
    none_begins_bare c.args.mirror memory reserved c.args.query.now c.args.from c.args.until c.args.label c.requires.some
    (record { stays = stays; up = up }) c.in_default.is

pub returns-then-not-is_allowed_label : goal.returns-then-not-is_allowed_label
returns-then-not-is_allowed_label c = λ memory reserved stays up.
    let refused : is_allowed_label c.args.mirror c.args.query.now.node (Some c.in-Some.found) ≡ false = grind (arith, common_steps) in
    none_begins_refused c.args.mirror memory reserved c.args.query.now c.args.from c.args.until c.args.label c.in-Some.found c.requires.some
    (record { stays = stays; up = up }) c.in-Some.is refused

pub returns : goal.returns
returns c = λ memory reserved stays up.
    let served : is_allowed_label c.args.mirror c.args.query.now.node (Some c.in-Some.found) ≡ true = grind (arith, common_steps) in
    let window = c.requires.window in
    let high : c.min.result ≡ min c.args.until c.args.query.now.hi = grind (arith, common_steps) in
    first_of_stretch c.args.mirror memory reserved c.args.query.now c.args.from c.args.until c.args.label c.in-Some.found
    c.first_between.result
    c.requires.some (omega arith) (omega arith) (record { stays = stays; up = up }) c.in-Some.is served
    (rw high at c.first_between.ensures)
