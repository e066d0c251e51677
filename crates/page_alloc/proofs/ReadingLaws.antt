-- Lemma: the orders in the lines that were read are at most 10.
use Rattle.std.proofs.Common.{List, [], ◌∷◌}
use Rattle.std.specs.List.{All}
use Rattle.std.proofs.lemmas.List.Elements.{All-head, All-tail}
use Rattle.page_alloc.specs.declared.act.PageLine.{PageLine}
use Rattle.page_alloc.specs.Pages.{HasValidOrder, HaveValidOrders}

abbrev IsSmall : PageLine → Type 0
IsSmall line = HasValidOrder line.act

pub have_orders : (lines : List PageLine) → All IsSmall lines → HaveValidOrders lines
have_orders [] all = tt
have_orders (line ∷ lines) all = (All-head IsSmall line lines all, have_orders lines (All-tail IsSmall line lines all))
