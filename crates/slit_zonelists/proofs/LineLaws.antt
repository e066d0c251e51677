-- A request near a node is a request to one zone, or changes nothing. Lines go on from the state
-- that those before them left.
use Rattle.std.proofs.Common.{◌≡◌, ℕ, ◌≤◌, true, false, Option, Some, None, IsSome, Result, Ok, Err, OnErr, List, [], ◌∷◌, ◌++◌, refl, sym, ◌∙◌, ap, subst, append_assoc, arith}
use Rattle.std.specs.List.{All}
use Rattle.std.proofs.lemmas.List.Elements.{All-tail}
use Rattle.buddy_blocks.specs.Frames.{Frames}
use Rattle.page_alloc.specs.declared.act.PageAct.{PageAct}
use Rattle.page_alloc.specs.declared.act.PageAct.TheVariants as acts
use Rattle.page_alloc.specs.declared.act.PageLine.{PageLine}
use Rattle.page_alloc.specs.declared.outcome.Held.{Held}
use Rattle.page_alloc.specs.declared.outcome.PageOutcome.{PageOutcome}
use Rattle.page_alloc.specs.declared.outcome.PageAnswer.{PageAnswer}
use Rattle.page_alloc.specs.Pages.{PageState, HasValidOrder, HaveValidOrders, NeedsMemory}
use Rattle.page_alloc.proofs.BookLaws.{served_takes}
use Rattle.page_alloc.proofs.KeptLaws.{Goes, step_goes}
use Rattle.slit_zonelists.specs.declared.order.ListZone.{ListZone}
use Rattle.slit_zonelists.specs.Lists.{ZoneListsView, zone_list_of}
use Rattle.slit_zonelists.specs.Near.{has_block, first_zone, take_from_zone, take_from_nearest, page_step_by_distance, page_answers_of, page_state_after}
use Rattle.slit_zonelists.proofs.ListLaws.{found_passes}

-- the first zone that has a block
pub first_is : (s : PageState) (order : ℕ) (before : List ListZone) (z : ListZone) (after : List ListZone) → has_block s order z ≡ true
    → All (λ y. has_block s order y ≡ false) before → first_zone s order (before ++ z ∷ after) ≡ Some z
first_is s order [] z after has none = rw has refl
first_is s order (y ∷ ys) z after has none =
    rw (none 0 y (omega arith)) (first_is s order ys z after has (All-tail (λ y. has_block s order y ≡ false) y ys none))

-- no zone has a block
pub first_none : (s : PageState) (order : ℕ) (zs : List ListZone) → All (λ y. has_block s order y ≡ false) zs → first_zone s order zs ≡ None
first_none s order [] none = refl
first_none s order (y ∷ ys) none =
    rw (none 0 y (omega arith)) (first_none s order ys (All-tail (λ y. has_block s order y ≡ false) y ys none))

-- a request that a zone serves needs memory
zone_takes : (s : PageState) (id order : ℕ) (zs : List ListZone) (o : Option ListZone) → first_zone s order zs ≡ o → s.held id ≡ None
    → IsSome o
    → NeedsMemory (take_from_zone s id order o).0
zone_takes s id order zs None is none some = cc some
zone_takes s id order zs (Some z) is none some =
    served_takes s id order z.node z.zone none (found_passes (has_block s order) zs z is)

-- a request near a node needs memory too, if a zone in the list serves it
pub near_takes : (k : ZoneListsView) (s : PageState) (id order node : ℕ) → s.held id ≡ None
    → IsSome (first_zone s order (zone_list_of k node))
    → NeedsMemory (page_step_by_distance k s (acts.Near id order node)).0
near_takes k s id order node none some =
    subst (λ (o : Option Held). NeedsMemory (take_from_nearest s id order (zone_list_of k node) o).0) (sym none)
    (zone_takes s id order (zone_list_of k node) (first_zone s order (zone_list_of k node)) refl none some)

-- a consequence of what holds of each error
pub err_then : {X E : Type 0} → (r : Result X E) (P Q : Type 0) → (P → Q) → OnErr r P → OnErr r Q
err_then (Ok x) P Q then holds = tt
err_then (Err e) P Q then holds = then holds

-- free frames stay apart from those that are held, after a request near a node
near_goes : (f : Frames) (s : PageState) (id order : ℕ) (o : Option ListZone) → order ≤ 10 → Goes f s
    → Goes f (take_from_zone s id order o).1
near_goes f s id order None small goes = goes
near_goes f s id order (Some z) small goes = step_goes f s (acts.Pages id order z.node z.zone) small goes

asked_goes : (f : Frames) (s : PageState) (id order : ℕ) (zs : List ListZone) (o : Option Held) → order ≤ 10 → Goes f s
    → Goes f (take_from_nearest s id order zs o).1
asked_goes f s id order zs (Some what) small goes = goes
asked_goes f s id order zs None small goes = near_goes f s id order (first_zone s order zs) small goes

step_with_goes : (k : ZoneListsView) (f : Frames) (s : PageState) (act : PageAct) → HasValidOrder act → Goes f s
    → Goes f (page_step_by_distance k s act).1
step_with_goes k f s (acts.Pages id order node zone) small goes = step_goes f s (acts.Pages id order node zone) small goes
step_with_goes k f s (acts.Near id order node) small goes = asked_goes f s id order (zone_list_of k node) (s.held id) small goes
step_with_goes k f s (acts.Give id) small goes = step_goes f s (acts.Give id) small goes

-- free frames stay apart from those that are held, after any lines
pub after_goes : (k : ZoneListsView) (f : Frames) (s : PageState) (ls : List PageLine) → HaveValidOrders ls → Goes f s
    → Goes f (page_state_after k s ls)
after_goes k f s [] orders goes = goes
after_goes k f s (l ∷ ls) orders goes =
    after_goes k f (page_step_by_distance k s l.act).1 ls orders.1 (step_with_goes k f s l.act orders.0 goes)

-- one more line, and the lines after it
pub answers_on : (k : ZoneListsView) (s t : PageState) (l : PageLine) (ls : List PageLine) (told : List PageAnswer) (o : PageOutcome)
    → (let p : PageOutcome × PageState = (o, t) in p) ≡ page_step_by_distance k s l.act
    → (told ++ (let a : PageAnswer = record { line = l.number; outcome = o } in a) ∷ []) ++ page_answers_of k t ls
    ≡ told ++ page_answers_of k s (l ∷ ls)
answers_on k s t l ls told o is =
    append_assoc told ((let a : PageAnswer = record { line = l.number; outcome = o } in a) ∷ []) (page_answers_of k t ls)
    ∙ ap (λ (p : PageOutcome × PageState). told ++ (let a : PageAnswer = record { line = l.number; outcome = p.0 } in a)
    ∷ page_answers_of k p.1 ls) is

-- one more line, and the lines before it
pub after_more : (k : ZoneListsView) (s t : PageState) (ls : List PageLine) (l : PageLine) (o : PageOutcome)
    → (let p : PageOutcome × PageState = (o, t) in p) ≡ page_step_by_distance k (page_state_after k s ls) l.act
    → t ≡ page_state_after k s (ls ++ l ∷ [])
after_more k s t [] l o is = ap (λ (p : PageOutcome × PageState). p.1) is
after_more k s t (x ∷ xs) l o is = after_more k (page_step_by_distance k s x.act).1 t xs l o is
