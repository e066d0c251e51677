-- Defines what a line that requests frames near a node does, and what all lines of a page script
-- do.
use Rattle.std.specs.Prelude.{◌≡◌, ◌⊎◌, ℕ, ◌<◌, Bool, true, false, is_some, Option, Some, None, List, [], ◌∷◌, ◌++◌, length}
use Rattle.std.specs.List.{find, All}
use Rattle.bm_base.specs.Stops.{StopsAtElement}
use Rattle.buddy_blocks.specs.PickedBlock.{picked_first_frame}
use Rattle.page_alloc.specs.declared.act.PageAct.{PageAct}
use Rattle.page_alloc.specs.declared.act.PageAct.TheVariants as acts
use Rattle.page_alloc.specs.declared.act.PageLine.{PageLine}
use Rattle.page_alloc.specs.declared.outcome.Held.{Held}
use Rattle.page_alloc.specs.declared.outcome.PageOutcome.{PageOutcome}
use Rattle.page_alloc.specs.declared.outcome.PageOutcome.TheVariants as outcomes
use Rattle.page_alloc.specs.declared.outcome.PageAnswer.{PageAnswer}
use Rattle.page_alloc.specs.PagesView.{PagesView, page_state_of}
use Rattle.page_alloc.specs.Pages.{PageState, page_step, NeedsMemory}
use Rattle.slit_zonelists.specs.declared.order.ListZone.{ListZone}
use Rattle.slit_zonelists.specs.Lists.{ZoneListsView, zone_list_of}

-- whether the zone has a block of the order or a greater one
abbrev pub has_block : PageState → ℕ → ListZone → Bool
has_block s order z = is_some (picked_first_frame s.frames z.node z.zone order)

-- the first zone of the list that has a block of the order or a greater one
abbrev pub first_zone : PageState → ℕ → List ListZone → Option ListZone
first_zone s order zs = find (has_block s order) zs

-- the outcome of the request if it goes to this zone alone, and the state after it; `NoBlock` if
-- there is no zone
abbrev pub take_from_zone : PageState → ℕ → ℕ → Option ListZone → PageOutcome × PageState
take_from_zone s id order None = (outcomes.NoBlock, s)
take_from_zone s id order (Some z) = page_step s (acts.Pages id order z.node z.zone)

-- the outcome of a request to the first of the zones that has a block of the order or a greater
-- one, and the state after it; `Taken` if the ID already holds frames
abbrev pub take_from_nearest : PageState → ℕ → ℕ → List ListZone → Option Held → PageOutcome × PageState
take_from_nearest s id order zs (Some what) = (outcomes.Taken, s)
take_from_nearest s id order zs None = take_from_zone s id order (first_zone s order zs)

-- the outcome of any line of a page script, and the state after it. A `near` line tries the zones
-- of the node's zone list in order.
abbrev pub page_step_by_distance : ZoneListsView → PageState → PageAct → PageOutcome × PageState
page_step_by_distance k s (acts.Pages id order node zone) = page_step s (acts.Pages id order node zone)
page_step_by_distance k s (acts.Near id order node) = take_from_nearest s id order (zone_list_of k node) (s.held id)
page_step_by_distance k s (acts.Give id) = page_step s (acts.Give id)

-- the outcomes of a list of lines, in order, each with the number of its line
abbrev pub page_answers_of : ZoneListsView → PageState → List PageLine → List PageAnswer
page_answers_of k s [] = []
page_answers_of k s (l ∷ ls) =
    record { line = l.number; outcome = (page_step_by_distance k s l.act).0 } ∷ page_answers_of k (page_step_by_distance k s l.act).1 ls

-- the state after all lines of a list
abbrev pub page_state_after : ZoneListsView → PageState → List PageLine → PageState
page_state_after k s [] = s
page_state_after k s (l ∷ ls) = page_state_after k (page_step_by_distance k s l.act).1 ls

-- this program ran out of memory before the first line: there is at least one line, and nothing
-- has changed
pub record RunsOutBeforePageLines (b : PagesView) (lines : List PageLine) (later : PagesView) : Type 0 where
  pub some : 0 < length lines
  pub pages_stay : later ≡ b

-- this program ran out of memory at a line that isn't refused: the lines before it have been
-- carried out, and nothing has changed since then
abbrev pub RunsOutAtPageLine : ZoneListsView → PageState → List PageLine → PageState → Type 0
RunsOutAtPageLine k s lines later = StopsAtElement (λ before line.
    NeedsMemory (page_step_by_distance k (page_state_after k s before) line.act).0
    × (later ≡ page_state_after k s before)) lines

-- this program ran out of memory before the first line, or at one of the lines
abbrev pub PageScriptRunsOut : ZoneListsView → PagesView → List PageLine → PagesView → Type 0
PageScriptRunsOut k b lines later =
    RunsOutBeforePageLines b lines later ⊎ RunsOutAtPageLine k (page_state_of b) lines (page_state_of later)

-- the zone is in the list and has a block of the order or a greater one, and no zone before it in
-- the list has such a block
pub record IsFirstZone (s : PageState) (order : ℕ) (zs : List ListZone) (z : ListZone) : Type 0 where
  pub before : List ListZone
  pub after : List ListZone
  pub is : zs ≡ before ++ z ∷ after
  pub has : has_block s order z ≡ true
  pub first : All (λ y. has_block s order y ≡ false) before
