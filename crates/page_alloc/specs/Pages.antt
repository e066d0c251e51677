-- The page allocator after the handover, as a state: the free frames, and the frames that IDs
-- hold. This file defines what each line of a page script does to that state.
use Rattle.std.specs.Prelude.{ℕ, ◌*◌, ◌≤◌, ◌==◌, if◌then◌else◌, Option, Some, None, List, [], ◌∷◌}
use Rattle.bm_base.specs.declared.range.TheConstants.{FRAME_SIZE}
use Rattle.bm_base.specs.declared.zone.Zone.{Zone}
use Rattle.buddy_blocks.specs.Frames.{Frames}
use Rattle.buddy_blocks.specs.PickedBlock.{picked_first_frame}
use Rattle.buddy_blocks.specs.Buddies.{without_set, with_set}
use Rattle.page_alloc.specs.declared.act.PageAct.{PageAct}
use Rattle.page_alloc.specs.declared.act.PageAct.TheVariants as acts
use Rattle.page_alloc.specs.declared.act.PageLine.{PageLine}
use Rattle.page_alloc.specs.declared.outcome.Held.{Held}
use Rattle.page_alloc.specs.declared.outcome.PageOutcome.{PageOutcome}
use Rattle.page_alloc.specs.declared.outcome.PageOutcome.TheVariants as outcomes

-- the state: the node of each free frame, and what each ID holds
pub record PageState : Type 0 where
  pub frames : Frames
  pub held : ℕ → Option Held

-- the first state: no ID holds anything
abbrev pub first_page_state : Frames → PageState
first_page_state f = record { frames = f; held = λ id. None }

-- what each ID holds after `id` got the frames `what`, or gave up its frames if `what` is None;
-- the other IDs hold what they held before
abbrev pub with_held_frames : ℕ → Option Held → (ℕ → Option Held) → ℕ → Option Held
with_held_frames id what held i = if id == i then what else held i

-- the outcome of a request for `2^order` frames, and the state after it. `first` is the first
-- frame of the block from which the request is served: the first `2^order` frames of that block
-- are allocated, and the ID holds them. Without such a block nothing changes.
abbrev pub allocate_frames : PageState → ℕ → ℕ → ℕ → Option ℕ → PageOutcome × PageState
allocate_frames s id order node None = (outcomes.NoBlock, s)
allocate_frames s id order node (Some first) = (
  outcomes.At (FRAME_SIZE * first),
  record {
    frames = without_set order first s.frames;
    held = with_held_frames id (Some (record { first = first; order = order; node = node })) s.held;
  },
)

-- the outcome of a request, which is refused if the ID already holds frames, and the state after
-- it
abbrev pub allocate_unless_id_holds : PageState → ℕ → ℕ → ℕ → Zone → Option Held → PageOutcome × PageState
allocate_unless_id_holds s id order node zone (Some what) = (outcomes.Taken, s)
allocate_unless_id_holds s id order node zone None = allocate_frames s id order node (picked_first_frame s.frames node zone order)

-- the outcome of freeing what an ID holds, and the state after it: the frames become free on their
-- node, and the ID holds nothing. If it held nothing before, the outcome is `Unknown` and nothing
-- changes.
abbrev pub free_held_frames : PageState → ℕ → Option Held → PageOutcome × PageState
free_held_frames s id None = (outcomes.Unknown, s)
free_held_frames s id (Some what) = (
  outcomes.Done,
  record {
    frames = with_set what.order what.first what.node s.frames;
    held = with_held_frames id None s.held;
  },
)

-- the outcome of a `pages` or `give` line, and the state after it. A `near` line is carried out by
-- the layer above; here its outcome is `NoBlock`.
abbrev pub page_step : PageState → PageAct → PageOutcome × PageState
page_step s (acts.Pages id order node zone) = allocate_unless_id_holds s id order node zone (s.held id)
page_step s (acts.Near id order node) = (outcomes.NoBlock, s)
page_step s (acts.Give id) = free_held_frames s id (s.held id)

-- the order in the line, if it has one, is at most 10
abbrev pub HasValidOrder : PageAct → Type 0
HasValidOrder (acts.Pages id order node zone) = order ≤ 10
HasValidOrder (acts.Near id order node) = order ≤ 10
HasValidOrder (acts.Give id) = Unit {0}

abbrev pub HaveValidOrders : List PageLine → Type 0
HaveValidOrders [] = Unit {0}
HaveValidOrders (l ∷ ls) = HasValidOrder l.act × HaveValidOrders ls

-- the line is a `pages` or `give` line
abbrev pub IsPagesOrGive : PageAct → Type 0
IsPagesOrGive (acts.Pages id order node zone) = Unit {0}
IsPagesOrGive (acts.Near id order node) = ⊥
IsPagesOrGive (acts.Give id) = Unit {0}

-- whether a line with this outcome needs memory of this program: a line that allocates or frees
-- frames does; a line that is refused doesn't
abbrev pub NeedsMemory : PageOutcome → Type 0
NeedsMemory (outcomes.At address) = Unit {0}
NeedsMemory outcomes.Done = Unit {0}
NeedsMemory outcomes.NoBlock = ⊥
NeedsMemory outcomes.Taken = ⊥
NeedsMemory outcomes.Unknown = ⊥
