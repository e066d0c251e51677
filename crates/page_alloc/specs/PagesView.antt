-- What contracts see of the page allocator after the handover.
use Rattle.std.specs.Prelude.{ℕ, Option, List}
use Rattle.std.specs.Ordering.{nat_cmp}
use Rattle.std.specs.Map.{lookup}
use Rattle.std.specs.BTreeMap.{is_at}
use Rattle.buddy_handover.specs.BuddyView.{BuddyView, node_of_free_frame}
use Rattle.page_alloc.specs.declared.outcome.Held.{Held}
use Rattle.page_alloc.specs.Pages.{PageState}

-- the free frames, and the IDs that hold frames, in ascending order, each with what it holds
pub record PagesView : Type 0 where
  pub buddy : BuddyView
  pub ids : List (ℕ × Held)

-- the frames that an ID holds
abbrev pub frames_held_by : List (ℕ × Held) → ℕ → Option Held
frames_held_by ids id = lookup (is_at (nat_cmp id)) ids

-- the state of the page allocator: the node of each free frame, and what each ID holds
abbrev pub page_state_of : PagesView → PageState
page_state_of b = record { frames = node_of_free_frame b.buddy; held = frames_held_by b.ids }
