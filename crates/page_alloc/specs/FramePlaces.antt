-- Defines where a frame is: in a block of free frames, held by an ID, or neither.
use Rattle.std.specs.Prelude.{◌≡◌, ◌⊎◌, ℕ, ◌+◌, ◌%◌, ◌^◌, ◌≤◌, Some, None}
use Rattle.address_runs.specs.Edits.{IsEmptyFrom}
use Rattle.buddy_blocks.specs.declared.block.Block.{Block}
use Rattle.buddy_blocks.specs.declared.run.TheConstants.{MAX_FRAMES}
use Rattle.buddy_blocks.specs.Frames.{IsInSet, IsBlock, IsInBlock}
use Rattle.page_alloc.specs.declared.outcome.Held.{Held}
use Rattle.page_alloc.specs.Pages.{PageState}

-- the ID holds the frame
pub record HoldsFrame (s : PageState) (id x : ℕ) : Type 0 where
  pub what : Held
  pub is : s.held id ≡ Some what
  pub inside : IsInSet what.order what.first x

-- the frame is in exactly one block of free frames (`IsInOneBlock`), or in none (`IsInNoBlock`)
pub record IsInOneBlock (s : PageState) (x : ℕ) : Type 0 where
  pub block : Block
  pub is : IsBlock s.frames block
  pub has : IsInBlock block x
  pub one : (b : Block) → IsBlock s.frames b → IsInBlock b x → b ≡ block

abbrev pub IsInNoBlock : PageState → ℕ → Type 0
IsInNoBlock s x = (b : Block) → IsBlock s.frames b → IsInBlock b x → ⊥

-- exactly one ID holds the frame (`IsHeldByOne`), or none does (`IsHeldByNone`)
pub record IsHeldByOne (s : PageState) (x : ℕ) : Type 0 where
  pub id : ℕ
  pub holds : HoldsFrame s id x
  pub one : (other : ℕ) → HoldsFrame s other x → other ≡ id

abbrev pub IsHeldByNone : PageState → ℕ → Type 0
IsHeldByNone s x = (id : ℕ) → HoldsFrame s id x → ⊥

-- the frame is in exactly one block and held by no ID, or in no block and held by exactly one ID
abbrev pub IsInOneBlockOrHeld : PageState → ℕ → Type 0
IsInOneBlockOrHeld s x = (IsInOneBlock s x × IsHeldByNone s x) ⊎ (IsHeldByOne s x × IsInNoBlock s x)

-- the frame is in no block, and held by no ID
abbrev pub IsInNoBlockNorHeld : PageState → ℕ → Type 0
IsInNoBlockNorHeld s x = IsInNoBlock s x × IsHeldByNone s x

-- the frames that an ID holds are an aligned set of frames, none of which is free
pub record IsAlignedAndNotFree (s : PageState) (what : Held) : Type 0 where
  pub small : what.order ≤ 10
  pub aligned : what.first % 2 ^ what.order ≡ 0
  pub low : what.first + 2 ^ what.order ≤ MAX_FRAMES
  pub taken : (x : ℕ) → IsInSet what.order what.first x → s.frames x ≡ None

-- what is always true of the state: the frames that each ID holds are an aligned set of frames,
-- none of which is free; no two IDs hold the same frame; and all free frames are below
-- `MAX_FRAMES`
pub record IsValidPageState (s : PageState) : Type 0 where
  pub low : IsEmptyFrom MAX_FRAMES s.frames
  pub well : (id : ℕ) (what : Held) → s.held id ≡ Some what → IsAlignedAndNotFree s what
  pub apart : (i j : ℕ) (g h : Held) → s.held i ≡ Some g → s.held j ≡ Some h → (x : ℕ) → IsInSet g.order g.first x
      → IsInSet h.order h.first x → i ≡ j
