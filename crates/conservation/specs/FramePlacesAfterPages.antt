-- Where the frames are after the page script: each frame that was handed over is in exactly one
-- block, or exactly one ID of the script holds it. No other frame is in a block or held.
use Rattle.std.specs.Prelude.{◌≡◌, ℕ, Some, None}
use Rattle.page_alloc.specs.FramePlaces.{IsInNoBlockNorHeld, IsInOneBlockOrHeld}
use Rattle.boot_model.specs.Boot.{BootedView}

-- each frame that was handed over is in exactly one block of the free frames, or held by exactly
-- one ID, and not both
abbrev pub AllInOneBlockOrHeld : BootedView → Type 0
AllInOneBlockOrHeld booted = (frame node : ℕ) → booted.free frame ≡ Some node → IsInOneBlockOrHeld booted.after frame

-- a frame that wasn't handed over is in no block, and no ID holds it
abbrev pub NoOtherInABlockOrHeld : BootedView → Type 0
NoOtherInABlockOrHeld booted = (frame : ℕ) → booted.free frame ≡ None → IsInNoBlockNorHeld booted.after frame
