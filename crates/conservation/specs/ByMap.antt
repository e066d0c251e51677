-- Which frames are usable, judged by the map that a boot reports.
use Rattle.std.specs.Prelude.{◌≡◌, ℕ, ◌+◌, ◌*◌, ◌≤◌, true, List}
use Rattle.bm_base.specs.Frames.{bytes_of_frame}
use Rattle.bm_base.specs.Range.{covers}
use Rattle.bm_base.specs.declared.range.TheConstants.{FRAME_SIZE}
use Rattle.address_runs.specs.Runs.{RunOf}
use Rattle.boot_model.specs.Boot.{lies_in_memory}

-- the frame lies below `reach`, the limit of physical addresses, and all its bytes lie in runs of
-- RAM or of the kernel's own memory
abbrev pub IsUsableByMap : ℕ → List (RunOf ℕ) → ℕ → Type 0
IsUsableByMap reach map frame =
    (FRAME_SIZE * frame + FRAME_SIZE ≤ reach)
    × ((x : ℕ) → covers (bytes_of_frame frame) x ≡ true → lies_in_memory map x ≡ true)
