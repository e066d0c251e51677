-- Worked examples: lines of a run and of a block, and runs and blocks that can't be printed as
-- lines.
use Rattle.std.proofs.Common.{◌≡◌, ℕ, ◌-◌, ◌^◌, refl, arith}
use Rattle.address_runs.specs.Runs.{RunOf}
use Rattle.bm_base.specs.declared.zone.Zone.TheVariants as zones
use Rattle.audit_roundtrip.specs.PrintedLines.{IsPrintableBlock, IsPrintableRun, line_of_block}

-- two frames of RAM at 4 KiB
abbrev two_frames : RunOf ℕ
two_frames = record { base = 4096; size = 8192; value = 1 }

two_frames_fit : IsPrintableRun two_frames
two_frames_fit = ((omega arith, omega arith), (omega arith, omega arith))

-- a run of type 0 can't be printed as a line
no_type : ¬ IsPrintableRun (record { base = 4096; size = 8192; value = 0 })
no_type told = absurd (omega (arith, told.1.0))

-- the line of the block of 256 frames at 1 MiB
block_told : line_of_block (record { node = 0; zone = zones.Dma; order = 8; first = 256 })
    ≡ record { node = 0; zone = zones.Dma; order = 8; at = 0x100000 }
block_told = refl

-- a block whose last frame ends above 2^52 can't be printed as a line
too_far : ¬ IsPrintableBlock (record { node = 0; zone = zones.Normal; order = 1; first = 2 ^ 40 - 1 })
too_far told = absurd (omega (arith, told.1.1))
