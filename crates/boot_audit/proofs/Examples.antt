-- Worked examples: types, blocks, merges and verdicts.
use Rattle.std.proofs.Common.{◌≡◌, ℕ, true, false, [], ◌∷◌, Some, None, refl}
use Rattle.bm_base.specs.declared.zone.Zone.TheVariants as zones
use Rattle.bm_base.specs.Each.{each_from, each_in}
use Rattle.audit_lines.specs.Blocks.{BlockLineView}
use Rattle.boot_audit.specs.declared.judgement.Verdict.TheVariants as verdicts
use Rattle.boot_audit.specs.Frames.{could_merge, is_aligned, is_in_zone, is_memory_type}
use Rattle.boot_audit.specs.Sweep.{first_whole_frame}
use Rattle.boot_audit.specs.Verdicts.{verdict_of_faults}

abbrev block_at : ℕ → ℕ → BlockLineView
block_at at order = record { node = 0; zone = zones.Dma; order = order; at = at }

-- memory that the kernel keeps for itself counts as memory
ram : is_memory_type 128 ≡ true
ram = refl

-- a block of two frames at 4 KiB isn't aligned
misaligned : is_aligned (block_at 4096 1) ≡ false
misaligned = refl

-- the two frames below 16 MiB are in zone DMA; a block that crosses 16 MiB isn't in one zone
below : is_in_zone (block_at 0xFFE000 1) ≡ true
unfolding is_in_zone each_in each_from
below = refl

across : is_in_zone (block_at 0xFFF000 1) ≡ false
unfolding is_in_zone each_in each_from
across = refl

-- two pairs of frames that are buddies could merge; a pair alone couldn't, nor could two of
-- different nodes
pairs : could_merge (block_at 0 1 ∷ block_at 8192 1 ∷ []) (block_at 8192 1) ≡ true
unfolding could_merge each_in each_from
pairs = refl

alone : could_merge (block_at 8192 1 ∷ []) (block_at 8192 1) ≡ false
unfolding could_merge each_in each_from
alone = refl

other_node : could_merge (record { node = 1; zone = zones.Dma; order = 1; at = 0 } ∷ block_at 8192 1 ∷ []) (block_at 8192 1) ≡ false
unfolding could_merge each_in each_from
other_node = refl

-- of several faults, the first kind gives the verdict
misaligned_first : verdict_of_faults (Some 2) (Some 1) None (Some 7) (Some 1) ≡ verdicts.Misaligned 2
misaligned_first = refl

-- the bytes from 1 up to 8191 contain no whole frame
none_whole : first_whole_frame 1 8191 ≡ None
none_whole = refl
