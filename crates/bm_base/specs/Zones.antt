-- Zones of frames (`zone_sizes_init` of arch/x86/mm/init.c).
use Rattle.std.specs.Prelude.{ℕ, nat_lt, if◌then◌else◌, List, codes}
use Rattle.bm_base.specs.declared.zone.Zone.{Zone}
use Rattle.bm_base.specs.declared.zone.Zone.TheVariants.{Dma, Dma32, Normal}
use Rattle.bm_base.specs.declared.zone.TheConstants.{MAX_DMA_FRAME, MAX_DMA32_FRAME}

-- the zone of a frame, by the frame's number: Dma below 16 MiB, Dma32 from 16 MiB to 4 GiB, Normal
-- at or above 4 GiB
abbrev pub zone_of : ℕ → Zone
zone_of frame = if nat_lt frame MAX_DMA_FRAME then Dma else (if nat_lt frame MAX_DMA32_FRAME then Dma32 else Normal)

-- the name of a zone (`zone_names`)
abbrev pub zone_name : Zone → List ℕ
zone_name Dma = codes "DMA"
zone_name Dma32 = codes "DMA32"
zone_name Normal = codes "Normal"
