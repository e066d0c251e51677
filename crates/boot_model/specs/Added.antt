-- The number of bytes that are added to memblock's memory table, before it is trimmed to whole
-- frames (`e820__memblock_setup`).
use Rattle.std.specs.Prelude.{ℕ, ◌-◌, if◌then◌else◌, Some, min, sum_by, List}
use Rattle.address_runs.specs.Runs.{RunOf, run_end}
use Rattle.e820_model.specs.Usable.{is_memory}

-- the number of the run's bytes below `reach`, if it is RAM or the kernel's own memory; else 0
abbrev pub added_by_run : ℕ → RunOf ℕ → ℕ
added_by_run reach r = if is_memory (Some r.value) then min (run_end r) reach - r.base else 0

-- the number of the map's bytes below `reach` that are RAM or the kernel's own memory, partial
-- frames included (`memblock_phys_mem_size`)
abbrev pub memory_bytes_of_map : ℕ → List (RunOf ℕ) → ℕ
memory_bytes_of_map reach map = sum_by (λ r. added_by_run reach r) map
