-- The largest number of runs that a map may have.
use Rattle.std.specs.Prelude.{ℕ, List, length, nat_lt, if◌then◌else◌, Result, Ok, Err}
use Rattle.address_runs.specs.Runs.{RunOf}
use Rattle.e820_model.specs.declared.entry.TheConstants.{E820_MAX_ENTRIES}
use Rattle.e820_sanitise.specs.declared.table.MapFault.{MapFault}
use Rattle.e820_sanitise.specs.declared.table.MapFault.TheVariants as faults

-- the map if it has at most `E820_MAX_ENTRIES` runs, which is the room of the kernel's table; else
-- the fault `MapFull` with the number of its runs
abbrev pub map_if_room : List (RunOf ℕ) → Result (List (RunOf ℕ)) MapFault
map_if_room map = if nat_lt E820_MAX_ENTRIES (length map) then Err (faults.MapFull (length map)) else Ok map
