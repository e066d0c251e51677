-- Unclaimed memory and its runs, ranges as long as possible with one label (`__next_mem_range`,
-- `for_each_free_mem_range`).
use Rattle.std.specs.Prelude.{◌≡◌, ◌≢◌, ℕ, ◌+◌, ◌<◌, ◌≤◌, is_none, if◌then◌else◌, Option, Some, None, List}
use Rattle.address_runs.specs.Runs.{RunOf, run_end, value_at}
use Rattle.address_runs.specs.Sweep.{HasValueBetween}
use Rattle.memblock_model.specs.Labels.{LabelView, Labels}
use Rattle.memblock_ranges.specs.Tables.{TablesView}

-- the label of each byte that is memory and isn't claimed; None for every other byte
abbrev pub unclaimed_memory : Labels → Labels → Labels
unclaimed_memory memory reserved x = if is_none (reserved x) then memory x else None

-- the label of each byte that the memory table covers and the reserved table doesn't; None for
-- every other byte
abbrev pub unclaimed_in_tables : TablesView → Labels
unclaimed_in_tables t = unclaimed_memory (value_at t.memory.records) (value_at t.reserved.records)

-- an upward walk over unclaimed memory: the records of both tables, and the address that the walk
-- has reached
pub record FreeRunsView : Type 0 where
  pub memory : List (RunOf LabelView)
  pub reserved : List (RunOf LabelView)
  pub at : ℕ

-- the label of each byte of unclaimed memory in the two tables that the walk reads. It also has the
-- bytes that the walk has passed.
abbrev pub unclaimed_in_walk : FreeRunsView → Labels
unclaimed_in_walk p = unclaimed_memory (value_at p.memory) (value_at p.reserved)

-- the addresses from `from` to below `until` all have this label (or all have none), and the
-- address right below `from` has another
pub record IsStretchWithBottom (f : Labels) (from until : ℕ) (label : Option LabelView) : Type 0 where
  pub stays : HasValueBetween f from until label
  pub another : (x : ℕ) → x + 1 ≡ from → f x ≢ label

-- the addresses from `from` to below `until` all have this label (or all have none), and the
-- address `until` has another
pub record IsStretchWithTop (f : Labels) (from until : ℕ) (label : Option LabelView) : Type 0 where
  pub stays : HasValueBetween f from until label
  pub another : f until ≢ label

-- `r` is the highest run that begins below the address `below`; a run that continues past that
-- address is cut to end at it
pub record IsRunBelow (f : Labels) (below : ℕ) (r : RunOf LabelView) : Type 0 where
  pub some : 0 < r.size
  pub ends : run_end r ≤ below
  pub run : IsStretchWithBottom f r.base (run_end r) (Some r.value)
  pub after : HasValueBetween f (run_end r) below None

-- `r` is the lowest run that ends past the address `from`; a run that begins below that address is
-- cut to begin at it
pub record IsRunFrom (f : Labels) (from : ℕ) (r : RunOf LabelView) : Type 0 where
  pub some : 0 < r.size
  pub starts : from ≤ r.base
  pub run : IsStretchWithTop f r.base (run_end r) (Some r.value)
  pub before : HasValueBetween f from r.base None
