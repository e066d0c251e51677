-- The boots whose printed reports `map`, `owners` and `blocks` the audit can read back.
use Rattle.std.specs.Prelude.{◌<◌, ◌^◌}
use Rattle.std.specs.List.{All}
use Rattle.bm_base.specs.Range.{end_of}
use Rattle.address_runs.specs.Edits.{IsEmptyFrom}
use Rattle.address_runs.specs.Runs.{RunOf, range_of_run}
use Rattle.audit_roundtrip.specs.PrintedLines.{IsPrintableOwner, IsPrintableOwnerRun, IsPrintableRun}
use Rattle.boot_model.specs.Boot.{BootedView}
use Rattle.memblock_model.specs.Items.{owner_of, owner_runs_of}
use Rattle.memblock_model.specs.declared.owner.Owner.{Owner}

-- Each run of the map, and each run of bytes with one owner, isn't empty and ends below 2^64. The
-- types of the map's runs are above 0 and below 2^32. The numbers of owners are below 2^32. No
-- address from 2^64 on has an owner. Blocks need no condition.
pub record IsPrintableBoot (booted : BootedView) : Type 0 where
  pub map : All IsPrintableRun booted.map
  pub owners : All IsPrintableOwnerRun (owner_runs_of booted.items)
  pub within : IsEmptyFrom (2 ^ 64) (owner_of booted.items)

-- the run ends below 2^64; the program's types ensure this
abbrev pub RunEndsInSpace : {V : Type 0} → RunOf V → Type 0
RunEndsInSpace r = end_of (range_of_run r) < 2 ^ 64

-- the run ends below 2^64, and the owner's number fits in 32 bits; the program's types ensure both
abbrev pub IsBoundedOwnerRun : RunOf Owner → Type 0
IsBoundedOwnerRun r = RunEndsInSpace r × IsPrintableOwner r.value
