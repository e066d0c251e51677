-- The records in the bytes of memblock's two tables, at the addresses that the tables' heads give:
-- what the reports on the tables require of the bytes, and which records they show.
use Rattle.std.specs.Prelude.{◌^◌}
use Rattle.memblock_ranges.specs.Tables.{records_of_head}
use Rattle.boot_model.specs.declared.booted.Booted.{Booted}
use Rattle.debugfs_reports.specs.Report.{TableRecords}
use Rattle.memblock_frames.specs.HeadRecords.{HasRecords}

-- the bytes of each table, at the address that its head gives, are an ascending list of records;
-- the boot's journal may give other records
pub record HeadsHaveRecords (b : Booted) : Type 0 where
  pub memory : HasRecords b.store b.heads.memory (2 ^ 64)
  pub reserved : HasRecords b.store b.heads.reserved (2 ^ 64)

-- the records of both tables, read from the bytes at the addresses that the heads give
abbrev pub records_at_heads : Booted → TableRecords
records_at_heads b = record { memory = records_of_head b.store b.heads.memory; reserved = records_of_head b.store b.heads.reserved }
