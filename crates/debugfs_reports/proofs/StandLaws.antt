-- Lemmas: if memblock's tables are stored in the bytes, the reports of tables show the records of
-- these tables.
use Rattle.std.proofs.Common.{◌≡◌, ℕ, Bool, List, [], ◌∷◌, nat_lt, length, refl, arith}
use Rattle.std.specs.List.{flat_map}
use Rattle.memblock_ranges.specs.Tables.{IsInStore, TableView, head_of}
use Rattle.boot_model.specs.Boot.{BootedView}
use Rattle.boot_model.specs.declared.booted.Booted.{Booted}
use Rattle.report_memory.specs.RecordsText.{records_text}
use Rattle.report_memory.proofs.RecordLaws.{standing_text}
use Rattle.memblock_frames.proofs.StandLaws.{stands_ascending}
use Rattle.debugfs_reports.specs.declared.report.Report.{Report}
use Rattle.debugfs_reports.specs.Report.{TableRecords, render}
use Rattle.debugfs_reports.specs.ReportList.{render_list, render_part}
use Rattle.debugfs_reports.specs.TableHeads.{HeadsHaveRecords, records_at_heads}

-- `memory` and `reserved` are stored in the bytes of the boot, at the places that its heads give
pub record HaveTables (b : Booted) (memory reserved : TableView) : Type 0 where
  pub memory_stands : IsInStore memory b.store
  pub memory_told : b.heads.memory ≡ head_of memory
  pub reserved_stands : IsInStore reserved b.store
  pub reserved_told : b.heads.reserved ≡ head_of reserved

pub tables_stand : (b : Booted) (memory reserved : TableView) → HaveTables b memory reserved → HeadsHaveRecords b
tables_stand b memory reserved have = record {
  memory = rw have.memory_told (stands_ascending memory b.store have.memory_stands);
  reserved = rw have.reserved_told (stands_ascending reserved b.store have.reserved_stands);
}

-- records that print the same lines give the same report
text_alike : (report : Report) (booted : BootedView) (these those : TableRecords) → records_text these.memory ≡ records_text those.memory
    → records_text these.reserved ≡ records_text those.reserved → render report booted these ≡ render report booted those
text_alike report booted these those memory reserved = grind (arith, memory, reserved)

list_alike : (several : Bool) (booted : BootedView) (these those : TableRecords) (list : List Report)
    → records_text these.memory ≡ records_text those.memory → records_text these.reserved ≡ records_text those.reserved
    → flat_map (render_part several booted these) list ≡ flat_map (render_part several booted those) list
list_alike several booted these those [] memory reserved = refl
list_alike several booted these those (report ∷ list) memory reserved =
    rw (text_alike report booted these those memory reserved, list_alike several booted these those list memory reserved) refl

pub tables_shown : (b : Booted) (memory reserved : TableView) (booted : BootedView) (list : List Report) → HaveTables b memory reserved
    → render_list list booted (records_at_heads b)
    ≡ render_list list booted (record { memory = memory.records; reserved = reserved.records })
tables_shown b memory reserved booted list have =
    list_alike (nat_lt 1 (length list)) booted (records_at_heads b) (record { memory = memory.records; reserved = reserved.records }) list
    (rw have.memory_told (standing_text memory b.store have.memory_stands))
    (rw have.reserved_told (standing_text reserved b.store have.reserved_stands))
