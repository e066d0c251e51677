-- How the end of a boot fits the outcome. A stop is the reason why there is no report; otherwise
-- the reports on the boot are the text.
use Rattle.std.proofs.Common.{◌≡◌, ◌≢◌, ℕ, List, Result, Ok, Err, arith}
use Rattle.bm_base.specs.ResultSteps.{◌>>=◌, map_error}
use Rattle.boot_model.specs.declared.stop.Cause.{Cause}
use Rattle.boot_model.specs.declared.stop.Stop.{Stop}
use Rattle.boot_model.specs.declared.stop.Stop.TheVariants as stops
use Rattle.boot_model.specs.Boot.{InputsView, BootedView, whole_boot, whole_boot_with}
use Rattle.boot_model.specs.Stop.{stop_of}
use Rattle.boot_model.specs.View.{booted_view}
use Rattle.boot_model.specs.declared.booted.Booted.{Booted}
use Rattle.boot_stages.specs.Boots.{IsStoredTable}
use Rattle.debugfs_reports.specs.declared.report.Report.{Report}
use Rattle.debugfs_reports.specs.ReportList.{render_list, report_list_text}
use Rattle.debugfs_reports.specs.TableHeads.{HeadsHaveRecords, records_at_heads}
use Rattle.debugfs_reports.proofs.StandLaws.{HaveTables, tables_shown, tables_stand}
use Rattle.memblock_model.specs.declared.owner.Which.TheVariants as which
use Rattle.program_end.specs.Fetches.{FitsError}
use Rattle.boot_inputs.specs.Input.{input_place}
use Rattle.boot_inputs.specs.Reason.{InputsReason}
use Rattle.boot_inputs.specs.WithClaims.{InputsWithClaims}
use Rattle.program_run.specs.Outcome.{linux_extra, value_or_stopped, reports_on_boot, reports_on_boot61}
use Rattle.program_run.specs.Stops.{reason_by_stop}

-- the cause of a stop, other than out of memory, is the cause in the outcome
stopped : {A : Type 0} (stop : Stop) (answer : Result A Cause) (next : A → Result (List ℕ) InputsReason)
    → (stop ≢ stops.Memory → map_error stop_of answer ≡ Err stop)
    → FitsError input_place (reason_by_stop stop) (value_or_stopped answer >>= next)
stopped stop answer next stops_so = grind arith

pub boot_stopped : (stop : Stop) (inputs : InputsView) (reports : List Report)
    → (stop ≢ stops.Memory → map_error stop_of (whole_boot inputs) ≡ Err stop)
    → FitsError input_place (reason_by_stop stop) (reports_on_boot reports inputs)
boot_stopped stop inputs reports stops_so = stopped stop (whole_boot inputs) (λ booted. Ok (report_list_text reports booted)) stops_so

pub boot61_stopped : (stop : Stop) (read : InputsWithClaims) (reports : List Report)
    → (stop ≢ stops.Memory → map_error stop_of (whole_boot_with (linux_extra read.claims) read.inputs) ≡ Err stop)
    → FitsError input_place (reason_by_stop stop) (reports_on_boot61 reports read)
boot61_stopped stop read reports stops_so =
    stopped stop (whole_boot_with (linux_extra read.claims) read.inputs) (λ booted. Ok (report_list_text reports booted)) stops_so

pub told_is : (answer : Result BootedView Cause) (booted : BootedView) → map_error stop_of answer ≡ Ok booted → answer ≡ Ok booted
told_is answer booted is = grind arith

-- the bytes of the tables have the records that the boot's items give, so a report is the same from
-- either
have_tables : (b : Booted) (memory : IsStoredTable which.Memory b.journal.items b.store b.heads.memory)
    (reserved : IsStoredTable which.Reserved b.journal.items b.store b.heads.reserved) → HaveTables b memory.table reserved.table
have_tables b memory reserved = record {
  memory_stands = memory.stands;
  memory_told = memory.head_is;
  reserved_stands = reserved.stands;
  reserved_told = reserved.head_is;
}

pub items_stand : (b : Booted) → IsStoredTable which.Memory b.journal.items b.store b.heads.memory
    → IsStoredTable which.Reserved b.journal.items b.store b.heads.reserved → HeadsHaveRecords b
items_stand b memory reserved = tables_stand b memory.table reserved.table (have_tables b memory reserved)

pub items_shown : (b : Booted) (list : List Report) → IsStoredTable which.Memory b.journal.items b.store b.heads.memory
    → IsStoredTable which.Reserved b.journal.items b.store b.heads.reserved
    → render_list list (booted_view b) (records_at_heads b) ≡ report_list_text list (booted_view b)
items_shown b list memory reserved =
    rw (memory.records, reserved.records) at
    (tables_shown b memory.table reserved.table (booted_view b) list (have_tables b memory reserved))
