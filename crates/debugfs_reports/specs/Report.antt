-- The reports of a boot, and the name and the text of each.
use Rattle.std.specs.Prelude.{ℕ, List, [], ◌∷◌, ◌++◌, codes, Option, find}
use Rattle.std.specs.Str.{bytes_eq}
use Rattle.address_runs.specs.Runs.{RunOf}
use Rattle.boot_model.specs.Boot.{BootedView}
use Rattle.debugfs_reports.specs.declared.report.Report.{Report}
use Rattle.debugfs_reports.specs.declared.report.Report.TheVariants as reports
use Rattle.debugfs_reports.specs.Summary.{summary_of}
use Rattle.memblock_model.specs.declared.owner.Which.TheVariants as which
use Rattle.memblock_model.specs.Items.{owner_runs_of}
use Rattle.memblock_model.specs.Labels.{LabelView}
use Rattle.memblock_model.specs.Tables.{records_of}
use Rattle.report_memory.specs.JournalText.{journal_text}
use Rattle.report_memory.specs.MapText.{map_text}
use Rattle.report_memory.specs.OptionsText.{options_text}
use Rattle.report_memory.specs.OwnersText.{owners_text}
use Rattle.report_memory.specs.RecordsText.{records_text}
use Rattle.report_memory.specs.TablesText.{tables_text}
use Rattle.report_stages.specs.BlocksText.{blocks_text}
use Rattle.report_stages.specs.CrashText.{crash_text}
use Rattle.report_stages.specs.NodesText.{nodes_text}
use Rattle.report_stages.specs.PagesText.{pages_text}
use Rattle.report_stages.specs.ScriptText.{script_text}
use Rattle.report_stages.specs.SectionsText.{sections_text}
use Rattle.report_stages.specs.SummaryText.{summary_text}
use Rattle.report_stages.specs.ListsText.{zonelists_text}
use Rattle.report_stages.specs.ZonesText.{buddyinfo_text, zones_text}

-- the name of a report, by which a user requests it, as in `--report buddyinfo`
abbrev pub report_name : Report → List ℕ
report_name reports.Map = codes "map"
report_name reports.Options = codes "options"
report_name reports.Nodes = codes "nodes"
report_name reports.Memory = codes "memory"
report_name reports.Reserved = codes "reserved"
report_name reports.Owners = codes "owners"
report_name reports.Journal = codes "journal"
report_name reports.Crash = codes "crash"
report_name reports.Sections = codes "sections"
report_name reports.Zones = codes "zones"
report_name reports.Script = codes "script"
report_name reports.Tables = codes "tables"
report_name reports.Buddyinfo = codes "buddyinfo"
report_name reports.Blocks = codes "blocks"
report_name reports.Pages = codes "pages"
report_name reports.Pagesinfo = codes "pagesinfo"
report_name reports.Zonelists = codes "zonelists"
report_name reports.Summary = codes "summary"
report_name reports.Claims = codes "claims"

-- all reports of `bootmem`
abbrev pub all_reports : List Report
all_reports =
    reports.Map ∷ reports.Options ∷ reports.Nodes ∷ reports.Memory ∷ reports.Reserved ∷ reports.Owners ∷ reports.Journal ∷ reports.Crash
    ∷ reports.Sections ∷ reports.Zones ∷ reports.Script ∷ reports.Tables ∷ reports.Buddyinfo ∷ reports.Blocks
    ∷ reports.Pages ∷ reports.Pagesinfo ∷ reports.Zonelists ∷ reports.Summary ∷ []

-- the reports of a program with early claims: those of `bootmem`, and the outcomes of the early
-- claims
abbrev pub reports_with_claims : List Report
reports_with_claims = all_reports ++ reports.Claims ∷ []

-- the first report of the list that has the name, or `None` if none has it
abbrev pub first_report_named : List Report → List ℕ → Option Report
first_report_named reports name = find (λ report. bytes_eq name (report_name report)) reports

-- the report of `bootmem` with the name, or `None` if there is none
abbrev pub report_named : List ℕ → Option Report
report_named name = first_report_named all_reports name

-- the records of memblock's two tables, each a range of addresses with its flags and its node
pub record TableRecords : Type 0 where
  pub memory : List (RunOf LabelView)
  pub reserved : List (RunOf LabelView)

-- The text of a report. `booted` is what contracts see of the result of the boot. `records` has the
-- records that are in the bytes of memblock's two tables; only the reports `memory` and `reserved`
-- show them.
abbrev pub render : Report → BootedView → TableRecords → List ℕ
render reports.Map booted records = map_text booted.map
render reports.Options booted records = options_text booted.options
render reports.Nodes booted records = nodes_text booted.nodes booted.items
render reports.Memory booted records = records_text records.memory
render reports.Reserved booted records = records_text records.reserved
render reports.Owners booted records = owners_text (owner_runs_of booted.items)
render reports.Journal booted records = journal_text booted.items
render reports.Crash booted records = crash_text booted.crash
render reports.Sections booted records = sections_text booted.sections.roots booted.sections.placed
render reports.Zones booted records = zones_text booted.free booted.spans
render reports.Script booted records = script_text booted.answers
render reports.Tables booted records = tables_text booted.heads
render reports.Buddyinfo booted records = buddyinfo_text booted.free booted.spans
render reports.Blocks booted records = blocks_text booted.free
render reports.Pages booted records = pages_text booted.page_answers
render reports.Pagesinfo booted records = buddyinfo_text booted.after.frames booted.spans
render reports.Zonelists booted records = zonelists_text booted.lists
render reports.Summary booted records = summary_text (summary_of booted)
render reports.Claims booted records = script_text booted.claim_answers

-- the records of memblock's two tables that result from the journal of the boot
abbrev pub journal_records : BootedView → TableRecords
journal_records booted = record { memory = records_of which.Memory booted.items; reserved = records_of which.Reserved booted.items }

-- the text of a report, if the bytes of memblock's two tables have the records that result from the
-- journal of the boot
abbrev pub report_text : Report → BootedView → List ℕ
report_text report booted = render report booted (journal_records booted)
