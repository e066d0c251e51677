-- Examples of reports and of lists of reports.
use Rattle.std.proofs.Common.{◌≡◌, ℕ, ◌-◌, true, false, [], ◌∷◌, codes, Some, None, refl}
use Rattle.std.specs.Fmt.{digits}
use Rattle.address_runs.specs.Runs.{RunOf}
use Rattle.boot_options.specs.Crash.{no_crash}
use Rattle.e820_model.specs.declared.entry.Edit.TheVariants as edits
use Rattle.memblock_ranges.specs.declared.region.Heads.{Heads}
use Rattle.memblock_model.specs.Labels.{LabelView, plain_label}
use Rattle.early_script.specs.declared.outcome.Outcome.TheVariants as outcomes
use Rattle.crash_kernel.specs.declared.crash.Crash.TheVariants as crash
use Rattle.buddy_blocks.specs.Frames.{Frames}
use Rattle.bm_base.specs.declared.width.Width.TheVariants.{Bits46}
use Rattle.page_alloc.specs.Pages.{first_page_state}
use Rattle.slit_zonelists.specs.Lists.{ZoneListsView, zonelists_from_slit}
use Rattle.boot_model.specs.Boot.{BootedView, no_nodes}
use Rattle.boot_model.specs.Sections.{no_sections}
use Rattle.debugfs_reports.specs.declared.report.Report.TheVariants as reports
use Rattle.debugfs_reports.specs.Report.{TableRecords, report_named, report_text, reports_with_claims, render}
use Rattle.debugfs_reports.specs.ReportList.{are_names_of, are_reports, report_names_in, reports_in, reports_named_in, report_list_text}

reserved : RunOf ℕ
reserved = record { base = 0x7FE0000; size = 0x20000; value = 2 }

abbrev heads : Heads
heads = record {
  memory = record { place = 0x2FFE000; room = 128; count = 0 };
  reserved = record { place = 0x2FFF000; room = 128; count = 0 };
}

-- free frames: none
abbrev no_frames : Frames
no_frames frame = None

-- zone lists: no table of distances, and no zones
abbrev no_lists : ZoneListsView
no_lists = zonelists_from_slit None [] []

nothing : BootedView
nothing = record {
  width = Bits46;
  map = [];
  options = record { edits = []; crash = no_crash; numa_off = false; add_efi = false };
  items = [];
  heads = heads;
  nodes = no_nodes;
  crash = crash.Nothing;
  sections = no_sections;
  claim_answers = [];
  answers = [];
  spans = [];
  free = no_frames;
  lists = no_lists;
  page_answers = [];
  after = first_page_state no_frames;
}

made : BootedView
made = record nothing {
  map = reserved ∷ [];
  options = record { edits = edits.Clear ∷ []; crash = no_crash; numa_off = true; add_efi = false };
  crash = crash.InUse;
  claim_answers = record { line = 1; outcome = outcomes.Taken } ∷ [];
  answers = record { line = 2; outcome = outcomes.NoGap } ∷ [];
}

-- records in the bytes of the two tables that no journal item gives; the report on each table shows
-- the records of that table
abbrev page_at : ℕ → RunOf LabelView
page_at base = record { base = base; size = 0x1000; value = plain_label }

abbrev standing : TableRecords
standing = record { memory = page_at 0x1000 ∷ page_at 0x2000 ∷ []; reserved = page_at 0x2000 ∷ [] }

table_examples : (render reports.Memory made standing
    ≡ codes "   0: 0x0000000000001000..0x0000000000001fff\n   1: 0x0000000000002000..0x0000000000002fff\n")
    × (render reports.Reserved made standing ≡ codes "   0: 0x0000000000002000..0x0000000000002fff\n")
unfolding made nothing reserved digits
table_examples = (refl, refl)

-- a list has one name more than it has commas; a name may occur twice; no report has the empty name
list_examples : (report_names_in (codes "map,,map") ≡ codes "map" ∷ [] ∷ codes "map" ∷ [])
    × (report_names_in [] ≡ [] ∷ [])
    × (are_reports (codes "map,options,map") ≡ true)
    × (are_reports (codes "map,") ≡ false)
    × (are_reports (codes "map, options") ≡ false)
    × (are_reports [] ≡ false)
    × (reports_in (codes "options,map,options") ≡ reports.Options ∷ reports.Map ∷ reports.Options ∷ [])
    × (reports_in (codes "maps") ≡ [])
list_examples = (refl, refl, refl, refl, refl, refl, refl, refl)

-- `claims` is a report only of a program with early claims
claims_examples : (are_reports (codes "map,claims") ≡ false)
    × (are_names_of reports_with_claims (codes "map,claims") ≡ true)
    × (reports_in (codes "claims,map") ≡ reports.Map ∷ [])
    × (reports_named_in reports_with_claims (codes "claims,map") ≡ reports.Claims ∷ reports.Map ∷ [])
claims_examples = (refl, refl, refl, refl)

-- a single report has no title; if there are two, each has a title, even a report without lines
part_examples : (report_list_text (reports.Options ∷ []) made ≡ codes "clear\nnuma off\n")
    × (report_list_text (reports.Map ∷ reports.Options ∷ []) made
    ≡ codes "== map\n0x0000000007fe0000..0x0000000007ffffff 2 reserved\n== options\nclear\nnuma off\n")
    × (report_list_text (reports.Options ∷ reports.Options ∷ []) nothing ≡ codes "== options\n== options\n")
    × (report_list_text [] made ≡ [])
unfolding made nothing reserved digits
part_examples = (refl, refl, refl, refl)

-- a report is found by its exact name
name_examples : (report_named (codes "map") ≡ Some reports.Map)
    × (report_named (codes "Map") ≡ None)
    × (report_named [] ≡ None)
    × (report_named (codes "pages") ≡ Some reports.Pages)
    × (report_named (codes "pagesinfo") ≡ Some reports.Pagesinfo)
name_examples = (refl, refl, refl, refl, refl)

text_examples : (report_text reports.Map made ≡ codes "0x0000000007fe0000..0x0000000007ffffff 2 reserved\n")
    × (report_text reports.Options made ≡ codes "clear\nnuma off\n")
    × (report_text reports.Script made ≡ codes "2: no gap\n")
    × (report_text reports.Claims made ≡ codes "1: taken\n")
    × (report_text reports.Crash made ≡ codes "crash in use\n")
    × (report_text reports.Nodes made ≡ codes "numa absent\nuncovered 0\n")
    × (report_text reports.Sections made ≡ codes "roots 0x0000000000000000\n")
    × (report_text reports.Zonelists made ≡ codes "slit absent\n")
    × (report_text reports.Tables made
    ≡ codes "memory place 0x0000000002ffe000 room 128 records 0\nreserved place 0x0000000002fff000 room 128 records 0\n")
unfolding made nothing reserved digits
text_examples = (refl, refl, refl, refl, refl, refl, refl, refl, refl)
