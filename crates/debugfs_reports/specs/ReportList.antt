-- Lists of reports, such as `map,zones`: the names in a list, and the text of a whole list.
use Rattle.std.specs.Prelude.{ℕ, Bool, is_some, nat_lt, if◌then◌else◌, List, [], ◌++◌, codes, length}
use Rattle.std.specs.List.{filter_map, flat_map, list_all}
use Rattle.text_words.specs.declared.separators.Separators.TheVariants.{Byte}
use Rattle.text_words.specs.Parts.{parts_in}
use Rattle.boot_model.specs.Boot.{BootedView}
use Rattle.debugfs_reports.specs.declared.report.Report.{Report}
use Rattle.debugfs_reports.specs.Report.{TableRecords, all_reports, report_name, journal_records, first_report_named, render}

-- the names in a list, which are separated by commas; the empty list is one empty name
abbrev pub report_names_in : List ℕ → List (List ℕ)
report_names_in list = parts_in (Byte 44) list

-- whether each name in the list is the name of one of the known reports
abbrev pub are_names_of : List Report → List ℕ → Bool
are_names_of known list = list_all (λ name. is_some (first_report_named known name)) (report_names_in list)

-- the known reports whose names are in the list, in the order of the list; other names are skipped
abbrev pub reports_named_in : List Report → List ℕ → List Report
reports_named_in known list = filter_map (first_report_named known) (report_names_in list)

-- whether each name in the list is the name of a report of `bootmem`
abbrev pub are_reports : List ℕ → Bool
are_reports list = are_names_of all_reports list

-- the reports of `bootmem` whose names are in the list, in the order of the list; other names are
-- skipped
abbrev pub reports_in : List ℕ → List Report
reports_in list = reports_named_in all_reports list

-- the title line `== NAME` of a report if the list has several reports, else nothing
abbrev pub report_title : Bool → Report → List ℕ
report_title several report = if several then codes "== " ++ report_name report ++ codes "\n" else []

-- what one report contributes to the text of a list of reports: its title line if the list has
-- several, and then its text. `records` has the records in the bytes of memblock's two tables.
abbrev pub render_part : Bool → BootedView → TableRecords → Report → List ℕ
render_part several booted records report = report_title several report ++ render report booted records

-- what one report contributes to the text of a list of reports, if the bytes of memblock's two
-- tables have the records that result from the journal of the boot
abbrev pub report_part : Bool → BootedView → Report → List ℕ
report_part several booted report = render_part several booted (journal_records booted) report

-- the text of a list of reports: their titles, if there are several, and their texts, in the order
-- of the list. `records` has the records in the bytes of memblock's two tables.
abbrev pub render_list : List Report → BootedView → TableRecords → List ℕ
render_list reports booted records = flat_map (render_part (nat_lt 1 (length reports)) booted records) reports

-- the text of a list of reports, if the bytes of memblock's two tables have the records that result
-- from the journal of the boot
abbrev pub report_list_text : List Report → BootedView → List ℕ
report_list_text reports booted = render_list reports booted (journal_records booted)
