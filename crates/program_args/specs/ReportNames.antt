-- The names of reports that a program accepts: those of `bootmem`, and a list `further` of names
-- that only this program accepts.
use Rattle.std.specs.Prelude.{ℕ, Bool, ◌||◌, is_some, List, [], ◌∷◌, codes}
use Rattle.std.specs.List.{list_all, list_any}
use Rattle.std.specs.Str.{bytes_eq}
use Rattle.debugfs_reports.specs.Report.{report_named}
use Rattle.debugfs_reports.specs.ReportList.{report_names_in}

-- the names of the reports that `bootmem61` has and `bootmem` doesn't
abbrev pub reports_of_bootmem61 : List (List ℕ)
reports_of_bootmem61 = codes "claims" ∷ []

-- whether the name is one of `names`
abbrev pub is_among : List (List ℕ) → List ℕ → Bool
is_among names name = list_any (λ other. bytes_eq other name) names

-- whether the name is one of `further`, or the name of a report of `bootmem`
abbrev pub is_report_name : List (List ℕ) → List ℕ → Bool
is_report_name further name = is_among further name || is_some (report_named name)

-- whether each name in the list is one of `further` or the name of a report of `bootmem`. Commas
-- separate the names; the empty list is one empty name.
abbrev pub are_report_names : List (List ℕ) → List ℕ → Bool
are_report_names further list = list_all (is_report_name further) (report_names_in list)
