-- The reports so far, followed by those of the remaining names, are those of all names.
use Rattle.std.proofs.Common.{◌≡◌, ◌++◌}
use Rattle.std.specs.List.{filter_map}
use Rattle.std.specs.Option.{option_map}
use Rattle.text_words.specs.declared.separators.Separators.TheVariants.{Byte}
use Rattle.text_words.specs.Parts.{parts_of_rest}
use Rattle.debugfs_reports.specs.Report.{first_report_named}
use Rattle.debugfs_reports.specs.ReportList.{reports_named_in}
use Rattle.debugfs_reports.proofs.ListLaws.{left}
use Rattle.debugfs_reports.proofs.list.reports_named_in.Given as goal

abbrev pub invariant-loop-rest : goal.invariant-loop-rest
invariant-loop-rest l =
    l.reports.items ++ filter_map (first_report_named l.known) (parts_of_rest (Byte 44) (option_map (λ text. text.now) l.rest))
    ≡ reports_named_in l.known l.list

abbrev pub decreases-loop-rest : goal.decreases-loop-rest
decreases-loop-rest l = left (option_map (λ text. text.now) l.rest)
