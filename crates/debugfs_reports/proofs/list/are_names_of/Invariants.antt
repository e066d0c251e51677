-- All names of the list are those of known reports exactly if the remaining names are.
use Rattle.std.proofs.Common.{◌≡◌, is_some}
use Rattle.std.specs.List.{list_all}
use Rattle.std.specs.Option.{option_map}
use Rattle.text_words.specs.declared.separators.Separators.TheVariants.{Byte}
use Rattle.text_words.specs.Parts.{parts_of_rest}
use Rattle.debugfs_reports.specs.Report.{first_report_named}
use Rattle.debugfs_reports.specs.ReportList.{are_names_of}
use Rattle.debugfs_reports.proofs.ListLaws.{left}
use Rattle.debugfs_reports.proofs.list.are_names_of.Given as goal

abbrev pub invariant-loop-rest : goal.invariant-loop-rest
invariant-loop-rest l =
    list_all (λ name. is_some (first_report_named l.known name)) (parts_of_rest (Byte 44) (option_map (λ text. text.now) l.rest))
    ≡ are_names_of l.known l.list

abbrev pub decreases-loop-rest : goal.decreases-loop-rest
decreases-loop-rest l = left (option_map (λ text. text.now) l.rest)
