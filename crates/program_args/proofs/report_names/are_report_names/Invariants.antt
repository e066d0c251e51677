-- The remaining names are all accepted exactly if all names of the list are.
use Rattle.std.proofs.Common.{◌≡◌, map}
use Rattle.std.specs.List.{list_all}
use Rattle.std.specs.Option.{option_map}
use Rattle.text_words.specs.declared.separators.Separators.TheVariants.{Byte}
use Rattle.text_words.specs.Parts.{parts_of_rest}
use Rattle.program_args.specs.ReportNames.{are_report_names, is_report_name}
use Rattle.program_args.proofs.MirrorLaws.{left}
use Rattle.program_args.proofs.report_names.are_report_names.Given as goal

abbrev pub invariant-loop-rest : goal.invariant-loop-rest
invariant-loop-rest l =
    list_all (is_report_name (map (λ other. other.now) l.further)) (parts_of_rest (Byte 44) (option_map (λ text. text.now) l.rest))
    ≡ are_report_names (map (λ other. other.now) l.further) l.list

abbrev pub decreases-loop-rest : goal.decreases-loop-rest
decreases-loop-rest l = left (option_map (λ text. text.now) l.rest)
