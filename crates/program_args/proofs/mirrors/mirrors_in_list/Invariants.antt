-- The frames found so far and those of the remaining pieces are those of the whole list.
use Rattle.std.proofs.Common.{◌≡◌, ◌++◌}
use Rattle.std.specs.List.{All, filter_map}
use Rattle.std.specs.Option.{option_map}
use Rattle.text_words.specs.declared.separators.Separators.TheVariants.{Byte}
use Rattle.text_words.specs.Parts.{parts_of_rest}
use Rattle.boot_model.specs.Mirrors.{IsMirror}
use Rattle.program_args.specs.Mirrors.{piece_frames, mirrors_in_list}
use Rattle.program_args.proofs.MirrorLaws.{left}
use Rattle.program_args.proofs.mirrors.mirrors_in_list.Given as goal

abbrev pub invariant-loop-rest : goal.invariant-loop-rest
invariant-loop-rest l = record {
  facts : All IsMirror l.mirrors.items;
  same : l.mirrors.items ++ filter_map piece_frames (parts_of_rest (Byte 58) (option_map (λ text. text.now) l.rest))
      ≡ mirrors_in_list l.list;
}

abbrev pub decreases-loop-rest : goal.decreases-loop-rest
decreases-loop-rest l = left (option_map (λ text. text.now) l.rest)
