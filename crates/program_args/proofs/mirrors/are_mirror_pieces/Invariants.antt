-- The list is accepted exactly if the remaining pieces are accepted after the pieces so far.
use Rattle.std.proofs.Common.{◌≡◌, ◌≤◌}
use Rattle.std.specs.Option.{option_map}
use Rattle.text_words.specs.declared.separators.Separators.TheVariants.{Byte}
use Rattle.text_words.specs.Parts.{parts_of_rest}
use Rattle.program_args.specs.Mirrors.{are_mirror_pieces}
use Rattle.program_args.proofs.MirrorLaws.{are_pieces_after, left}
use Rattle.program_args.proofs.mirrors.are_mirror_pieces.Given as goal

abbrev pub invariant-loop-rest : goal.invariant-loop-rest
invariant-loop-rest l = record {
  few : l.pieces ≤ 64;
  same : are_pieces_after l.pieces (parts_of_rest (Byte 58) (option_map (λ text. text.now) l.rest)) ≡ are_mirror_pieces l.list;
}

abbrev pub decreases-loop-rest : goal.decreases-loop-rest
decreases-loop-rest l = left (option_map (λ text. text.now) l.rest)
