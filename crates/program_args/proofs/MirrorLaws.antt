-- Lemmas on the pieces of a list of ranges that a loop has still to read.
use Rattle.std.proofs.Common.{◌≡◌, ◌∙◌, ℕ, ◌+◌, Bool, ◌&&◌, is_some, nat_le, List, [], ◌∷◌, ◌++◌, Option, Some, None, length, append_assoc, refl, ap}
use Rattle.std.specs.List.{filter_map, list_all}
use Rattle.bm_base.specs.Range.{RangeView}
use Rattle.program_args.specs.Mirrors.{piece_frames}
use Rattle.program_args.specs.Range.{base_size_range}

-- the measure of the loops: 0 after the last piece, else one more than the number of bytes that are
-- left
abbrev pub left : Option (List ℕ) → ℕ
left None = 0
left (Some text) = length text + 1

-- whether these pieces, after `before` others, make at most 64, and each of these is a range
abbrev pub are_pieces_after : ℕ → List (List ℕ) → Bool
are_pieces_after before pieces = nat_le (before + length pieces) 64 && list_all (λ piece. is_some (base_size_range piece)) pieces

-- the frames found so far, those of the next piece and those of the rest are all frames of the list
pub frames_onward : (found : List RangeView) (frames : RangeView) (piece : List ℕ) (pieces rest : List (List ℕ)) → pieces ≡ piece ∷ rest
    → Some frames ≡ piece_frames piece → (found ++ frames ∷ []) ++ filter_map piece_frames rest ≡ found ++ filter_map piece_frames pieces
frames_onward found frames piece pieces rest are is =
    append_assoc found (frames ∷ []) (filter_map piece_frames rest) ∙ ap (λ more. found ++ more) (rw (are, ← is) refl)
