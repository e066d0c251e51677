-- Mirrored memory, from the value of `--mirror`: a list of ranges, each written `BASE,SIZE`, with
-- colons between them.
use Rattle.std.specs.Prelude.{ℕ, ◌≤◌, ◌<◌, Bool, ◌&&◌, is_some, nat_le, if◌then◌else◌, List, [], length, Option, Some, None}
use Rattle.std.specs.List.{filter_map, list_all}
use Rattle.bm_base.specs.Range.{RangeView, end_of}
use Rattle.bm_base.specs.Frames.{frames_within}
use Rattle.bm_base.specs.OptionSteps.{◌>>=◌}
use Rattle.text_words.specs.declared.separators.Separators.TheVariants.{Byte}
use Rattle.text_words.specs.Parts.{parts_in}
use Rattle.program_args.specs.Range.{base_size_range}

-- there is a range, and the address lies in it
abbrev pub LiesInRange : Option RangeView → ℕ → Type 0
LiesInRange None x = ⊥
LiesInRange (Some range) x = (range.base ≤ x) × (x < end_of range)

-- the pieces of the list between its colons; the empty list has one empty piece
abbrev pub mirror_pieces_in : List ℕ → List (List ℕ)
mirror_pieces_in list = parts_in (Byte 58) list

-- whether the list has 1 to 64 pieces, and each has the form `BASE,SIZE`
abbrev pub are_mirror_pieces : List ℕ → Bool
are_mirror_pieces list =
    nat_le (length (mirror_pieces_in list)) 64 && list_all (λ piece. is_some (base_size_range piece)) (mirror_pieces_in list)

-- the whole frames in the piece's range; `None` if the piece isn't a range, or its range has no
-- whole frame
abbrev pub piece_frames : List ℕ → Option RangeView
piece_frames piece = base_size_range piece >>= frames_within

-- the whole frames of each piece that has some, in the order of the list
abbrev pub mirrors_in_list : List ℕ → List RangeView
mirrors_in_list list = filter_map piece_frames (mirror_pieces_in list)

-- the mirrored ranges of whole frames: an empty list if `--mirror` isn't given, and `None` if its
-- value isn't a list of 1 to 64 ranges
abbrev pub mirrors_of_value : Option (List ℕ) → Option (List RangeView)
mirrors_of_value None = Some []
mirrors_of_value (Some list) = if are_mirror_pieces list then Some (mirrors_in_list list) else None
