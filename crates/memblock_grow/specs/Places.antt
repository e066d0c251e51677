-- The searches for an allocation and for the memory that a table moves to, as functions of the
-- tables. If `up` is true, a search goes from the lowest address up.
use Rattle.std.specs.Prelude.{◌≡◌, ℕ, ◌*◌, ◌==◌, Bool, true, false, min, if◌then◌else◌, Option, Some, None, List, [], ◌∷◌}
use Rattle.std.specs.Option.{option_map, option_or}
use Rattle.bm_base.specs.Range.{RangeView, end_of}
use Rattle.address_runs.specs.Runs.{value_at}
use Rattle.memblock_model.specs.declared.query.Query.{Query}
use Rattle.memblock_model.specs.declared.item.Item.{Item}
use Rattle.memblock_model.specs.Search.{is_allowed_mirror, outermost_fit, best_place_in}
use Rattle.boot_journal.specs.Mirrors.{has_mirrors}
use Rattle.memblock_ranges.specs.Tables.{TablesView}
use Rattle.growth_model.specs.Growth.{frames_for_bytes, table_query}
use Rattle.growth_model.specs.Request.{Attempt}
use Rattle.memblock_grow.specs.declared.places.AllocSettings.{AllocSettings}

-- if no item marks memory as mirrored, the memory table has no mirrored memory
abbrev pub MirrorsComeFromItems : List Item → TablesView → Type 0
MirrorsComeFromItems items t = has_mirrors items ≡ false → (x : ℕ) → is_allowed_mirror true (value_at t.memory.records x) ≡ false

-- the address that one search finds, or None. It searches what the memory table covers and the
-- reserved table doesn't.
abbrev pub top_place_in_tables : TablesView → Bool → Attempt → Option ℕ
top_place_in_tables t up a =
    outermost_fit (record { mirror = a.mirror; up = up }) (value_at t.memory.records) (value_at t.reserved.records) a.query

-- the address that a search for this query finds in mirrored memory, or None
abbrev pub mirrored_place_in_tables : TablesView → Bool → Query → Option ℕ
mirrored_place_in_tables t up q = top_place_in_tables t up (record { query = q; mirror = true })

-- the address that a search for this query finds in mirrored memory or, if it finds none there, in
-- any memory
abbrev pub best_place_in_tables : TablesView → Bool → Query → Option ℕ
best_place_in_tables t up q = best_place_in up (value_at t.memory.records) (value_at t.reserved.records) q

-- free frames for `2 * room` records of 24 bytes, at the best address between `lo` and `hi`
abbrev pub frames_between : TablesView → Bool → ℕ → ℕ → ℕ → Option RangeView
frames_between t up room lo hi =
    option_map (λ place. frames_for_bytes place (48 * room)) (best_place_in_tables t up (table_query room lo hi))

-- free frames for `2 * room` records of 24 bytes, at the best address above the range `avoid`, or
-- else at the best one below it
abbrev pub frames_beside : TablesView → AllocSettings → ℕ → RangeView → Option RangeView
frames_beside t aim room avoid = option_map (λ place. frames_for_bytes place (48 * room)) (option_or
    (best_place_in_tables t aim.upward (table_query room (end_of avoid) aim.limit))
    (best_place_in_tables t aim.upward (table_query room 0 (min avoid.base aim.limit))))

-- the frames that a table takes, from its address and room; None if the table has never moved (its
-- room is still 128), since its first frames are never freed
abbrev pub old_place_frames : ℕ → ℕ → Option RangeView
old_place_frames place room = if room == 128 then None else Some (frames_for_bytes place (24 * room))

-- the address that the first successful search finds, or None if all fail
abbrev pub first_place_in_tables : TablesView → Bool → List Attempt → Option ℕ
first_place_in_tables t up [] = None
first_place_in_tables t up (a ∷ rest) = option_or (top_place_in_tables t up a) (first_place_in_tables t up rest)
