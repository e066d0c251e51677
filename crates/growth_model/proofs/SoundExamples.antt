-- Examples of small places and owners, computed: where a table may lie, what overlaps it, and what
-- may be claimed.
use Rattle.std.proofs.Common.{◌≡◌, ℕ, ◌%◌, ◌≤◌, true, false, nat_lt, if◌then◌else◌, Some, None, List, [], ◌∷◌, ◌++◌, refl, inl, inr, arith}
use Rattle.std.proofs.lemmas.Bool.Decides.{nat_tests}
use Rattle.memblock_model.specs.declared.owner.Which.TheVariants as which
use Rattle.memblock_model.specs.declared.owner.Owner.TheVariants as owner
use Rattle.memblock_model.specs.declared.item.Item.{Item}
use Rattle.memblock_model.specs.declared.item.Item.TheVariants as item
use Rattle.bm_base.specs.Range.{covers}
use Rattle.memblock_model.specs.Items.{Owners, owner_of}
use Rattle.growth_model.specs.Tables.{may_hold_table, IsTablePlace, ShareNoFrame, AreDisjoint, TablesAreClaimed, IsKernelImage, OverlapsNoTable, MayClaim}
use Rattle.growth_model.proofs.FirstLaws.{first-placed}
use Rattle.growth_model.proofs.GrowthExamples.{image, frame}

-- a table may lie in bytes of the kernel and of a table, and not in unclaimed ones
keeps_examples : (may_hold_table (Some owner.Kernel) ≡ true) × (may_hold_table (Some (owner.Table which.Reserved)) ≡ true)
    × (may_hold_table None ≡ false)
keeps_examples = (refl, refl, refl)

-- the first four frames are the kernel's, except one byte of the script in the third
abbrev claims : Owners
claims x = if nat_lt x 9000 then Some owner.Kernel else (if nat_lt x 9001 then Some (owner.Script 1) else
    (if nat_lt x 16384 then Some owner.Kernel else None))

-- a table may lie in the first two frames
a_spot : (base : ℕ) → base % 4096 ≡ 0 → base ≤ 4096 → IsTablePlace claims (record { base = base; size = 3072 })
a_spot base aligned below = record {
  aligned = aligned;
  kept = λ x at. let low : nat_lt x 9000 ≡ true = grind (arith, nat_tests, below, at) in rw low refl;
}

-- no table may lie in a range that isn't aligned, in one that begins inside a frame, or in one
-- that has the script's byte
no_spots : (IsTablePlace claims (record { base = 4097; size = 16 }) → ⊥) × (IsTablePlace claims (record { base = 2048; size = 16 }) → ⊥)
    × (IsTablePlace claims (record { base = 8192; size = 3072 }) → ⊥)
no_spots = (
  λ seat. let aligned = seat.aligned in cc,
  λ seat. let aligned = seat.aligned in cc,
  λ seat. let kept = seat.kept 9000 refl in cc,
)

-- two frames are apart
two_frames_apart : ShareNoFrame (record { base = 0; size = 3072 }) (record { base = 4096; size = 3072 })
two_frames_apart x y at_x at_y same = grind (arith, nat_tests, at_x, at_y, same)

-- the same frame twice isn't, and neither are both halves of one frame
sharing_examples : (ShareNoFrame (record { base = 0; size = 16 }) (record { base = 32; size = 16 }) → ⊥)
    × (ShareNoFrame (record { base = 0; size = 16 }) (record { base = 2048; size = 16 }) → ⊥)
sharing_examples = (λ apart. apart 0 32 refl refl refl, λ apart. apart 0 2048 refl refl refl)

-- both ranges are in one frame, but have no byte in common
one_frame_clear : AreDisjoint (record { base = 0; size = 16 }) (record { base = 32; size = 16 })
one_frame_clear x at_a at_b = grind (arith, nat_tests, at_a, at_b)

one_byte_in_both : AreDisjoint (record { base = 0; size = 33 }) (record { base = 32; size = 16 }) → ⊥
one_byte_in_both clear = clear 32 refl refl

-- the kernel's image: its last two frames hold the tables at first
is_image : IsKernelImage image
is_image = record { whole = refl; large = omega arith }

-- one frame is too small, and an image doesn't end inside a frame
no_images : (IsKernelImage (frame 16) → ⊥) × (IsKernelImage (record { base = 65536; size = 16000 }) → ⊥)
no_images = (λ known. let large = known.large in omega arith, λ known. let whole = known.whole in cc)

abbrev begun : List Item
begun = item.Claim image owner.Kernel ∷ []

placed_at_first : TablesAreClaimed image begun
placed_at_first = first-placed image is_image

nothing_placed : TablesAreClaimed image [] → ⊥
nothing_placed placed = let first = placed.first in cc

-- after the script claimed a frame of the image no table may lie there; in the next frame one may
abbrev scripted : Owners
scripted = owner_of (begun ++ item.Claim (frame 16) (owner.Script 1) ∷ [])

not_where_the_script_claimed : IsTablePlace scripted (record { base = 65536; size = 3072 }) → ⊥
not_where_the_script_claimed seat = let kept = seat.kept 65536 refl in cc

beside_the_scripts_frame : IsTablePlace scripted (record { base = 69632; size = 3072 })
beside_the_scripts_frame = record {
  aligned = refl;
  kept = λ x at. let after : covers (frame 16) x ≡ false = grind (arith, nat_tests, at) in
      let among : covers image x ≡ true = grind (arith, nat_tests, at) in rw (after, among) refl;
}

-- the first frames of the image overlap no table, and its last two do
away : OverlapsNoTable image (frame 16) begun
away = (λ x at_a at_t. grind (arith, nat_tests, at_a, at_t), λ x at_a at_t. grind (arith, nat_tests, at_a, at_t))

not_away : OverlapsNoTable image (frame 18) begun → ⊥
not_away known = known.0 73728 refl refl

-- the image is claimed first, only for the kernel; then others may claim the tables' bytes, and
-- the script bytes outside them
may_claim_examples : (MayClaim image [] image owner.Kernel) × (MayClaim image [] image owner.Soft → ⊥)
    × (MayClaim image begun (frame 18) owner.Soft) × (MayClaim image begun (frame 16) (owner.Script 1))
may_claim_examples = ((refl, refl), λ may. let who = may.1 in cc, inl refl, inr away)

script_not_there : MayClaim image begun (frame 18) (owner.Script 1) → ⊥
script_not_there (inl kept) = cc
script_not_there (inr known) = not_away known
