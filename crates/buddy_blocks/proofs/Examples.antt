-- Worked examples of small sets of free frames.
use Rattle.std.proofs.Common.{◌≡◌, ℕ, ◌+◌, ◌*◌, ◌^◌, ◌/◌, nat_le, nat_lt, true, false, ◌&&◌, Some, None, [], ◌∷◌, if◌then◌else◌, refl, sym, ◌∙◌, ap, subst, inl, inr, arith}
use Rattle.std.proofs.lemmas.Bool.Decides.{nat_tests}
use Rattle.std.proofs.Math.Nat.{div-one}
use Rattle.std.proofs.lemmas.Option.{cond_some}
use Rattle.std.specs.Option.{option_map}
use Rattle.address_runs.specs.Edits.{IsEmptyFrom}
use Rattle.bm_base.specs.Each.{each_from, each_in}
use Rattle.bm_base.specs.declared.zone.Zone.TheVariants as zone
use Rattle.bm_base.specs.Zones.{zone_of}
use Rattle.buddy_blocks.specs.declared.block.Block.{Block}
use Rattle.buddy_blocks.specs.declared.block.TheConstants.{MAX_ORDER}
use Rattle.buddy_blocks.specs.declared.block.BlockRow.{BlockRow}
use Rattle.buddy_blocks.specs.Frames.{Frames, IsInSet, IsFreeInOneZone, IsBlock}
use Rattle.buddy_blocks.specs.BlockList.{are_free, greatest_free_order, block_around, AscendFrom}
use Rattle.buddy_blocks.specs.Rows.{AreJoinableRows, AreCanonicalRows}
use Rattle.buddy_blocks.specs.Sets.{IsWholeNodeRun, SetFits, LastRowFulfils, LastFrameIsFree}
use Rattle.buddy_blocks.specs.declared.run.TheConstants.{MAX_FRAMES}
use Rattle.buddy_blocks.specs.Buddies.{without_set, with_set, RemovesFrameSet, buddy_first, buddy_of, IsBuddy}
use Rattle.buddy_blocks.specs.PickedBlock.{CanServe, IsPicked, NoneServes, picked_block, picked_first_frame}
use Rattle.buddy_blocks.proofs.BuddyLaws.{one_at, without_is}
use Rattle.buddy_blocks.proofs.PickLaws.{picked_is, picked_none}

-- frames of addresses below 2^52; and the largest order of the page allocator's lists (`MAX_ORDER`
-- of 6.1 is the number of orders, 11)
numbers : (MAX_FRAMES * 4096 ≡ 2 ^ 52) × (MAX_ORDER + 1 ≡ 11)
numbers = (refl, refl)

-- frames 4 and 5 are free, on node 7; or frame 5 alone
abbrev pair : Frames
pair x = if nat_le 4 x && nat_lt x 6 then Some 7 else None

abbrev lone : Frames
lone x = if nat_le 5 x && nat_lt x 6 then Some 7 else None

set_examples : IsInSet 1 4 5 × (IsInSet 1 4 6 → ⊥) × IsInSet 2 4 6
set_examples = (refl, (λ same. absurd (omega arith)), refl)

-- the pair is one set of order 1, and the lone frame one of order 0
order_examples : (greatest_free_order pair 5 7 2 ≡ 1) × (greatest_free_order lone 5 7 2 ≡ 0)
unfolding greatest_free_order are_free each_in each_from
order_examples = (refl, refl)

-- frame 5 alone is a block, since its buddy isn't free
lone_is : (x : ℕ) → x / 1 ≡ 5 → x ≡ 5
lone_is x same = sym (div-one x) ∙ same

one_block : Block
one_block = record { order = 0; first = 5; node = 7; zone = zone.Dma }

lone_is_block : IsBlock lone one_block
unfolding one_block
lone_is_block = record {
  small = omega arith;
  aligned = refl;
  good = λ x same. (ap lone (lone_is x same), ap zone_of (lone_is x same));
  whole = λ less good. let none : None ≡ Some 7 = (good 4 refl).0 in cc none;
}

-- the larger set around it isn't good
not_good : IsFreeInOneZone lone 1 5 7 zone.Dma → ⊥
not_good good = let none : None ≡ Some 7 = (good 4 refl).0 in cc none

ascend_examples : AscendFrom 0 (block_around 0 5 7 ∷ (block_around 1 9 7 ∷ [])) × (AscendFrom 6 (block_around 0 5 7 ∷ []) → ⊥)
ascend_examples = ((omega arith, (omega arith, tt)), λ ascend. absurd (omega (arith, ascend.0)))

-- the pair is a run, and only the set of order 1 fits
pair_is_run : IsWholeNodeRun pair 4 6 7
pair_is_run = record {
  inside = λ x above below. let on : (nat_le 4 x && nat_lt x 6) ≡ true = grind (arith, nat_tests) in rw on refl;
  before = λ x next same.
      let on = cond_some (nat_le 4 x && nat_lt x 6) 7 7 same in
      absurd (grind (arith, nat_tests, on.0));
  after = λ same. cc same;
}

fit_examples : SetFits 4 6 5 2 × (SetFits 4 6 5 4 → ⊥)
fit_examples = (record { above = omega arith; below = omega arith }, λ fits. let low = fits.below in absurd (omega (arith, low)))

-- two blocks of the largest order; a row that could be joined with theirs, and one of another node
-- instead
abbrev great_row : ℕ → ℕ → ℕ → BlockRow
great_row first count node = record { order = 10; first = first; count = count; node = node; zone = zone.Dma }

one_row_examples : AreJoinableRows (great_row 0 2 0) (great_row 2048 1 0) × (AreJoinableRows (great_row 0 2 0) (great_row 2048 1 1) → ⊥)
    × (AreJoinableRows (great_row 0 1 0) (great_row 2048 1 0) → ⊥)
one_row_examples = (
  record { great = refl; order = refl; node = refl; zone = refl; touch = refl },
  λ goes. let same = goes.node in absurd (omega (arith, same)),
  λ goes. let touch = goes.touch in absurd (omega (arith, touch)),
)

row_examples : AreCanonicalRows (great_row 0 2 0 ∷ (great_row 2048 1 1 ∷ []))
    × (AreCanonicalRows (great_row 0 2 0 ∷ (great_row 2048 1 0 ∷ [])) → ⊥)
    × (AreCanonicalRows (great_row 0 0 0 ∷ []) → ⊥)
    × (AreCanonicalRows (record { order = 1; first = 2; count = 2; node = 0; zone = zone.Dma } ∷ []) → ⊥)
row_examples = (
  (omega arith, inl refl, one_row_examples.1, (omega arith, inl refl, tt, tt)),
  λ are. are.2 one_row_examples.0,
  λ are. let some = are.0 in absurd (omega (arith, some)),
  λ are. elim are.1 as (λ _. ⊥) [
    | inl ten ↦ absurd (omega (arith, ten))
    | inr one ↦ absurd (omega (arith, one))
  ],
)

-- the last frame of the last row
last_examples : LastRowFulfils (LastFrameIsFree pair)
    (great_row 0 1 0 ∷ (record { order = 1; first = 4; count = 1; node = 7; zone = zone.Dma } ∷ []))
    × (LastRowFulfils (LastFrameIsFree pair) (great_row 0 1 0 ∷ []) → ⊥)
last_examples = ((omega arith, refl), λ ends. let none : None ≡ Some 0 = ends.1 in cc none)

-- the lone frame is picked for one frame; for two frames, or in another zone, nothing is picked
lone_at : (x n : ℕ) → lone x ≡ Some n → x ≡ 5
lone_at x n is = let on = cond_some (nat_le 5 x && nat_lt x 6) 7 n is in grind (arith, nat_tests, on.0)

serve_examples : CanServe 7 zone.Dma 0 one_block × (CanServe 7 zone.Dma 1 one_block → ⊥)
unfolding one_block
serve_examples = (record { node = refl; zone = refl; enough = omega arith }, λ serves. let h = serves.enough in absurd (omega (arith, h)))

lone_alone : (c : Block) → IsBlock lone c → one_block ≡ c
unfolding one_block
lone_alone c block = one_at lone one_block c lone_is_block block (sym (lone_at c.first c.node (block.good c.first refl).0))

lone_is_picked : IsPicked lone 7 zone.Dma 0 one_block
lone_is_picked = record {
  block = lone_is_block;
  serves = serve_examples.0;
  least = λ c block serves.
      let same = lone_alone c block in
      inr (ap (λ (b : Block). b.order) same, let first = ap (λ (b : Block). b.first) same in omega (arith, first));
}

lone_low : IsEmptyFrom MAX_FRAMES lone
lone_low x high = let off : (nat_le 5 x && nat_lt x 6) ≡ false = grind (arith, nat_tests) in rw off refl

none_of_two : NoneServes lone 7 zone.Dma 1
none_of_two b block serves = serve_examples.1 (subst (λ (c : Block). CanServe 7 zone.Dma 1 c) (sym (lone_alone b block)) serves)

pick_examples : (picked_block lone 7 zone.Dma 0 ≡ Some one_block) × (picked_block lone 7 zone.Dma 1 ≡ None)
    × (picked_first_frame lone 7 zone.Dma 0 ≡ Some 5) × (picked_first_frame lone 7 zone.Dma 1 ≡ None)
unfolding one_block
pick_examples =
    let some = picked_is lone 7 zone.Dma 0 one_block lone_low lone_is_picked in
    let none = picked_none lone 7 zone.Dma 1 lone_low none_of_two in
    (some, none, ap (option_map (λ (b : Block). b.first)) some, ap (option_map (λ (b : Block). b.first)) none)

-- frame 4 is removed from the pair: frame 5 is left, and is its buddy; then frame 4 is added back
leave_examples : (without_set 0 4 pair 4 ≡ None) × (without_set 0 4 pair 5 ≡ Some 7) × (without_set 1 4 pair 5 ≡ None)
leave_examples = (refl, refl, refl)

back_examples : (with_set 0 4 7 lone 4 ≡ Some 7) × (with_set 0 4 7 lone 5 ≡ Some 7) × (with_set 0 4 7 lone 6 ≡ None)
back_examples = (refl, refl, refl)

without_examples : RemovesFrameSet pair (without_set 0 4 pair) 0 4 × (RemovesFrameSet pair pair 0 4 → ⊥)
without_examples = (without_is 0 4 pair, λ without. let none : Some 7 ≡ None = without.gone 4 refl in cc none)

buddy_examples : (buddy_first 0 4 ≡ 5) × (buddy_first 1 5 ≡ 6) × (buddy_first 10 1024 ≡ 0)
    × (buddy_of (block_around 1 5 7) 0 4 ≡ block_around 0 5 7)
buddy_examples = (refl, refl, refl, refl)

left_examples : IsBuddy (block_around 1 5 7) 0 1 4 (block_around 0 5 7) × (IsBuddy (block_around 1 5 7) 1 1 4 (block_around 0 5 7) → ⊥)
left_examples = (
  record { order = 0; from = omega arith; below = omega arith; is = refl },
  λ it. let from = it.from in let below = it.below in absurd (omega (arith, from, below)),
)
