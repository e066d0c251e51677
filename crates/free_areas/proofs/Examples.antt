-- Worked examples: the index of a single free frame.
use Rattle.std.proofs.Common.{◌≡◌, ℕ, ◌/◌, nat_le, nat_lt, ◌&&◌, Some, None, [], ◌∷◌, if◌then◌else◌, refl, sym, ◌∙◌, ap, subst, inl, inr, ⊎_elim, arith}
use Rattle.std.proofs.lemmas.Bool.Decides.{nat_tests}
use Rattle.std.proofs.lemmas.Bool.{cases_Bool}
use Rattle.std.proofs.Math.Nat.{div-one}
use Rattle.bm_base.specs.declared.zone.Zone.TheVariants as zone
use Rattle.bm_base.specs.Zones.{zone_of}
use Rattle.buddy_blocks.specs.declared.block.Block.{Block}
use Rattle.buddy_blocks.specs.Frames.{Frames, IsBlock}
use Rattle.buddy_blocks.proofs.BuddyLaws.{one_at}
use Rattle.free_areas.specs.Areas.{FollowsLargestBlock, IndexesFreeBlocks, AreLargestInSameZone}

-- frame 5 alone is free, on node 7
abbrev lone : Frames
lone x = if nat_le 5 x && nat_lt x 6 then Some 7 else None

abbrev lone_block : Block
lone_block = record { order = 0; first = 5; node = 7; zone = zone.Dma }

abbrev great : ℕ → Block
great first = record { order = 10; first = first; node = 7; zone = zone.Dma }

lone_at : (x n : ℕ) → lone x ≡ Some n → x ≡ 5
lone_at x n is = elim (cases_Bool (nat_le 5 x && nat_lt x 6)) as (λ _. x ≡ 5) [
  | inl on ↦ grind (arith, nat_tests)
  | inr off ↦ let none : None ≡ Some n = sym (rw off refl) ∙ is in cc
]

lone_is : (x : ℕ) → x / 1 ≡ 5 → x ≡ 5
lone_is x same = sym (div-one x) ∙ same

lone_is_block : IsBlock lone lone_block
lone_is_block = record {
  small = omega arith;
  aligned = refl;
  good = λ x same. (ap lone (lone_is x same), ap zone_of (lone_is x same));
  whole = λ less good. let none : None ≡ Some 7 = (good 4 refl).0 in cc none;
}

lone_alone : (c : Block) → IsBlock lone c → lone_block ≡ c
lone_alone c block =
    let here : c.first ≡ 5 = lone_at c.first c.node (block.good c.first refl).0 in
    one_at lone lone_block c lone_is_block block (sym here)

-- its block is the index; a list without it isn't
area_examples : IndexesFreeBlocks lone (lone_block ∷ []) × (IndexesFreeBlocks lone [] → ⊥)
area_examples = (
  record {
    sound = λ b has. ⊎_elim (λ (is : lone_block ≡ b). subst (λ (c : Block). IsBlock lone c) is lone_is_block)
        (λ (none : ⊥). absurd none) has;
    complete = λ b is. inl (inl (lone_alone b is));
  },
  λ areas. ⊎_elim (λ (none : ⊥). none)
      (λ (follows : FollowsLargestBlock lone lone_block). let ten = follows.great in absurd (omega (arith, ten)))
      (areas.complete lone_block lone_is_block),
)

-- a block at frame 0 comes after no other, and neither does a single frame
follow_examples : (FollowsLargestBlock lone (great 0) → ⊥)
    × (FollowsLargestBlock lone (record { order = 0; first = 1029; node = 7; zone = zone.Dma }) → ⊥)
follow_examples = (
  λ follows. let room = follows.room in absurd (omega (arith, room)),
  λ follows. let ten = follows.great in absurd (omega (arith, ten)),
)

like_examples : AreLargestInSameZone (great 0) (great 1024)
    × (AreLargestInSameZone (great 0) (record { order = 10; first = 1024; node = 8; zone = zone.Dma }) → ⊥)
    × (AreLargestInSameZone (great 0) lone_block → ⊥)
like_examples = (
  record { great = refl; order = refl; node = refl; zone = refl },
  λ like. let node = like.node in absurd (omega (arith, node)),
  λ like. let order = like.order in absurd (omega (arith, order)),
)
