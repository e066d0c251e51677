-- The four facts: what a boot that isn't stopped makes of each frame.
use Rattle.std.proofs.Common.{◌≡◌, ℕ, Option, Some, None, Ok, refl, subst, inl, inr}
use Rattle.address_runs.specs.Edits.{IsEmptyFrom}
use Rattle.buddy_blocks.specs.declared.run.TheConstants.{MAX_FRAMES}
use Rattle.buddy_blocks.proofs.BlockLaws.{listed_sound}
use Rattle.boot_model.specs.Boot.{ExtraView, InputsView, BootedView, whole_boot_with}
use Rattle.boot_model.proofs.MemoryLaws.{booted_memory_is_usable}
use Rattle.boot_model.proofs.NodedLaws.{noded_told}
use Rattle.conservation.specs.RecordedClaims.{IsTouched}
use Rattle.conservation.specs.Headline.{BlocksAreMaximal, AllTouchedOrInOneBlock, BlocksAreWhole, IsTouchedOrInOneBlock, NoOtherInABlock, block_with_buddy}
use Rattle.conservation.proofs.ClaimedLaws.{touched_apart, touched_or_not}
use Rattle.conservation.proofs.CountLaws.{in_block, in_buddies, no_block_with, one_block_with, free_with_block}
use Rattle.conservation.proofs.ToldLaws.{is_told_of}
use Rattle.conservation.proofs.FreeLaws.{HasUsableMemory, alone, free_frame_is_reported, free_of_some, told_below, reported_frame_is_free}

pub is_told : (extra : ExtraView) (inputs : InputsView) (t : BootedView) → whole_boot_with extra inputs ≡ Ok t → HasUsableMemory inputs t
is_told extra inputs t ends =
    let of = is_told_of extra inputs t ends in
    subst (λ (u : BootedView). HasUsableMemory inputs u) of.tells (record {
      memory = λ x. booted_memory_is_usable extra inputs of.made x of.boots;
      noded = noded_told extra inputs of.made of.boots;
      free = refl;
      after = refl;
    })

module _ (extra : ExtraView) (inputs : InputsView) (t : BootedView) (ends : whole_boot_with extra inputs ≡ Ok t) where
  known : HasUsableMemory inputs t
  known = is_told extra inputs t ends

  pub below : IsEmptyFrom MAX_FRAMES t.free
  below = told_below inputs t known

  -- a touched frame isn't free
  not_free : (frame : ℕ) (o : Option ℕ) → IsTouched t.items frame → t.free frame ≡ o → t.free frame ≡ None
  not_free frame None touched is = is
  not_free frame (Some node) touched is =
      absurd (touched_apart t.items frame touched (reported_frame_is_free inputs t known (alone frame node) frame is refl).untouched)

  pub all_touched_or_in_one : AllTouchedOrInOneBlock inputs t
  all_touched_or_in_one frame usable = elim (touched_or_not t.items frame) as (λ _. IsTouchedOrInOneBlock t frame) [
    | inl touched ↦ inl (touched, no_block_with t.free frame (not_free frame (t.free frame) touched refl))
    | inr bare ↦
        (let some = free_of_some inputs t known frame usable bare in
        inr (bare, one_block_with t.free frame some.0 below some.1))
  ]

  pub no_other_in_a_block : NoOtherInABlock inputs t
  no_other_in_a_block frame some =
      let free = free_with_block t.free frame some in
      let is = reported_frame_is_free inputs t known (alone frame free.0) frame free.1 refl in
      (is.usable, is.untouched)

  pub blocks_whole : BlocksAreWhole inputs t
  blocks_whole b listed =
      let block = listed_sound t.free b listed in
      record {
        small = block.small;
        aligned = block.aligned;
        frames = λ frame inside.
            (let good = block.good frame (in_block b frame block.aligned inside) in
            reported_frame_is_free inputs t known b frame good.0 good.1);
      }

  pub blocks_maximal : BlocksAreMaximal inputs t
  blocks_maximal b listed less all =
      (listed_sound t.free b listed).whole less (λ frame same.
      (let is = all frame (in_buddies b frame same) in
      (free_frame_is_reported inputs t known (block_with_buddy b) frame is, is.zone)))
