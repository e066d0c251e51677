-- The lines of a boot's map, owners and blocks show that memory was conserved.
use Rattle.std.proofs.Common.{◌≡◌, ℕ, ◌^◌, ◌<◌, List, map, Ok, inl, inr, subst, ◌∙◌}
use Rattle.address_runs.specs.Edits.{IsEmptyFrom}
use Rattle.address_runs.specs.Runs.{IsRunsOf, range_of_run}
use Rattle.address_runs.proofs.RunsLaws.{runs_of_are_runs}
use Rattle.memblock_model.specs.Items.{owner_of, owner_runs_of}
use Rattle.memblock_model.specs.Same.{same_owner}
use Rattle.memblock_model.specs.declared.item.Item.{Item}
use Rattle.memblock_model.proofs.SameLaws.{same_owner_decides_equality}
use Rattle.boot_model.specs.Boot.{InputsView, BootedView, booted_address_limit, whole_boot, no_extra}
use Rattle.conservation.specs.Headline.{IsTouchedOrInOneBlock, booted_blocks, count_blocks_with}
use Rattle.conservation.proofs.HeadlineLaws.{all_touched_or_in_one, blocks_maximal, blocks_whole, no_other_in_a_block}
use Rattle.conservation.proofs.MapLaws.{usable_mapped}
use Rattle.audit_roundtrip.specs.PrintedLines.{line_of_block, line_of_run}
use Rattle.boot_audit.specs.Conserved.{LinesConserveMemory, IsTouchedOrInOne}
use Rattle.audit_soundness.proofs.BlockLaws.{blocks_sound}
use Rattle.audit_soundness.proofs.FrameLaws.{counted_told, told_usable, touched_told, untouched_told, usable_told}
use Rattle.conservation.proofs.ToldLaws.{own_told}

-- the runs of owners give each byte its owner
pub owner_runs : (items : List Item) → IsEmptyFrom (2 ^ 64) (owner_of items) → IsRunsOf (owner_of items) (owner_runs_of items)
unfolding owner_runs_of
owner_runs items ends = runs_of_are_runs same_owner same_owner_decides_equality (owner_of items) ends

module _ (inputs : InputsView) (booted : BootedView) (ends : whole_boot inputs ≡ Ok booted)
    (near : IsEmptyFrom (2 ^ 64) (owner_of booted.items)) where
  runs : IsRunsOf (owner_of booted.items) (owner_runs_of booted.items)
  runs = owner_runs booted.items near

  kept_told : (frame : ℕ) → IsTouchedOrInOneBlock booted frame
      → IsTouchedOrInOne (map range_of_run (owner_runs_of booted.items)) (map line_of_block (booted_blocks booted)) frame
  kept_told frame (inl touched) = inl (
    touched_told booted.items (owner_runs_of booted.items) runs frame touched.0,
    counted_told (booted_blocks booted) frame ∙ touched.1,
  )
  kept_told frame (inr bare) = inr (
    untouched_told booted.items (owner_runs_of booted.items) runs frame bare.0,
    counted_told (booted_blocks booted) frame ∙ bare.1,
  )

  pub lines_conserved : LinesConserveMemory (booted_address_limit booted) (map line_of_run booted.map)
      (map range_of_run (owner_runs_of booted.items))
      (map line_of_block (booted_blocks booted))
  lines_conserved = record {
    frames = λ frame usable.
        kept_told frame (all_touched_or_in_one no_extra inputs booted (own_told booted inputs ends) frame
        ((usable_mapped no_extra inputs booted frame (own_told booted inputs ends)).1
        (told_usable (booted_address_limit booted) booted.map frame usable)));
    others = λ frame some.
        (let has : 0 < count_blocks_with (booted_blocks booted) frame =
        subst (λ (n : ℕ). 0 < n) (counted_told (booted_blocks booted) frame) some in
        let free = no_other_in_a_block no_extra inputs booted (own_told booted inputs ends) frame has in (
          usable_told (booted_address_limit booted) booted.map frame
              ((usable_mapped no_extra inputs booted frame (own_told booted inputs ends)).0 free.0),
          untouched_told booted.items (owner_runs_of booted.items) runs frame free.1,
        ));
    each = blocks_sound inputs booted.items (booted_blocks booted) (blocks_whole no_extra inputs booted (own_told booted inputs ends))
        (blocks_maximal no_extra inputs booted (own_told booted inputs ends));
  }
