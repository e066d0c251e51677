-- Worked examples of small tables.
use Rattle.std.proofs.Common.{◌≡◌, ℕ, true, false, Some, None, [], ◌∷◌, refl, arith}
use Rattle.address_runs.specs.Runs.{RunOf, value_at}
use Rattle.memblock_model.specs.Labels.{LabelView, Labels, plain_label, with_node}
use Rattle.memblock_frames.specs.Frames.{valid_node, frames_of_record, node_of_frame, is_unclaimed, free_node_in}
use Rattle.memblock_frames.specs.HeadRecords.{AreAscendingBelow, AreWholeFrames}
use Rattle.memblock_frames.proofs.ClaimLaws.{claimed_byte, unclaimed_bare}
use Rattle.memblock_frames.proofs.WholeLaws.{free_by_first}

abbrev of_node : ℕ → LabelView
of_node n = with_node (Some n) plain_label

-- 40 bytes in frame 4, and frames 1 and 2 of node 3
abbrev forty : RunOf LabelView
forty = record { base = 0x4FC0; size = 0x28; value = plain_label }

abbrev two : RunOf LabelView
two = record { base = 0x1000; size = 0x2000; value = of_node 3 }

told_examples : (valid_node (Some 1023) ≡ Some 1023) × (valid_node (Some 1024) ≡ None)
told_examples = (refl, refl)

frames_examples : (frames_of_record forty ≡ record { first = 4; end = 5; node = None })
    × (frames_of_record two ≡ record { first = 1; end = 3; node = Some 3 })
    × (node_of_frame (value_at (two ∷ [])) 2 ≡ Some 3) × (node_of_frame (value_at (two ∷ [])) 3 ≡ None)
frames_examples = (refl, refl, refl, refl)

-- a frame is claimed if the table has a single byte of it
claimed_example : is_unclaimed (value_at (forty ∷ [])) 4 ≡ false
claimed_example = claimed_byte (value_at (forty ∷ [])) 4 0x4FC0 plain_label (omega arith) (omega arith) refl

abbrev nobody : Labels
nobody x = None

unclaimed_example : is_unclaimed nobody 4 ≡ true
unclaimed_example = unclaimed_bare nobody 4 (λ y above below. refl)

-- frame 2 is free if nothing is reserved
free_example : free_node_in (value_at (two ∷ [])) nobody 2 ≡ Some 3
free_example =
    rw (← free_by_first (two ∷ []) nobody 2 (refl, refl, tt), unclaimed_bare nobody 2 (λ y above below. refl)) refl

ascend_examples : AreAscendingBelow 0x5000 (two ∷ (forty ∷ [])) × (AreAscendingBelow 0x5000 (forty ∷ (two ∷ [])) → ⊥)
ascend_examples = (
  (omega arith, omega arith, omega arith, (omega arith, omega arith, tt, tt)),
  λ ascend. omega (arith, ascend.2),
)

whole_examples : AreWholeFrames (two ∷ []) × (AreWholeFrames (forty ∷ []) → ⊥)
whole_examples = ((refl, refl, tt), λ whole. omega (arith, whole.0))
