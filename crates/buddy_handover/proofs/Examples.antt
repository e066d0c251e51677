-- Free frames, and the handover in progress, computed.
use Rattle.std.proofs.Common.{◌≡◌, Some, None, [], ◌∷◌, refl}
use Rattle.memblock_model.specs.Labels.{Labels}
use Rattle.buddy_blocks.specs.Frames.{Frames}
use Rattle.memblock_frames.proofs.ClaimLaws.{unclaimed_bare}
use Rattle.buddy_handover.specs.BuddyView.{BuddyView, node_of_free_frame}
use Rattle.buddy_handover.specs.Handover.{free_unclaimed_frames, unclaimed_frames}

abbrev some_frames : BuddyView
some_frames = record { runs = record { base = 4; size = 2; value = 7 } ∷ []; spare = 0 }

free_examples : (node_of_free_frame some_frames 5 ≡ Some 7) × (node_of_free_frame some_frames 6 ≡ None)
free_examples = (refl, refl)

-- no byte has a label, and no frame is free
abbrev nobody : Labels
nobody x = None

abbrev none_free : Frames
none_free x = None

-- without a reserved byte the frames become free, and others stay as they were
freed_examples : (free_unclaimed_frames 4 6 7 nobody none_free 5 ≡ Some 7) × (free_unclaimed_frames 4 6 7 nobody none_free 6 ≡ None)
freed_examples = (rw (unclaimed_bare nobody 5 (λ y above below. refl)) refl, refl)

-- what isn't memory isn't free
unclaimed_example : unclaimed_frames nobody nobody 5 ≡ None
unclaimed_example = rw (unclaimed_bare nobody 5 (λ y above below. refl)) refl
