-- Memory after the stage that gives it its nodes (`numa_init`).
use Rattle.std.specs.Prelude.{◌≡◌, ℕ, ◌*◌, ◌/◌, ◌<◌, Some}
use Rattle.bm_base.specs.declared.range.TheConstants.{FRAME_SIZE}
use Rattle.address_runs.specs.Edits.{IsEmptyFrom}
use Rattle.memblock_model.specs.Labels.{LabelView, Labels}

-- `f` has the same value at all bytes of a frame
abbrev pub IsConstantInFrames : {T : Type 0} → (ℕ → T) → Type 0
IsConstantInFrames f = (x : ℕ) → f x ≡ f (FRAME_SIZE * (x / FRAME_SIZE))

-- memory is whole frames below the limit, each with a node below 1,024 (`MAX_NUMNODES`)
pub record IsMemoryWithNodes (limit : ℕ) (f : Labels) : Type 0 where
  pub frames : IsConstantInFrames f
  pub nodes : (x : ℕ) (label : LabelView) → f x ≡ Some label → (node : ℕ) × (label.node ≡ Some node) × (node < 1024)
  pub within : IsEmptyFrom limit f
