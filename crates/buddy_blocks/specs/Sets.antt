-- Aligned sets within the frames of a run, for the contracts of the functions that cut a run into
-- blocks.
use Rattle.std.specs.Prelude.{◌≡◌, ◌≢◌, ℕ, suc, ◌+◌, ◌-◌, ◌%◌, ◌^◌, ◌<◌, ◌≤◌, Some, List, [], ◌∷◌}
use Rattle.buddy_blocks.specs.declared.block.BlockRow.{BlockRow}
use Rattle.buddy_blocks.specs.Frames.{Frames}
use Rattle.buddy_blocks.specs.Rows.{row_end}

-- the frames from `first` to below `end` are a whole run of node `n`: all of them are free on it,
-- and neither the frame before nor the frame after them is
pub record IsWholeNodeRun (f : Frames) (first end n : ℕ) : Type 0 where
  pub inside : (x : ℕ) → first ≤ x → x < end → f x ≡ Some n
  pub before : (x : ℕ) → suc x ≡ first → f x ≢ Some n
  pub after : f end ≢ Some n

-- the aligned set of `s` frames that has `frame` lies in the frames from `first` to below `end`
pub record SetFits (first end frame s : ℕ) : Type 0 where
  pub above : first ≤ frame - frame % s
  pub below : frame - frame % s + s ≤ end

-- no aligned set that has the frame, and is of an order above `order` up to 10, lies in the frames
-- from `first` to below `end`
abbrev pub IsGreatestFittingOrder : ℕ → ℕ → ℕ → ℕ → Type 0
IsGreatestFittingOrder first end frame order = (o : ℕ) → order < o → o ≤ 10 → SetFits first end frame (2 ^ o) → ⊥

-- each aligned set that has frame `at`, and lies in the frames from `first` to below `end`, begins
-- at `at`
abbrev pub FittingSetsBeginAt : ℕ → ℕ → ℕ → Type 0
FittingSetsBeginAt first end at = (o : ℕ) → o ≤ 10 → SetFits first end at (2 ^ o) → at % 2 ^ o ≡ 0

-- the last row of the list, if there is one, fulfils P
abbrev pub LastRowFulfils : (BlockRow → Type 0) → List BlockRow → Type 0
LastRowFulfils P [] = Unit {0}
LastRowFulfils P (r ∷ []) = P r
LastRowFulfils P (r ∷ (q ∷ qs)) = LastRowFulfils P (q ∷ qs)

-- the last frame of the row is free, on the row's node
abbrev pub LastFrameIsFree : Frames → BlockRow → Type 0
LastFrameIsFree f r = (0 < row_end r) × (f (row_end r - 1) ≡ Some r.node)
