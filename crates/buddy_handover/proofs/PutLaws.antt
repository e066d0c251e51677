-- Runs of free frames after more frames became free.
use Rattle.std.proofs.Common.{◌≡◌, ℕ, ◌+◌, ◌^◌, ◌≤◌, None, List, refl, ◌∙◌, arith}
use Rattle.bm_base.specs.Range.{RangeView, covers}
use Rattle.address_runs.specs.Runs.{RunOf, IsRunsOf, value_at}
use Rattle.address_runs.specs.Edits.{replace_in_range, uncover_range, IsEmptyFrom}
use Rattle.std.proofs.lemmas.Bool.{cond_both}
use Rattle.address_runs.proofs.EditLaws.{nothing-replaced}
use Rattle.buddy_blocks.specs.declared.run.TheConstants.{MAX_FRAMES}

pub low_put : (r : RangeView) (node : ℕ) (rs new : List (RunOf ℕ)) → r.base + r.size ≤ MAX_FRAMES → IsEmptyFrom MAX_FRAMES (value_at rs)
    → IsRunsOf (replace_in_range r node (value_at rs)) new → IsEmptyFrom MAX_FRAMES (value_at new)
low_put r node rs new low none known x high = known.each x ∙ nothing-replaced MAX_FRAMES r node (value_at rs) low none x high

pub in_space : (rs : List (RunOf ℕ)) → IsEmptyFrom MAX_FRAMES (value_at rs) → IsEmptyFrom (2 ^ 64) (value_at rs)
in_space rs none x high = none x (omega arith)

pub low_cut : (r : RangeView) (rs new : List (RunOf ℕ)) → IsEmptyFrom MAX_FRAMES (value_at rs)
    → IsRunsOf (uncover_range r (value_at rs)) new
    → IsEmptyFrom MAX_FRAMES (value_at new)
low_cut r rs new none known x high = known.each x ∙ cond_both (covers r x) None _ (λ o. o ≡ None) (λ on. refl) (λ off. none x high)
