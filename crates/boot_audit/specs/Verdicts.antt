-- The verdict on saved reports: sound, or the first fault. Faults are of five kinds.
use Rattle.std.specs.Prelude.{ℕ, zero, suc, ◌+◌, ◌^◌, ◌<◌, ◌&&◌, Bool, not, if◌then◌else◌, List, [], ◌∷◌, Option, Some, None}
use Rattle.bm_base.specs.Range.{RangeView}
use Rattle.bm_base.specs.Width.{address_limit_of}
use Rattle.bm_base.specs.declared.width.Width.{Width}
use Rattle.audit_lines.specs.Blocks.{BlockLineView}
use Rattle.audit_lines.specs.declared.lines.MapLine.{MapLine}
use Rattle.boot_audit.specs.declared.judgement.Saved.{Saved}
use Rattle.boot_audit.specs.declared.judgement.Verdict.{Verdict}
use Rattle.boot_audit.specs.declared.judgement.Verdict.TheVariants as verdicts
use Rattle.boot_audit.specs.Frames.{could_merge, is_in_a_block, is_aligned, is_in_zone, is_untouched, is_usable}

-- the number of the first line whose block passes the test `p`; the first line of the list has
-- number `n`
abbrev pub first_line_passing : (BlockLineView → Bool) → ℕ → List BlockLineView → Option ℕ
first_line_passing p n [] = None
first_line_passing p n (b ∷ bs) = if p b then Some n else first_line_passing p (n + 1) bs

-- the number that was found, or else `n` if `passes` says that `n` passes the test
abbrev pub or_this : ℕ → Bool → Option ℕ → Option ℕ
or_this n passes (Some m) = Some m
or_this n passes None = if passes then Some n else None

-- the least number below n that passes the test `p`
unfoldable pub least_below : (ℕ → Bool) → ℕ → Option ℕ
least_below p zero = None
least_below p (suc n) = or_this n (p n) (least_below p n)

-- the lowest frame that passes the test `p`; addresses are below 2^52, so frame numbers are below
-- 2^40
abbrev pub least_frame : (ℕ → Bool) → Option ℕ
least_frame p = least_below p (2 ^ 40)

-- whether the frame is free: all its bytes are memory below the limit, and none has an owner
abbrev pub is_free : ℕ → List MapLine → List RangeView → ℕ → Bool
is_free limit map owners frame = is_usable limit map frame && is_untouched owners frame

-- whether the frame is in a block, but not free
abbrev pub is_in_block_but_not_free : ℕ → List MapLine → List RangeView → List BlockLineView → ℕ → Bool
is_in_block_but_not_free limit map owners blocks frame = is_in_a_block blocks frame && not (is_free limit map owners frame)

-- whether the frame is lost: free, but in no block
abbrev pub is_lost : ℕ → List MapLine → List RangeView → List BlockLineView → ℕ → Bool
is_lost limit map owners blocks frame = is_free limit map owners frame && not (is_in_a_block blocks frame)

-- the verdict for the first kind of fault that was found. There is one argument for each kind, in
-- their order: the number of the line or of the frame with the first fault of this kind, if there
-- is one.
abbrev pub verdict_of_faults : Option ℕ → Option ℕ → Option ℕ → Option ℕ → Option ℕ → Verdict
verdict_of_faults (Some line) misplaced taken lost parted = verdicts.Misaligned line
verdict_of_faults None (Some line) taken lost parted = verdicts.WrongZone line
verdict_of_faults None None (Some frame) lost parted = verdicts.NotFree frame
verdict_of_faults None None None (Some frame) parted = verdicts.Lost frame
verdict_of_faults None None None None (Some line) = verdicts.NotMaximal line
verdict_of_faults None None None None None = verdicts.Sound

-- the verdict on the lines of the three reports, for physical addresses below `limit`
abbrev pub verdict_on_lines : ℕ → List MapLine → List RangeView → List BlockLineView → Verdict
verdict_on_lines limit map owners blocks =
    verdict_of_faults
    (first_line_passing (λ b. not (is_aligned b)) 1 blocks)
    (first_line_passing (λ b. not (is_in_zone b)) 1 blocks)
    (least_frame (is_in_block_but_not_free limit map owners blocks))
    (least_frame (is_lost limit map owners blocks))
    (first_line_passing (could_merge blocks) 1 blocks)

-- the verdict on saved reports, for physical addresses of this width
abbrev pub verdict_on_saved : Saved → Width → Verdict
verdict_on_saved saved width = verdict_on_lines (address_limit_of width) saved.map.items saved.owners.items saved.blocks.items

-- the frame that the verdict names, if it names one, is below 2^40
abbrev pub HasFrameInSpace : Verdict → Type 0
HasFrameInSpace (verdicts.NotFree frame) = frame < 2 ^ 40
HasFrameInSpace (verdicts.Lost frame) = frame < 2 ^ 40
HasFrameInSpace verdict = Unit {0}
