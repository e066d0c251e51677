-- Each zone is one range of frames.
use Rattle.std.proofs.Common.{◌≡◌, ℕ, ◌+◌, ◌≤◌, ◌&&◌, Bool, true, false, nat_lt, not, if◌then◌else◌, refl, sym, ◌∙◌, arith}
use Rattle.std.proofs.lemmas.Bool.Decides.{nat_tests}
use Rattle.bm_base.specs.Range.{end_of}
use Rattle.bm_base.specs.Zones.{zone_of}
use Rattle.bm_base.specs.declared.zone.Zone.{Zone}
use Rattle.bm_base.specs.declared.zone.Zone.TheVariants as zones
use Rattle.bm_base.proofs.EachLaws.{each_in-all, each_in-fails}
use Rattle.audit_lines.specs.Blocks.{BlockLineView}
use Rattle.boot_audit.specs.Frames.{frames_of_block, is_in_zone, same_zone}

abbrev zone_by : Bool → Bool → Zone
zone_by dma dma32 = if dma then zones.Dma else (if dma32 then zones.Dma32 else zones.Normal)

-- whether a frame is in the zone, from two tests of the frame's number
abbrev zone_test : Zone → Bool → Bool → Bool
zone_test zones.Dma dma dma32 = dma
zone_test zones.Dma32 dma dma32 = not dma && dma32
zone_test zones.Normal dma dma32 = not dma && not dma32

by_tests : (zone : Zone) (dma dma32 : Bool) → same_zone (zone_by dma dma32) zone ≡ zone_test zone dma dma32
by_tests zones.Dma true dma32 = refl
by_tests zones.Dma false true = refl
by_tests zones.Dma false false = refl
by_tests zones.Dma32 true dma32 = refl
by_tests zones.Dma32 false true = refl
by_tests zones.Dma32 false false = refl
by_tests zones.Normal true dma32 = refl
by_tests zones.Normal false true = refl
by_tests zones.Normal false false = refl

zone_is : (zone : Zone) (frame : ℕ) → same_zone (zone_of frame) zone ≡ zone_test zone (nat_lt frame 4096) (nat_lt frame 1048576)
zone_is zone frame = by_tests zone (nat_lt frame 4096) (nat_lt frame 1048576)

tests_between : (zone : Zone) (low frame high : ℕ) → low ≤ frame → frame ≤ high
    → zone_test zone (nat_lt low 4096) (nat_lt low 1048576) ≡ true → zone_test zone (nat_lt high 4096) (nat_lt high 1048576) ≡ true
    → zone_test zone (nat_lt frame 4096) (nat_lt frame 1048576) ≡ true
tests_between zones.Dma low frame high above below first last = grind (arith, nat_tests)
tests_between zones.Dma32 low frame high above below first last = grind (arith, nat_tests)
tests_between zones.Normal low frame high above below first last = grind (arith, nat_tests)

between : (zone : Zone) (low frame high : ℕ) → low ≤ frame → frame ≤ high
    → same_zone (zone_of low) zone ≡ true → same_zone (zone_of high) zone ≡ true → same_zone (zone_of frame) zone ≡ true
between zone low frame high above below first last =
    zone_is zone frame
    ∙ tests_between zone low frame high above below (sym (zone_is zone low) ∙ first) (sym (zone_is zone high) ∙ last)

-- a block lies in its zone exactly if its first and its last frame do
pub ends_tell : (b : BlockLineView) (first last : ℕ) (r : Bool) → first ≡ (frames_of_block b).base → last + 1 ≡ end_of (frames_of_block b)
    → first ≤ last → same_zone (zone_of first) b.zone ≡ true → r ≡ same_zone (zone_of last) b.zone → r ≡ is_in_zone b
unfolding is_in_zone
ends_tell b first last true is end some low high =
    sym (each_in-all (frames_of_block b) (λ frame. same_zone (zone_of frame) b.zone)
    (λ frame above below. between b.zone first frame last (omega arith) (omega arith) low (sym high)))
ends_tell b first last false is end some low high =
    sym (each_in-fails (frames_of_block b) (λ frame. same_zone (zone_of frame) b.zone) last (omega arith) (omega arith) (sym high))

pub first_tells : (b : BlockLineView) (first last : ℕ) (r : Bool) → first ≡ (frames_of_block b).base → last + 1 ≡ end_of (frames_of_block b)
    → first ≤ last → same_zone (zone_of first) b.zone ≡ false → r ≡ false → r ≡ is_in_zone b
unfolding is_in_zone
first_tells b first last r is end some low none =
    none ∙ sym (each_in-fails (frames_of_block b) (λ frame. same_zone (zone_of frame) b.zone) first (omega arith) (omega arith) low)
