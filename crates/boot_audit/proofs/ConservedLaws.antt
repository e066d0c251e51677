-- What the verdict `Sound` excludes, for each kind of fault.
use Rattle.std.proofs.Common.{◌≡◌, ℕ, zero, suc, ◌+◌, ◌*◌, ◌/◌, ◌^◌, ◌<◌, ◌≤◌, ◌&&◌, ◌||◌, Bool, true, false, not, nat_lt, List, [], ◌∷◌, length, get_or, map, Option, Some, None, refl, sym, ap, ◌∙◌, inl, inr, arith}
use Rattle.std.proofs.Math.Bool.{and-false}
use Rattle.std.proofs.lemmas.Bool.{cases_Bool, cases_lt, and_parts}
use Rattle.std.proofs.lemmas.Bool.Decides.{nat_tests}
use Rattle.bm_base.specs.Range.{RangeView, covers, end_of}
use Rattle.bm_base.specs.Frames.{bytes_of_frame}
use Rattle.bm_base.specs.Width.{address_limit_of}
use Rattle.bm_base.specs.declared.width.Width.{Width}
use Rattle.bm_base.specs.declared.width.Width.TheVariants as widths
use Rattle.bm_base.proofs.EachLaws.{each_in-each}
use Rattle.audit_lines.specs.Blocks.{BlockLineView, IsBlockLine}
use Rattle.audit_lines.specs.Lines.{StartFrom, AscendApart}
use Rattle.audit_lines.specs.declared.lines.MapLine.{MapLine}
use Rattle.boot_audit.specs.declared.judgement.Verdict.TheVariants as verdicts
use Rattle.boot_audit.specs.Conserved.{LinesConserveMemory, IsTouchedOrInOne, count_blocks_of_frame}
use Rattle.boot_audit.specs.Frames.{could_merge, frames_of_block, is_in_a_block, is_in_memory, is_aligned, is_in_zone, is_untouched, is_usable}
use Rattle.boot_audit.specs.Verdicts.{verdict_of_faults, first_line_passing, is_free, is_lost, is_in_block_but_not_free, least_below, least_frame, or_this, verdict_on_lines}
use Rattle.boot_audit.proofs.LineLaws.{covers_below}
use Rattle.boot_audit.proofs.SweepLaws.{least_none}

-- if `first_line_passing` finds no line, no block passes the test
pub no_line : (p : BlockLineView → Bool) (n : ℕ) (bs : List BlockLineView) → first_line_passing p n bs ≡ None
    → (k : ℕ) (d : BlockLineView) → k < length bs → p (get_or bs k d) ≡ false
no_line p n [] none k d inside = absurd (omega arith)
no_line p n (b ∷ bs) none k d inside =
    elim (cases_Bool (p b)) as (λ _. p (get_or (b ∷ bs) k d) ≡ false) [
      | inl passes ↦ let wrong : ◌≡◌ {A = Option ℕ} (Some n) None = rw passes at none in cc
      | inr fails ↦ let rest : first_line_passing p (n + 1) bs ≡ None = rw fails at none in
          at_place k inside (λ j below. no_line p (n + 1) bs rest j d below) fails
    ]
  where
    at_place : (k : ℕ) → k < length (b ∷ bs) → ((j : ℕ) → j < length bs → p (get_or bs j d) ≡ false) → p b ≡ false
        → p (get_or (b ∷ bs) k d) ≡ false
    at_place zero inside others fails = fails
    at_place (suc j) inside others fails = others j (omega arith)

pub first_none : (p : BlockLineView → Bool) (n : ℕ) (bs : List BlockLineView)
    → ((k : ℕ) (d : BlockLineView) → k < length bs → p (get_or bs k d) ≡ false)
    → first_line_passing p n bs ≡ None
first_none p n [] each = refl
first_none p n (b ∷ bs) each =
    let here : p b ≡ false = each 0 b (omega arith) in
    rw here (first_none p (n + 1) bs (λ k d inside. each (suc k) d (omega arith)))

-- if `least_below` finds no number, no number below the bound passes the test
pub none_least : (p : ℕ → Bool) (n : ℕ) → least_below p n ≡ None → (f : ℕ) → f < n → p f ≡ false
unfolding least_below
none_least p zero none f below = absurd (omega arith)
none_least p (suc n) none f below =
    let parts = neither n (p n) (least_below p n) none in
    elim (cases_lt f n) as (λ _. p f ≡ false) [
      | inl before ↦ none_least p n parts.1 f before
      | inr last ↦ let same : f ≡ n = omega arith in ap p same ∙ parts.0
    ]
  where
    neither : (m : ℕ) (passes : Bool) (before : Option ℕ) → or_this m passes before ≡ None → (passes ≡ false) × (before ≡ None)
    neither m passes (Some j) is = cc
    neither m true None is = cc
    neither m false None is = (refl, refl)

-- a frame that is in no block is counted in 0 blocks
pub none_with : (bs : List BlockLineView) (f : ℕ) → is_in_a_block bs f ≡ false → count_blocks_of_frame bs f ≡ 0
none_with [] f out = refl
none_with (b ∷ bs) f out = by_first (covers (frames_of_block b) f) (is_in_a_block bs f) refl out (none_with bs f)
  where
    by_first : (first others : Bool) → covers (frames_of_block b) f ≡ first → (first || others) ≡ false
        → (others ≡ false → count_blocks_of_frame bs f ≡ 0) → count_blocks_of_frame (b ∷ bs) f ≡ 0
    by_first true others is none rest = cc
    by_first false others is none rest = rw is (rest none)

out_of_others : (at f : ℕ) (bs : List BlockLineView) → StartFrom at (map frames_of_block bs) → AscendApart (map frames_of_block bs) → f < at
    → is_in_a_block bs f ≡ false
out_of_others at f [] start order below = refl
out_of_others at f (b ∷ bs) start order below =
    let out : covers (frames_of_block b) f ≡ false = covers_below (frames_of_block b) f (omega arith) in
    rw out (out_of_others (end_of (frames_of_block b)) f bs order.0 order.1 (omega arith))

pub one_with : (bs : List BlockLineView) (f : ℕ) → AscendApart (map frames_of_block bs) → is_in_a_block bs f ≡ true
    → count_blocks_of_frame bs f ≡ 1
one_with [] f order in_it = cc
one_with (b ∷ bs) f order in_it = by_first (covers (frames_of_block b) f) refl in_it (one_with bs f order.1)
  where
    by_first : (first : Bool) → covers (frames_of_block b) f ≡ first → (first || is_in_a_block bs f) ≡ true
        → (is_in_a_block bs f ≡ true → count_blocks_of_frame bs f ≡ 1) → count_blocks_of_frame (b ∷ bs) f ≡ 1
    by_first true is some rest =
        let under : f < end_of (frames_of_block b) = grind (arith, nat_tests) in
        let none : count_blocks_of_frame bs f ≡ 0 =
        none_with bs f (out_of_others (end_of (frames_of_block b)) f bs order.0 order.1 under) in
        rw (is, none) refl
    by_first false is some rest = rw is (rest some)

-- usable frames are below 2^40
usable_near : (limit : ℕ) (lines : List MapLine) (f : ℕ) → limit ≤ 2 ^ 52 → is_usable limit lines f ≡ true → f < 2 ^ 40
unfolding is_usable
usable_near limit lines f near usable =
    let first = each_in-each (bytes_of_frame f) (λ x.
    nat_lt x limit && is_in_memory lines x) usable (4096 * f) (omega arith) (omega arith) in
    let below : nat_lt (4096 * f) limit ≡ true = (and_parts (nat_lt (4096 * f) limit) (is_in_memory lines (4096 * f)) first).0 in
    let under : 4096 * f < limit = grind (arith, nat_tests) in
    omega arith

block_end : (a n : ℕ) → a + 4096 * n ≤ 2 ^ 52 → a / 4096 + n ≤ 2 ^ 40
block_end a n near = omega arith

in_block_near : (bs : List BlockLineView) (f : ℕ) → ((k : ℕ) (d : BlockLineView) → k < length bs → IsBlockLine (get_or bs k d))
    → is_in_a_block bs f ≡ true
    → f < 2 ^ 40
in_block_near [] f fit in_it = cc
in_block_near (b ∷ bs) f fit in_it =
    by_first (covers (frames_of_block b) f) refl in_it (in_block_near bs f (λ k d inside. fit (suc k) d (omega arith)))
  where
    by_first : (first : Bool) → covers (frames_of_block b) f ≡ first → (first || is_in_a_block bs f) ≡ true
        → (is_in_a_block bs f ≡ true → f < 2 ^ 40) → f < 2 ^ 40
    by_first true is some rest =
        let bounds : IsBlockLine b = fit 0 b (omega arith) in
        let end : b.at / 4096 + 2 ^ b.order ≤ 2 ^ 40 = block_end b.at (2 ^ b.order) bounds.1 in
        let under : f < end_of (frames_of_block b) = grind (arith, nat_tests) in
        omega arith
    by_first false is some rest = rest some

-- none of the five kinds of faults was found
abbrev AllNone : Option ℕ → Option ℕ → Option ℕ → Option ℕ → Option ℕ → Type 0
AllNone m z f l x = (m ≡ None) × (z ≡ None) × (f ≡ None) × (l ≡ None) × (x ≡ None)

faultless : (m z f l x : Option ℕ) → verdict_of_faults m z f l x ≡ verdicts.Sound → AllNone m z f l x
faultless (Some line) z f l x is = cc
faultless None (Some line) f l x is = cc
faultless None None (Some frame) l x is = cc
faultless None None None (Some frame) x is = cc
faultless None None None None (Some line) is = cc
faultless None None None None None is = (refl, refl, refl, refl, refl)

not_false : (b : Bool) → not b ≡ false → b ≡ true
not_false true is = refl
not_false false is = cc

module _ (limit : ℕ) (lines : List MapLine) (owners : List RangeView) (bs : List BlockLineView) (near : limit ≤ 2 ^ 52)
    (order : AscendApart (map frames_of_block bs)) (fit : (k : ℕ) (d : BlockLineView) → k < length bs → IsBlockLine (get_or bs k d)) where
  -- a usable frame is touched or in exactly one block, if no frame is lost and each frame of a
  -- block is free
  touched_or_one : (f : ℕ) (untouched in_it : Bool) → is_untouched owners f ≡ untouched → is_in_a_block bs f ≡ in_it
      → is_usable limit lines f ≡ true → is_in_block_but_not_free limit lines owners bs f ≡ false → is_lost limit lines owners bs f ≡ false
      → IsTouchedOrInOne owners bs f
  touched_or_one f false false touch out usable free kept = inl (touch, none_with bs f out)
  touched_or_one f false true touch in_it usable free kept =
      let wrong : ◌≡◌ {A = Bool} true false = rw (in_it, usable, touch) at free in cc
  touched_or_one f true false touch out usable free kept =
      let wrong : ◌≡◌ {A = Bool} true false = rw (usable, touch, out) at kept in cc
  touched_or_one f true true touch in_it usable free kept = inr (touch, one_with bs f order in_it)

  free_in_it : (f : ℕ) (in_it free : Bool) → is_in_a_block bs f ≡ in_it → is_free limit lines owners f ≡ free
      → 0 < count_blocks_of_frame bs f
      → (f < 2 ^ 40 → is_in_block_but_not_free limit lines owners bs f ≡ false)
      → (is_usable limit lines f ≡ true) × (is_untouched owners f ≡ true)
  free_in_it f false free out is some none = let zero_of : count_blocks_of_frame bs f ≡ 0 = none_with bs f out in absurd (omega arith)
  free_in_it f true true in_it is some none = and_parts (is_usable limit lines f) (is_untouched owners f) is
  free_in_it f true false in_it is some none =
      let wrong : ◌≡◌ {A = Bool} true false = rw (in_it, is) at (none (in_block_near bs f fit in_it)) in cc

  pub sound_says : verdict_on_lines limit lines owners bs ≡ verdicts.Sound → LinesConserveMemory limit lines owners bs
  sound_says is =
      let none = faultless (first_line_passing (λ b. not (is_aligned b)) 1 bs) (first_line_passing (λ b. not (is_in_zone b)) 1 bs)
      (least_frame (is_in_block_but_not_free limit lines owners bs)) (least_frame (is_lost limit lines owners bs))
      (first_line_passing (could_merge bs) 1 bs) is in
      record {
        frames = λ f usable.
            let small = usable_near limit lines f near usable in
            touched_or_one f (is_untouched owners f) (is_in_a_block bs f) refl refl usable
            (none_least (is_in_block_but_not_free limit lines owners bs) (2 ^ 40) none.2 f small)
            (none_least (is_lost limit lines owners bs) (2 ^ 40) none.3 f small);
        others = λ f some. free_in_it f (is_in_a_block bs f) (is_free limit lines owners f) refl refl some
            (none_least (is_in_block_but_not_free limit lines owners bs) (2 ^ 40) none.2 f);
        each = λ k d inside. record {
          aligned = not_false (is_aligned (get_or bs k d)) (no_line (λ b. not (is_aligned b)) 1 bs none.0 k d inside);
          in_zone = not_false (is_in_zone (get_or bs k d)) (no_line (λ b. not (is_in_zone b)) 1 bs none.1 k d inside);
          maximal = no_line (could_merge bs) 1 bs none.4 k d inside;
        };
      }

  none_unfree : (f : ℕ) (in_it : Bool) → is_in_a_block bs f ≡ in_it → LinesConserveMemory limit lines owners bs
      → is_in_block_but_not_free limit lines owners bs f ≡ false
  none_unfree f false out kept = rw out refl
  none_unfree f true in_it kept =
      let one : count_blocks_of_frame bs f ≡ 1 = one_with bs f order in_it in
      let both = kept.others f (omega arith) in
      rw (in_it, both.0, both.1) refl

  lost_no_more : (f : ℕ) (in_it : Bool) → is_in_a_block bs f ≡ in_it → is_usable limit lines f ≡ true → is_untouched owners f ≡ true
      → IsTouchedOrInOne owners bs f → is_lost limit lines owners bs f ≡ false
  lost_no_more f true in_it usable untouched either = rw (in_it) (and-false (is_free limit lines owners f))
  lost_no_more f false out usable untouched (inl touched) = let wrong : ◌≡◌ {A = Bool} true false = sym untouched ∙ touched.0 in cc
  lost_no_more f false out usable untouched (inr one) =
      let none : count_blocks_of_frame bs f ≡ 0 = none_with bs f out in let some : count_blocks_of_frame bs f ≡ 1 =
      one.1 in absurd (omega arith)

  none_lost : (f : ℕ) (usable untouched : Bool) → is_usable limit lines f ≡ usable → is_untouched owners f ≡ untouched
      → LinesConserveMemory limit lines owners bs → is_lost limit lines owners bs f ≡ false
  none_lost f false untouched first second kept = rw first refl
  none_lost f true false first second kept = rw (first, second) refl
  none_lost f true true first second kept = lost_no_more f (is_in_a_block bs f) refl first second (kept.frames f first)

  pub conserved_says : LinesConserveMemory limit lines owners bs → verdict_on_lines limit lines owners bs ≡ verdicts.Sound
  conserved_says kept =
      let aligned : first_line_passing (λ b. not (is_aligned b)) 1 bs ≡ None =
      first_none (λ b. not (is_aligned b)) 1 bs (λ k d inside. ap not ((kept.each k d inside).aligned)) in
      let zoned : first_line_passing (λ b. not (is_in_zone b)) 1 bs ≡ None =
      first_none (λ b. not (is_in_zone b)) 1 bs (λ k d inside. ap not ((kept.each k d inside).in_zone)) in
      let free : least_frame (is_in_block_but_not_free limit lines owners bs) ≡ None =
      least_none (is_in_block_but_not_free limit lines owners bs) (2 ^ 40) (λ f small. none_unfree f (is_in_a_block bs f) refl kept) in
      let found : least_frame (is_lost limit lines owners bs) ≡ None =
      least_none (is_lost limit lines owners bs) (2 ^ 40)
      (λ f small. none_lost f (is_usable limit lines f) (is_untouched owners f) refl refl kept) in
      let whole : first_line_passing (could_merge bs) 1 bs ≡ None =
      first_none (could_merge bs) 1 bs (λ k d inside. (kept.each k d inside).maximal) in
      all_none (first_line_passing (λ b. not (is_aligned b)) 1 bs) (first_line_passing (λ b. not (is_in_zone b)) 1 bs)
      (least_frame (is_in_block_but_not_free limit lines owners bs)) (least_frame (is_lost limit lines owners bs))
      (first_line_passing (could_merge bs) 1 bs) aligned zoned free found whole
    where
      all_none : (m z f l x : Option ℕ) → m ≡ None → z ≡ None → f ≡ None → l ≡ None → x ≡ None
          → verdict_of_faults m z f l x ≡ verdicts.Sound
      all_none m z f l x a b c d e = rw (a, b, c, d, e) refl

pub reach_near : (width : Width) → address_limit_of width ≤ 2 ^ 52
reach_near widths.Bits46 = omega arith
reach_near widths.Bits52 = omega arith
