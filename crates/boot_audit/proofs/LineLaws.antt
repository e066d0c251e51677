-- What ascending lines say of a byte below, in, and above the first of them.
use Rattle.std.proofs.Common.{◌≡◌, ℕ, ◌<◌, ◌≤◌, ◌&&◌, ◌||◌, Bool, true, false, List, [], ◌∷◌, map, refl, ap, ◌∙◌, arith}
use Rattle.std.proofs.lemmas.Bool.Decides.{nat_tests}
use Rattle.bm_base.specs.Range.{RangeView, covers, end_of}
use Rattle.audit_lines.specs.Lines.{StartFrom, AscendApart}
use Rattle.boot_audit.specs.Sweep.{is_in_relevant_line}

pub covers_below : (r : RangeView) (x : ℕ) → x < r.base → covers r x ≡ false
covers_below r x below = grind (arith, nat_tests)

pub covers_past : (r : RangeView) (x : ℕ) → end_of r ≤ x → covers r x ≡ false
covers_past r x past = grind (arith, nat_tests)

pub covers_in : (r : RangeView) (x : ℕ) → r.base ≤ x → x < end_of r → covers r x ≡ true
covers_in r x above below = grind (arith, nat_tests)

abbrev pub either : Bool → Bool → Bool → Bool
either c in_first others = (c && in_first) || others

first_true : (c others : Bool) → others ≡ false → either c true others ≡ c
first_true true others none = refl
first_true false others none = none

first_false : (c others : Bool) → either c false others ≡ others
first_false true others = refl
first_false false others = refl

module _ {L : Type 0} (counts : L → Bool) (extent : L → RangeView) where
  pub says_below : (at x : ℕ) (lines : List L) → StartFrom at (map extent lines) → AscendApart (map extent lines) → x < at
      → is_in_relevant_line counts extent lines x ≡ false
  says_below at x [] start order below = refl
  says_below at x (l ∷ ls) start order below =
      let out : covers (extent l) x ≡ false = covers_below (extent l) x (omega arith) in
      let others : is_in_relevant_line counts extent ls x ≡ false = says_below (end_of (extent l)) x ls order.0 order.1 (omega arith) in
      ap (λ (c : Bool). either (counts l) c (is_in_relevant_line counts extent ls x)) out
      ∙ first_false (counts l) (is_in_relevant_line counts extent ls x) ∙ others

  pub says_before : (l : L) (ls : List L) (x : ℕ) → AscendApart (map extent (l ∷ ls)) → x < (extent l).base
      → is_in_relevant_line counts extent (l ∷ ls) x ≡ false
  says_before l ls x order before = says_below (extent l).base x (l ∷ ls) (omega arith) order before

  pub says_first : (l : L) (ls : List L) (x : ℕ) → AscendApart (map extent (l ∷ ls)) → (extent l).base ≤ x → x < end_of (extent l)
      → is_in_relevant_line counts extent (l ∷ ls) x ≡ counts l
  says_first l ls x order above below =
      let in_it : covers (extent l) x ≡ true = covers_in (extent l) x above below in
      let others : is_in_relevant_line counts extent ls x ≡ false = says_below (end_of (extent l)) x ls order.0 order.1 below in
      ap (λ (c : Bool). either (counts l) c (is_in_relevant_line counts extent ls x)) in_it
      ∙ first_true (counts l) (is_in_relevant_line counts extent ls x) others

  pub says_past : (l : L) (ls : List L) (x : ℕ) → end_of (extent l) ≤ x
      → is_in_relevant_line counts extent (l ∷ ls) x ≡ is_in_relevant_line counts extent ls x
  says_past l ls x past =
      let out : covers (extent l) x ≡ false = covers_past (extent l) x past in
      ap (λ (c : Bool). either (counts l) c (is_in_relevant_line counts extent ls x)) out
      ∙ first_false (counts l) (is_in_relevant_line counts extent ls x)

  -- what the lemmas above say, for a list whose first line is known
  pub seen_before : (lines : List L) (l : L) (ls : List L) → lines ≡ l ∷ ls → AscendApart (map extent lines)
      → (x : ℕ) → x < (extent l).base → is_in_relevant_line counts extent lines x ≡ false
  seen_before lines l ls is order x before =
      let ordered : AscendApart (map extent (l ∷ ls)) = rw is at order in rw is (says_before l ls x ordered before)

  pub seen_first : (lines : List L) (l : L) (ls : List L) → lines ≡ l ∷ ls → AscendApart (map extent lines)
      → (x : ℕ) → (extent l).base ≤ x → x < end_of (extent l) → is_in_relevant_line counts extent lines x ≡ counts l
  seen_first lines l ls is order x above below =
      let ordered : AscendApart (map extent (l ∷ ls)) = rw is at order in rw is (says_first l ls x ordered above below)
