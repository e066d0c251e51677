-- Following a byte from trim to trim, and comparing the ends of ranges inside its frame, gives the
-- definition's tag.
use Rattle.std.proofs.Common.{◌≡◌, ℕ, zero, suc, ◌+◌, ◌-◌, ◌%◌, ◌<◌, ◌==◌, Bool, true, false, ◌||◌, nat_lt, Option, Some, None, List, [], ◌∷◌, ◌++◌, length, take, drop, get_or, add-one, refl, sym, ◌∙◌, ap, inl, inr, arith}
use Rattle.std.proofs.lemmas.Bool.Decides.{nat_tests}
use Rattle.std.proofs.lemmas.Bool.{cases_Bool, or_cases, or_parts, true≢false}
use Rattle.std.proofs.lemmas.List.Quantifiers.{position-Some}
use Rattle.std.proofs.lemmas.List.Sums.{fold-append, fails_before_first}
use Rattle.std.proofs.lemmas.List.{get_or-take, length-take}
use Rattle.std.proofs.Math.Seq.{split_at}
use Rattle.std.specs.List.{fold, position, position_or_len}
use Rattle.bm_base.specs.Range.{RangeView, covers, end_of}
use Rattle.memblock_model.specs.declared.item.Item.{Item}
use Rattle.memblock_model.specs.declared.item.Item.TheVariants as item
use Rattle.memblock_model.specs.Labels.{LabelView, Labels}
use Rattle.memblock_model.specs.Items.{memory_after, trim_frames}
use Rattle.memblock_model.proofs.LabelLaws.{IsInFrame, in_own_frame, trim_frames-whole, trim_frames-unlike, trim_frames-frame}
use Rattle.memblock_model.proofs.ItemLaws.{memory_fold-local}
use Rattle.boot_journal.specs.Bytes.{is_trim, marks_after, marks_after_items, marks_after_trim, EdgeAgrees, EdgeDiffers, ItemAgrees, ItemsAgree}

-- whether an end of the item's range is at address `e`
abbrev edge_at : Item → ℕ → Bool
edge_at (item.Mem range) e = (range.base == e) || (end_of range == e)
edge_at (item.Node range node) e = (range.base == e) || (end_of range == e)
edge_at (item.Mirror range) e = (range.base == e) || (end_of range == e)
edge_at i e = false

abbrev edge_in : List Item → ℕ → Bool
edge_in [] e = false
edge_in (i ∷ is) e = edge_at i e || edge_in is e

covers-step : (r : RangeView) (y : ℕ) → ((r.base == y + 1) || (end_of r == y + 1)) ≡ false → covers r (y + 1) ≡ covers r y
covers-step r y h = grind (arith, nat_tests)

-- an item has the same effect on two neighbouring bytes if no end of its range is between them
marks_after-step : (i : Item) (t : Option LabelView) (y : ℕ) → edge_at i (y + 1) ≡ false → marks_after (y + 1) t i ≡ marks_after y t i
marks_after-step (item.Mem range) t y h = rw (covers-step range y h) refl
marks_after-step (item.Node range node) t y h = rw (covers-step range y h) refl
marks_after-step (item.Mirror range) t y h = rw (covers-step range y h) refl
marks_after-step i t y h = refl

marks_after_items-step : (items : List Item) (t : Option LabelView) (y : ℕ) → edge_in items (y + 1) ≡ false
    → marks_after_items t items (y + 1)
    ≡ marks_after_items t items y
marks_after_items-step [] t y h = refl
marks_after_items-step (i ∷ is) t y h =
    let both = or_parts (edge_at i (y + 1)) (edge_in is (y + 1)) h in
    ap (λ (u : Option LabelView). marks_after_items u is (y + 1)) (marks_after-step i t y both.0)
    ∙ marks_after_items-step is (marks_after y t i) y both.1

-- if both ends of a range agree with the frame's first byte, an address that is one of them does
range_agrees-at : (whole : Option LabelView) (items : List Item) (first : ℕ) (r : RangeView) (e : ℕ) → EdgeAgrees whole items first r.base
    → EdgeAgrees whole items first (end_of r)
    → ((r.base == e) || (end_of r == e)) ≡ true → EdgeAgrees whole items first e
range_agrees-at whole items first r e base_agrees end_agrees h =
    elim (or_cases (r.base == e) (end_of r == e) h) as (λ _. EdgeAgrees whole items first e) [
      | inl at_base ↦ let is : r.base ≡ e = grind (arith, nat_tests) in rw is at base_agrees
      | inr at_end ↦ let is : end_of r ≡ e = grind (arith, nat_tests) in rw is at end_agrees
    ]

edges_agree-at : (whole : Option LabelView) (items : List Item) (first : ℕ) (i : Item) (e : ℕ) → ItemAgrees whole items first i
    → edge_at i e
    ≡ true → EdgeAgrees whole items first e
edges_agree-at whole items first (item.Mem range) e agree h = range_agrees-at whole items first range e agree.0 agree.1 h
edges_agree-at whole items first (item.Node range node) e agree h = range_agrees-at whole items first range e agree.0 agree.1 h
edges_agree-at whole items first (item.Mirror range) e agree h = range_agrees-at whole items first range e agree.0 agree.1 h
edges_agree-at whole items first i e agree h = absurd (true≢false (sym h))

all_agree-at : (whole : Option LabelView) (items : List Item) (first : ℕ) (is : List Item) (e : ℕ) → ItemsAgree whole items first is
    → edge_in is e ≡ true → EdgeAgrees whole items first e
all_agree-at whole items first [] e agree h = absurd (true≢false (sym h))
all_agree-at whole items first (i ∷ is) e agree h =
    elim (or_cases (edge_at i e) (edge_in is e) h) as (λ _. EdgeAgrees whole items first e) [
      | inl here ↦ edges_agree-at whole items first i e agree.0 here
      | inr later ↦ all_agree-at whole items first is e agree.1 later
    ]

-- if all ends of ranges agree with the frame's first byte, all bytes of the frame have the same
-- marks
frame-agrees : (whole : Option LabelView) (items : List Item) (first : ℕ) → ItemsAgree whole items first items → (k y : ℕ) → y ≡ first + k
    → k < 4096
    → marks_after_items whole items y ≡ marks_after_items whole items first
frame-agrees whole items first agree zero y is lt = let same : y ≡ first = omega arith in rw same refl
frame-agrees whole items first agree (suc k) y is lt =
    let z : ℕ = first + k in
    let next : y ≡ z + 1 = omega arith in
    rw next (elim (cases_Bool (edge_in items (z + 1))) as (λ _.
    marks_after_items whole items (z + 1) ≡ marks_after_items whole items first) [
      | inl edge ↦ all_agree-at whole items first items (z + 1) agree edge (omega arith) (omega arith)
      | inr quiet ↦ marks_after_items-step items whole z quiet ∙ frame-agrees whole items first agree k z refl (omega arith)
    ])

-- a trim keeps a frame if all ends of ranges agree with its first byte
pub marks_after_trim-agrees : (whole : Option LabelView) (items : List Item) (x : ℕ) → ItemsAgree whole items (x - x % 4096) items
    → marks_after_trim whole items x
    ≡ marks_after_items whole items (x - x % 4096)
unfolding marks_after_trim
marks_after_trim-agrees whole items x agree =
    let first : ℕ = x - x % 4096 in
    let one : (y : ℕ) → IsInFrame x y → marks_after_items whole items y ≡ marks_after_items whole items first =
    λ y in_frame. frame-agrees whole items first agree (y - first) y (omega arith) (omega arith) in
    let here = one x (in_own_frame x) in
    trim_frames-whole (marks_after_items whole items) x (λ y in_frame. one y in_frame ∙ sym here) ∙ here

-- a trim removes a frame if some end of a range differs from its first byte
pub marks_after_trim-differs : (whole : Option LabelView) (items : List Item) (x e : ℕ) → EdgeDiffers whole items (x - x % 4096) e
    → marks_after_trim whole items x
    ≡ None
unfolding marks_after_trim
marks_after_trim-differs whole items x e differs =
    let at_edge : IsInFrame x e = record { above = omega arith; below = omega arith } in
    let at_first : IsInFrame x (x - x % 4096) = record { above = omega arith; below = omega arith } in
    trim_frames-unlike (marks_after_items whole items) x e (x - x % 4096) at_edge at_first differs.other

-- the effect of an item other than a trim on a byte depends only on that byte's marks
marks_after-is : (f : Labels) (i : Item) (y : ℕ) → is_trim i ≡ false → memory_after f i y ≡ marks_after y (f y) i
marks_after-is f item.Trim y plain = absurd (true≢false plain)
marks_after-is f i y plain = refl

-- none of the items is a trim
abbrev Plain : List Item → Type 0
Plain items = (k : ℕ) → k < length items → is_trim (get_or items k item.Trim) ≡ false

labels_after : (f : Labels) (items : List Item) (y : ℕ) → Plain items → fold memory_after f items y ≡ marks_after_items (f y) items y
labels_after f [] y plain = refl
labels_after f (i ∷ is) y plain =
    labels_after (memory_after f i) is y (λ k lt. plain (suc k) (omega arith))
    ∙ ap (λ (l : Option LabelView). marks_after_items l is y) (marks_after-is f i y (plain 0 (omega arith)))

-- labels under which all bytes have the same marks
abbrev same_marks_everywhere : Option LabelView → Labels
same_marks_everywhere carried x = carried

-- the marks of the byte after these items, if all bytes had the marks `whole` before
abbrev pub marks_after_all : Option LabelView → List Item → ℕ → Option LabelView
marks_after_all whole items x = fold memory_after (same_marks_everywhere whole) items x

-- after a trim all bytes of the frame have the same marks, so the byte alone decides what comes
-- after it
trim_step : (whole : Option LabelView) (items rest : List Item) (x : ℕ) → Plain items
    → marks_after_all whole (items ++ item.Trim ∷ rest) x ≡ marks_after_all (marks_after_trim whole items x) rest x
unfolding marks_after_trim
trim_step whole items rest x plain =
    let same : fold memory_after (same_marks_everywhere whole) items ≡ marks_after_items whole items =
    λ k y. labels_after (same_marks_everywhere whole) items y plain k in
    ap (λ (f : Labels). f x) (fold-append memory_after (same_marks_everywhere whole) items (item.Trim ∷ rest))
    ∙ ap (λ (f : Labels). fold memory_after (trim_frames f) rest x) same
    ∙ memory_fold-local (trim_frames (marks_after_items whole items)) (same_marks_everywhere (marks_after_trim whole items x)) rest x
    (trim_frames-frame (marks_after_items whole items) x) x (in_own_frame x)

position_none : (items : List Item) → position is_trim items ≡ None → Plain items
position_none items h k lt =
    elim (cases_Bool (nat_lt (position_or_len is_trim items) (length items))) as (λ _. is_trim (get_or items k item.Trim) ≡ false) [
      | inl found ↦ cc (rw found at h)
      | inr none ↦ fails_before_first is_trim items k item.Trim (grind (arith, nat_tests, none))
    ]

is_trim-is : (i : Item) → is_trim i ≡ true → i ≡ item.Trim
is_trim-is item.Trim h = refl
is_trim-is i h = absurd (true≢false (sym h))

-- one iteration of the loop: the items up to the next trim
pub turn : (whole : Option LabelView) (items : List Item) (i x : ℕ) → position is_trim items ≡ Some i
    → marks_after_all whole items x ≡ marks_after_all (marks_after_trim whole (take i items) x) (drop (i + 1) items) x
turn whole items i x found =
    let at = position-Some is_trim items i item.Trim found in
    let trim : get_or items i item.Trim ≡ item.Trim = is_trim-is (get_or items i item.Trim) at.1 in
    let apart : items ≡ take i items ++ (item.Trim ∷ drop (suc i) items) = rw trim at (split_at items i item.Trim at.0) in
    let plain : Plain (take i items) = λ k less.
    rw (get_or-take i items k item.Trim (omega (arith, length-take i items))) (at.2 k (omega (arith, length-take i items))) in
    ap (λ (is : List Item). marks_after_all whole is x) apart ∙ rw add-one (trim_step whole (take i items) (drop (suc i) items) x plain)

-- the end of the loop: the items after the last trim
pub items_after_last_trim : (whole : Option LabelView) (items : List Item) (x : ℕ) → position is_trim items ≡ None
    → marks_after_all whole items x
    ≡ marks_after_items whole items x
items_after_last_trim whole items x none = labels_after (same_marks_everywhere whole) items x (position_none items none)
