-- The sections that are found are those of memory, each with the node of its lowest byte of
-- memory.
use Rattle.std.proofs.Common.{◌≡◌, ◌⊎◌, ℕ, zero, suc, ◌+◌, ◌-◌, ◌*◌, ◌/◌, ◌^◌, ◌<◌, Option, Some, None, List, [], ◌∷◌, ◌++◌, length, refl, sym, ◌∙◌, ap, inl, inr, arith, add-zero, length-append}
use Rattle.std.specs.List.{All}
use Rattle.std.proofs.lemmas.Bool.{cases_lt}
use Rattle.std.proofs.lemmas.List.{get_or_append_left, get_or_push}
use Rattle.std.proofs.lemmas.List.Elements.{All-append, All-cons, All-nil}
use Rattle.memblock_model.specs.Labels.{LabelView, Labels}
use Rattle.memblock_grow.specs.declared.stop.Section.{Section}
use Rattle.stage_steps.specs.Nodes.{IsConstantInFrames, IsMemoryWithNodes}
use Rattle.sparse_sections.specs.Present.{label_of_first_memory_frame, section_label, section_if_on_node, section_with_label, sections_below, present, HasNodeOfLowestByte, IsSectionAt}

-- the frame whose label is found: the first one that is memory
record IsFirst (f : Labels) (a n : ℕ) (label : LabelView) : Type 0 where
  after : ℕ
  within : after < n
  told : f (4096 * (a + after)) ≡ Some label
  none : (j : ℕ) → j < after → f (4096 * (a + j)) ≡ None

-- a frame is memory or isn't
cases_label : (o : Option LabelView) → (o ≡ None) ⊎ ((v : LabelView) × (o ≡ Some v))
cases_label None = inl refl
cases_label (Some v) = inr (v, refl)

label-first : (f : Labels) (a n : ℕ) (label : LabelView) → label_of_first_memory_frame f a n ≡ Some label → IsFirst f a n label
unfolding label_of_first_memory_frame
label-first f a zero label found = cc
label-first f a (suc n) label found = elim (cases_label (f (4096 * a))) [
  | inl is ↦
      let later = label-first f (a + 1) n label (rw is at found) in
      let e : a + (later.after + 1) ≡ a + 1 + later.after = omega arith in
      record {
        after = later.after + 1;
        within = omega (arith, later.within);
        told = rw e later.told;
        none = λ j before. elim (cases_lt 0 j) [
          | inl lt ↦ let next : a + j ≡ a + 1 + (j - 1) = omega arith in rw next (later.none (j - 1) (omega arith))
          | inr ge ↦ let here : a + j ≡ a = omega arith in rw here is
        ];
      }
  | inr some ↦ record {
    after = 0;
    within = omega arith;
    told = rw add-zero (some.1 ∙ (rw some.1 at found));
    none = λ j before. absurd (omega arith);
  }
]

-- if a frame is memory, some label is found
label-some : (f : Labels) (a n k : ℕ) (label : LabelView) → k < n → f (4096 * (a + k)) ≡ Some label
    → (v : LabelView) × (label_of_first_memory_frame f a n ≡ Some v)
unfolding label_of_first_memory_frame
label-some f a zero k label few told = absurd (omega arith)
label-some f a (suc n) k label few told = elim (cases_label (f (4096 * a))) [
  | inl is ↦ elim (cases_lt 0 k) [
    | inl lt ↦
        let next : a + 1 + (k - 1) ≡ a + k = omega arith in
        rw is (label-some f (a + 1) n (k - 1) label (omega arith) (rw next told))
    | inr ge ↦ let here : a + k ≡ a = omega arith in absurd (cc (is, rw here at told))
  ]
  | inr some ↦ (some.0, rw some.1 refl)
]

-- a section that is found has memory
first-lowest : (f : Labels) (n node : ℕ) (label : LabelView) → IsConstantInFrames f → IsFirst f (32768 * n) 32768 label
    → label.node ≡ Some node
    → HasNodeOfLowestByte f (record { number = n; node = node })
first-lowest f n node label frames first has =
    record {
      byte = 4096 * (32768 * n + first.after);
      label = label;
      inside = omega (arith, first.within);
      told = first.told;
      node = has;
      none = λ x inside before.
          let e : 4096 * (x / 4096) ≡ 4096 * (32768 * n + (x / 4096 - 32768 * n)) = omega arith in
          frames x ∙ ap f e ∙ first.none (x / 4096 - 32768 * n) (omega (arith, first.within));
    }

of-lowest : (f : Labels) (n : ℕ) (label : LabelView) (o : Option ℕ) → IsConstantInFrames f → IsFirst f (32768 * n) 32768 label
    → label.node ≡ o
    → All (HasNodeOfLowestByte f) (section_if_on_node n o)
of-lowest f n label None frames first has = All-nil (HasNodeOfLowestByte f)
of-lowest f n label (Some node) frames first has =
    All-cons (HasNodeOfLowestByte f) (record { number = n; node = node }) [] (first-lowest f n node label frames first has)
    (All-nil (HasNodeOfLowestByte f))

for-lowest : (f : Labels) (n : ℕ) (o : Option LabelView) → IsConstantInFrames f → section_label f n ≡ o
    → All (HasNodeOfLowestByte f) (section_with_label n o)
for-lowest f n None frames is = All-nil (HasNodeOfLowestByte f)
for-lowest f n (Some label) frames is =
    of-lowest f n label label.node frames (label-first f (32768 * n) 32768 label is) refl

sections-lowest : (f : Labels) (n : ℕ) → IsConstantInFrames f → All (HasNodeOfLowestByte f) (sections_below f n)
unfolding sections_below
sections-lowest f zero frames = All-nil (HasNodeOfLowestByte f)
sections-lowest f (suc n) frames =
    All-append (HasNodeOfLowestByte f) (sections_below f n) (section_with_label n (section_label f n)) (sections-lowest f n frames)
    (for-lowest f n (section_label f n) frames refl)

pub present-lowest : (limit : ℕ) (f : Labels) → IsMemoryWithNodes limit f → All (HasNodeOfLowestByte f) (present f)
unfolding present
present-lowest limit f noded = sections-lowest f (2 ^ 25) noded.frames

-- a section with memory is found
at-left : (xs ys : List Section) (i n : ℕ) → IsSectionAt xs i n → IsSectionAt (xs ++ ys) i n
at-left xs ys i n at = record {
  within = omega (arith, at.within, length-append xs ys);
  is = λ d. rw (get_or_append_left xs ys d i at.within) (at.is d);
}

at-end : (xs : List Section) (s : Section) → IsSectionAt (xs ++ s ∷ []) (length xs) s.number
at-end xs s = record {
  within = omega (arith, length-append xs (s ∷ []));
  is = λ d. rw (get_or_push xs s d (length xs) refl) refl;
}

told-own : (limit : ℕ) (f : Labels) (n : ℕ) (v : LabelView) (xs : List Section) → IsMemoryWithNodes limit f → section_label f n ≡ Some v
    → (i : ℕ) × IsSectionAt (xs ++ section_with_label n (section_label f n)) i n
told-own limit f n v xs noded is =
    let first : IsFirst f (32768 * n) 32768 v = label-first f (32768 * n) 32768 v is in
    let has = noded.nodes (4096 * (32768 * n + first.after)) v first.told in
    (length xs, rw (is, has.1) (at-end xs (record { number = n; node = has.0 })))

told-below : (limit : ℕ) (f : Labels) (n s k : ℕ) (label : LabelView) → IsMemoryWithNodes limit f → s < n → k < 32768
    → f (4096 * (32768 * s + k)) ≡ Some label → (i : ℕ) × IsSectionAt (sections_below f n) i s
unfolding sections_below
told-below limit f zero s k label noded less few told = absurd (omega arith)
told-below limit f (suc n) s k label noded less few told =
    elim (cases_lt s n) [
      | inl lt ↦
          let before = told-below limit f n s k label noded lt few told in
          (before.0, at-left (sections_below f n) (section_with_label n (section_label f n)) before.0 s before.1)
      | inr ge ↦
          let e : s ≡ n = omega arith in
          let found = label-some f (32768 * n) 32768 k label few (rw e at told) in
          rw e (told-own limit f n found.0 (sections_below f n) noded found.1)
    ]

pub present-all : (limit x : ℕ) (f : Labels) (label : LabelView) → IsMemoryWithNodes limit f → x < 2 ^ 52 → f x ≡ Some label
    → (i : ℕ) × IsSectionAt (present f) i (x / 0x8000000)
unfolding present
present-all limit x f label noded low told =
    let s : ℕ = x / 0x8000000 in
    let k : ℕ = x / 4096 - 32768 * s in
    let e : 4096 * (32768 * s + k) ≡ 4096 * (x / 4096) = omega arith in
    told-below limit f (2 ^ 25) s k label noded (omega arith) (omega arith) (ap f e ∙ sym (noded.frames x) ∙ told)
