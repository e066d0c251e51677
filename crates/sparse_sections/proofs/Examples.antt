-- Worked examples: memory in some frames, records that end inside sections, sections and their
-- roots.
use Rattle.std.proofs.Common.{◌≡◌, ℕ, Some, None, List, [], ◌∷◌, ◌++◌, refl, sym, ◌∙◌, ap, arith, lit<, lit≤}
use Rattle.address_runs.specs.Runs.{RunOf, value_at, AreRuns}
use Rattle.memblock_model.specs.Labels.{LabelView, Labels, plain_label, with_node}
use Rattle.memblock_grow.specs.declared.stop.Section.{Section}
use Rattle.sparse_sections.specs.Present.{label_of_first_memory_frame, present, sections_from, IsWholeFramesWithNode, HasNodeOfLowestByte}
use Rattle.sparse_sections.specs.Roots.{root_of, first_of_each_root}
use Rattle.sparse_sections.proofs.PresentLaws.{IsLeft, left-all, left-next, sections-record, present-none, present-end}
use Rattle.address_runs.proofs.RunsLaws.{none_below}

abbrev of_node : ℕ → LabelView
of_node node = with_node (Some node) plain_label

abbrev record_at : ℕ → ℕ → ℕ → RunOf LabelView
record_at base size node = record { base = base; size = size; value = of_node node }

abbrev section : ℕ → ℕ → Section
section number node = record { number = number; node = node }

-- frames 2 and 3 are memory of node 5: neither of frames 0 and 1 is; the first of frames 0 to 3 is
-- frame 2; only the first byte of a frame is looked at
abbrev two_frames : Labels
two_frames = value_at (record_at 0x2000 0x2000 5 ∷ [])

abbrev within_a_frame : Labels
within_a_frame = value_at (record_at 0x1001 0xFFF 5 ∷ [])

first_of_frames : (label_of_first_memory_frame two_frames 0 2 ≡ None) × (label_of_first_memory_frame two_frames 0 4 ≡ Some (of_node 5))
    × (label_of_first_memory_frame two_frames 3 1 ≡ Some (of_node 5)) × (label_of_first_memory_frame two_frames 4 3 ≡ None)
    × (label_of_first_memory_frame within_a_frame 0 3 ≡ None)
unfolding label_of_first_memory_frame
first_of_frames = (refl, refl, refl, refl, refl)

-- the last frame of section 0 and the first of section 1
abbrev across : List (RunOf LabelView)
across = record_at 0x7FFF000 0x2000 3 ∷ []

across_runs : AreRuns across
across_runs = (lit< tt, tt, tt)

both_sections : present (value_at across) ≡ section 0 3 ∷ section 1 3 ∷ []
unfolding sections_from
both_sections =
    let f : Labels = value_at across in
    let r : RunOf LabelView = record_at 0x7FFF000 0x2000 3 in
    let left : IsLeft f 0 (r ∷ []) = left-all across across_runs in
    let last : IsLeft f 2 [] = left-next f 0 r [] left in
    sym (present-end f 2 last (lit≤ tt)) ∙ sections-record f 0 r [] 0 2 3 left refl refl refl refl
    ∙ ap (λ (ss : List Section). ss ++ sections_from 0 2 3) (present-none f)

-- two records in section 0: it is listed once, with the node of the lower record
abbrev shared : List (RunOf LabelView)
shared = record_at 0x1000 0x1000 1 ∷ record_at 0x3000 0x1000 2 ∷ []

shared_runs : AreRuns shared
shared_runs = (lit< tt, (lit≤ tt, λ touch. absurd (omega (arith, touch))), (lit< tt, tt, tt))

one_section : present (value_at shared) ≡ section 0 1 ∷ []
unfolding sections_from
one_section =
    let f : Labels = value_at shared in
    let r : RunOf LabelView = record_at 0x1000 0x1000 1 in
    let s : RunOf LabelView = record_at 0x3000 0x1000 2 in
    let left : IsLeft f 0 (r ∷ s ∷ []) = left-all shared shared_runs in
    let next : IsLeft f 1 (s ∷ []) = left-next f 0 r (s ∷ []) left in
    let last : IsLeft f 1 [] = left-next f 1 s [] next in
    sym (present-end f 1 last (lit≤ tt)) ∙ sections-record f 0 r (s ∷ []) 0 1 1 left refl refl refl refl
    ∙ ap (λ (ss : List Section). ss ++ sections_from 0 1 1) (present-none f)

-- the last frame below 2^52, and the one after it
last_frame : IsWholeFramesWithNode (record_at 0xFFFFFFFFFF000 0x1000 0) × (IsWholeFramesWithNode (record_at 0x10000000000000 0x1000 0) → ⊥)
last_frame = (record { node = 0; has = refl; base = refl; end = refl; reach = lit≤ tt }, λ known. omega (arith, known.reach))

-- a root has 256 sections, and is placed with the first of them
root_numbers : (root_of (section 255 0) ≡ 0) × (root_of (section 256 0) ≡ 1) × (root_of (section 524287 0) ≡ 2047)
    × (root_of (section 33554431 0) ≡ 131071)
root_numbers = (refl, refl, refl, refl)

roots_once : (first_of_each_root None (section 0 0 ∷ section 3 1 ∷ section 255 1 ∷ section 256 2 ∷ section 300 0 ∷ [])
    ≡ section 0 0 ∷ section 256 2 ∷ [])
    × (first_of_each_root (Some 1) (section 256 2 ∷ section 512 0 ∷ []) ≡ section 512 0 ∷ [])
roots_once = (refl, refl)

lowest_byte : HasNodeOfLowestByte (value_at across) (section 0 3)
lowest_byte = record {
  byte = 0x7FFF000;
  label = of_node 3;
  inside = refl;
  told = refl;
  node = refl;
  none = λ x inside before. none_below 0x7FFF000 x across across_runs (lit≤ tt) before;
}
