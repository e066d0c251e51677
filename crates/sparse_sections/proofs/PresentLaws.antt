-- The sections with memory, record by record.
use Rattle.std.proofs.Common.{◌≡◌, ℕ, zero, suc, ◌+◌, ◌-◌, ◌*◌, ◌/◌, ◌%◌, ◌^◌, ◌<◌, ◌≤◌, max, Some, None, List, [], ◌∷◌, ◌++◌, refl, sym, ◌∙◌, ap, append_assoc, add-one, drop-cons, drop, length, get_or, arith, add-zero, add-suc}
use Rattle.std.specs.List.{All}
use Rattle.std.proofs.lemmas.List.{append-nil}
use Rattle.address_runs.specs.Runs.{RunOf, run_end, value_at, AreRuns}
use Rattle.address_runs.specs.Sweep.{StartAtOrPast}
use Rattle.address_runs.proofs.RunsLaws.{inside, past_end, none_below, rest_from}
use Rattle.memblock_model.specs.Labels.{LabelView, Labels, plain_label}
use Rattle.memblock_ranges.specs.declared.region.Region.{Region}
use Rattle.memblock_ranges.specs.Encoding.{region_of}
use Rattle.memblock_grow.specs.declared.stop.Section.{Section}
use Rattle.sparse_sections.specs.Present.{section_label, sections_below, present, sections_from, IsWholeFramesWithNode}
use Rattle.sparse_sections.proofs.LabelLaws.{section-none, section-found}

-- the sections with memory, if none of the next `k` sections has memory
pub sections-none : (f : Labels) (n k : ℕ) → ((s : ℕ) → n ≤ s → s < n + k → section_label f s ≡ None)
    → sections_below f (n + k) ≡ sections_below f n
unfolding sections_below
sections-none f n zero none = rw add-zero refl
sections-none f n (suc k) none =
    rw (add-suc, none (n + k) (omega arith) (omega arith), append-nil) (sections-none f n k (λ s above below. none s above (omega arith)))

-- the sections with memory, if each of the next `k` sections has memory of one node
pub sections-run : (f : Labels) (n k node : ℕ) (v : LabelView) → v.node ≡ Some node
    → ((s : ℕ) → n ≤ s → s < n + k → section_label f s ≡ Some v)
    → sections_below f (n + k) ≡ sections_below f n ++ sections_from n k node
unfolding sections_below sections_from
sections-run f n zero node v has all = rw (add-zero, append-nil) refl
sections-run f n (suc k) node v has all =
    let so_far = sections-run f n k node v has (λ s above below. all s above (omega arith)) in
    rw (add-suc, all (n + k) (omega arith) (omega arith), has, so_far, append_assoc) refl

-- the list of sections of one node, to which sections are added one by one
pub from-none : (before : List Section) (first node : ℕ) → before ≡ before ++ sections_from first (first - first) node
unfolding sections_from
from-none before first node =
    let e : first - first ≡ 0 = omega arith in rw (e, append-nil before) refl

pub from-next : (before now : List Section) (first number node : ℕ) → first ≤ number
    → now ≡ before ++ sections_from first (number - first) node
    → now ++ record { number = number; node = node } ∷ [] ≡ before ++ sections_from first (number + 1 - first) node
unfolding sections_from
from-next before now first number node above so_far =
    let here : first + (number - first) ≡ number = omega arith in
    let more : number + 1 - first ≡ suc (number - first) = omega arith in
    rw (so_far, more, here, append_assoc) refl

pub nobody : RunOf LabelView
nobody = record { base = 0; size = 0; value = plain_label }

-- what remains to be looked at from section `next` on
pub record IsLeft (f : Labels) (next : ℕ) (rs : List (RunOf LabelView)) : Type 0 where
  pub runs : AreRuns rs
  pub starts : StartAtOrPast (0x8000000 * (next - 1)) rs
  pub each : (x : ℕ) → 0x8000000 * next ≤ x → f x ≡ value_at rs x

pub left-all : (rs : List (RunOf LabelView)) → AreRuns rs → IsLeft (value_at rs) 0 rs
left-all [] runs = record { runs = runs; starts = tt; each = λ x above. refl }
left-all (r ∷ rs) runs = record { runs = runs; starts = omega arith; each = λ x above. refl }

starts-next : (r : RunOf LabelView) (rs : List (RunOf LabelView)) (at : ℕ) → at ≤ run_end r → StartAtOrPast (run_end r) rs
    → StartAtOrPast at rs
starts-next r [] at less starts = tt
starts-next r (s ∷ ss) at less starts = omega arith

-- what remains after a record
pub left-next : (f : Labels) (next : ℕ) (r : RunOf LabelView) (rs : List (RunOf LabelView)) → IsLeft f next (r ∷ rs)
    → IsLeft f ((run_end r - 1) / 0x8000000 + 1) rs
left-next f next r rs left =
    let some : 0 < r.size = left.runs.0 in
    let from : 0x8000000 * (next - 1) ≤ r.base = left.starts in
    record {
      runs = left.runs.2;
      starts = starts-next r rs (0x8000000 * ((run_end r - 1) / 0x8000000 + 1 - 1)) (omega arith) (rest_from r rs left.runs);
      each = λ x above. rw (past_end r x (omega arith)) at (left.each x (omega arith));
    }

-- the sections with memory after one more record
pub sections-record : (f : Labels) (next : ℕ) (r : RunOf LabelView) (rs : List (RunOf LabelView)) (first until node : ℕ)
    → IsLeft f next (r ∷ rs)
    → r.base % 4096 ≡ 0 → r.value.node ≡ Some node → first ≡ max next (r.base / 0x8000000) → until ≡ (run_end r - 1) / 0x8000000 + 1
    → sections_below f until ≡ sections_below f next ++ sections_from first (until - first) node
sections-record f next r rs first until node left whole has first_is until_is =
    let some : 0 < r.size = left.runs.0 in
    let from : 0x8000000 * (next - 1) ≤ r.base = left.starts in
    let none : (x : ℕ) → 0x8000000 * next ≤ x → x < r.base → f x ≡ None = λ x above under.
    left.each x above ∙ none_below r.base x (r ∷ rs) left.runs (omega arith) under in
    let here : (x : ℕ) → 0x8000000 * next ≤ x → r.base ≤ x → x < run_end r → f x ≡ Some r.value = λ x above over under.
    rw (inside r x over under) at (left.each x above) in
    let gap = sections-none f next (first - next) (λ s above under.
    section-none f s (λ x over inner. none x (omega arith) (omega arith))) in
    let run = sections-run f first (until - first) node r.value has (λ s above under.
    section-found f s r whole (omega arith) (omega arith) some (λ x over inner. none x (omega arith) inner)
    (λ x over inner outer. here x (omega arith) inner outer)) in
    let low : next + (first - next) ≡ first = omega arith in
    let high : first + (until - first) ≡ until = omega arith in
    rw (rw high at run, rw low at gap) refl

-- the next record, which is at this index of the table
pub record IsNext (f : Labels) (next : ℕ) (rs : List (RunOf LabelView)) (i : ℕ) (g : Region) : Type 0 where
  pub left : IsLeft f next (get_or rs i nobody ∷ drop (i + 1) rs)
  pub whole : IsWholeFramesWithNode (get_or rs i nobody)
  pub base : g.base ≡ (get_or rs i nobody).base
  pub size : g.size ≡ (get_or rs i nobody).size
  pub node : (get_or rs i nobody).value.node ≡ Some g.node
  pub some : 0 < g.size
  pub reach : g.base + g.size ≤ 2 ^ 52
  pub from : 0x8000000 * (next - 1) ≤ g.base

pub next-record : (f : Labels) (next : ℕ) (rs : List (RunOf LabelView)) (i : ℕ) (g : Region) → i < length rs → All IsWholeFramesWithNode rs
    → IsLeft f next (drop i rs) → g ≡ region_of (get_or rs i nobody) → IsNext f next rs i g
next-record f next rs i g few whole left is =
    let r : RunOf LabelView = get_or rs i nobody in
    let told : IsWholeFramesWithNode r = whole i nobody few in
    let here : IsLeft f next (r ∷ drop (i + 1) rs) = rw add-one (rw (drop-cons rs i nobody few) at left) in
    let base : g.base ≡ r.base = ap (λ (t : Region). t.base) is in
    let size : g.size ≡ r.size = ap (λ (t : Region). t.size) is in
    record {
      left = here;
      whole = told;
      base = base;
      size = size;
      node = rw (is, told.has) refl;
      some = omega (arith, here.runs.0);
      reach = omega (arith, told.reach);
      from = omega (arith, here.starts);
    }

pub present-none : (f : Labels) → sections_below f 0 ≡ []
unfolding sections_below
present-none f = refl

-- if no record remains, all sections with memory have been found
pub present-end : (f : Labels) (next : ℕ) → IsLeft f next [] → next ≤ 2 ^ 25 → sections_below f next ≡ present f
unfolding present
present-end f next left reach =
    let e : 2 ^ 25 ≡ next + (2 ^ 25 - next) = omega arith in
    sym (ap (sections_below f) e
    ∙ sections-none f next (2 ^ 25 - next) (λ s above under. section-none f s (λ x over inner. left.each x (omega arith))))
