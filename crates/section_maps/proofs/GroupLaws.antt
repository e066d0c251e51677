-- How the stage ends, one group after another.
use Rattle.std.proofs.Common.{◌≡◌, ℕ, suc, ◌+◌, ◌<◌, ◌==◌, Bool, false, List, [], ◌∷◌, length, take, drop, get_or, Result, Ok, Err, refl, sym, ◌∙◌, ap, inl, inr, eq-eqb, arith}
use Rattle.std.specs.List.{prefix_len}
use Rattle.std.proofs.lemmas.Bool.{cases_Bool, eqb-true, false_from_ne_true}
use Rattle.memblock_model.specs.declared.item.Item.{Item}
use Rattle.memblock_grow.specs.declared.stop.Section.{Section}
use Rattle.memblock_grow.specs.declared.stop.StageStop.{StageStop}
use Rattle.memblock_grow.specs.declared.stop.StageStop.TheVariants as stop
use Rattle.stage_steps.specs.Causes.{error_of_stage_cause}
use Rattle.stage_steps.specs.Steps.{EndsAsStage, read_items_allocating, fold_steps}
use Rattle.stage_steps.proofs.DoingLaws.{ends-second, ends-first, ends-listed, ends-wanting, ends-returns}
use Rattle.section_maps.specs.declared.placed.Placed.{Placed}
use Rattle.section_maps.specs.Maps.{SectionGroup, prepend_section, groups_of, place_group, place_section_group, place_maps}

-- whether the section is of the node
abbrev pub is_of : ℕ → Section → Bool
is_of node s = s.node == node

-- the number of sections at the front that have the node of the first one
abbrev pub own_part : Section → List Section → ℕ
own_part d rest = prefix_len (is_of (get_or rest 0 d).node) rest

-- the group of a first section, with those of its node after it
abbrev pub group_at : Section → List Section → SectionGroup
group_at s ss = record { first = s; others = take (prefix_len (is_of s.node) ss) ss }

other-eq : (a b : ℕ) → (a == b) ≡ false → (b == a) ≡ false
other-eq a b other = false_from_ne_true (b == a) (λ same. let back = eq-eqb a b (sym (eqb-true b a same)) in cc)

-- the number of sections in a group: the first one and those of its node after it
own-length : (s : Section) (ss : List Section) → prefix_len (is_of s.node) (s ∷ ss) ≡ suc (prefix_len (is_of s.node) ss)
own-length s ss =
    let more : 1 + prefix_len (is_of s.node) ss ≡ suc (prefix_len (is_of s.node) ss) = omega arith in
    rw (eq-eqb s.node s.node refl) more

pub groups-next : (s : Section) (ss : List Section)
    → groups_of (s ∷ ss) ≡ group_at s ss ∷ groups_of (drop (prefix_len (is_of s.node) ss) ss)
groups-next s [] = refl
groups-next s (t ∷ ts) =
    let rest = groups-next t ts in
    let n : ℕ = prefix_len (is_of t.node) ts in
    ap (prepend_section s) rest ∙ elim (cases_Bool (t.node == s.node)) as (λ _. prepend_section s (group_at t ts ∷ groups_of (drop n ts))
    ≡ group_at s (t ∷ ts) ∷ groups_of (drop (prefix_len (is_of s.node) (t ∷ ts)) (t ∷ ts))) [
      | inl same ↦
          let is : t.node ≡ s.node = eqb-true t.node s.node same in
          let long = ap (λ (m : ℕ). prefix_len (is_of m) (t ∷ ts)) (sym is) ∙ own-length t ts in
          rw (eq-eqb s.node t.node (sym is), long) refl
      | inr other ↦
          let none : prefix_len (is_of s.node) (t ∷ ts) ≡ 0 = rw other refl in
          rw (other-eq t.node s.node other, none) (ap (λ (gs : List SectionGroup). record { first = s; others = [] } ∷ gs) (sym rest))
    ]

-- all groups end as those of the remaining sections
pub record Goes (entry : List Item) (sections : List Section) (now : List Item) (placed : List Placed) (rest : List Section) : Type 0 where
  pub ends : (r : Result (List Placed) StageStop) (new : List Item)
      → EndsAsStage (fold_steps place_section_group placed (groups_of rest)) error_of_stage_cause r now new
      → EndsAsStage (place_maps sections) error_of_stage_cause r entry new

pub goes-first : (entry : List Item) (sections : List Section) (placed : List Placed) → placed ≡ []
    → Goes entry sections entry placed sections
unfolding place_maps
goes-first entry sections placed none = record {
  ends = λ r new h.
      let groups : List SectionGroup = groups_of sections in
      let no_placed : List Item → List Placed = λ items. [] in
      ends-second [] r error_of_stage_cause entry entry new (read_items_allocating no_placed)
      (λ before. fold_steps place_section_group before groups)
      (ends-listed no_placed error_of_stage_cause entry)
      (rw none at h);
}

-- how the stage ends if this program is out of memory for the list
pub place_maps-wanting : (entry : List Item) (sections : List Section)
    → EndsAsStage {A = List Placed} (place_maps sections) error_of_stage_cause (Err stop.Memory) entry entry
unfolding place_maps
place_maps-wanting entry sections =
    let no_placed : List Item → List Placed = λ items. [] in
    ends-first stop.Memory error_of_stage_cause entry entry (read_items_allocating no_placed) (λ before.
    fold_steps place_section_group before (groups_of sections))
    (ends-wanting no_placed error_of_stage_cause entry)

-- no section remains, or a group comes next
module _ {entry : List Item} {sections : List Section} {now : List Item} {placed : List Placed} where
  pub goes-all : (rest : List Section) → length rest ≡ 0 → Goes entry sections now placed rest
      → EndsAsStage (place_maps sections) error_of_stage_cause (Ok placed) entry now
  goes-all [] none goes = goes.ends (Ok placed) now (ends-returns placed error_of_stage_cause now)
  goes-all (s ∷ ss) none goes = absurd (omega arith)

  front : (s : Section) (ss : List Section) → Goes entry sections now placed (s ∷ ss) → (r : Result (List Placed) StageStop)
      (new : List Item)
      → EndsAsStage
      (fold_steps place_section_group placed (group_at s ss ∷ groups_of (drop (prefix_len (is_of s.node) ss) ss)))
      error_of_stage_cause r now new
      → EndsAsStage (place_maps sections) error_of_stage_cause r entry new
  front s ss goes r new h = goes.ends r new (rw (groups-next s ss) h)

  pub goes-next : (mid : List Item) (longer : List Placed) (rest : List Section) (d : Section) → 0 < length rest
      → EndsAsStage (place_group placed (get_or rest 0 d) (take (own_part d rest) rest)) error_of_stage_cause (Ok longer) now mid
      → Goes entry sections now placed rest → Goes entry sections mid longer (drop (own_part d rest) rest)
  goes-next mid longer [] d some was goes = absurd (omega arith)
  goes-next mid longer (s ∷ ss) d some was goes = record {
    ends = λ r new h. front s ss goes r new
        (ends-second longer r error_of_stage_cause now mid new (place_section_group placed (group_at s ss))
        (λ next. fold_steps place_section_group next (groups_of (drop (prefix_len (is_of s.node) ss) ss))) (rw (own-length s ss) at was)
        (rw (own-length s ss) at h));
  }

  pub goes-stops : (e : StageStop) (new : List Item) (rest : List Section) (d : Section) → 0 < length rest
      → EndsAsStage {A = List Placed} (place_group placed (get_or rest 0 d) (take (own_part d rest) rest)) error_of_stage_cause
      (Err e) now new
      → Goes entry sections now placed rest → EndsAsStage {A = List Placed} (place_maps sections) error_of_stage_cause (Err e) entry new
  goes-stops e new [] d some failed goes = absurd (omega arith)
  goes-stops e new (s ∷ ss) d some failed goes =
      front s ss goes (Err e) new
      (ends-first e error_of_stage_cause now new (place_section_group placed (group_at s ss))
      (λ next. fold_steps place_section_group next (groups_of (drop (prefix_len (is_of s.node) ss) ss))) (rw (own-length s ss) at failed))
