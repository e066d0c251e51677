-- A function before and after an edit of a range: its values below, inside and above the range,
-- and the room for its runs during the edit.
use Rattle.std.proofs.Common.{◌≡◌, ℕ, ◌+◌, ◌-◌, ◌^◌, ◌<◌, ◌≤◌, Bool, true, false, Option, None, List, length, take, drop, refl, sym, ◌∙◌, ap, arith}
use Rattle.std.specs.Prelude.{is_some}
use Rattle.std.proofs.lemmas.Bool.Decides.{nat_tests}
use Rattle.std.proofs.lemmas.List.{length-take-le, length-drop}
use Rattle.bm_base.specs.Range.{RangeView, covers}
use Rattle.address_runs.specs.Runs.{RunOf, DecidesEquality}
use Rattle.address_runs.specs.Edits.{change_range, IsEmptyFrom}
use Rattle.address_runs.specs.Sweep.{HasValueBetween, IsRestFrom, IsBuiltTo}
use Rattle.address_runs.proofs.EditLaws.{not_covered}
use Rattle.run_edits.specs.Ends.{HasRoomToEdit}
use Rattle.run_edits.proofs.JoinLaws.{swept_stretch, room_for}

below_range : (r : RangeView) (x : ℕ) → x < r.base → covers r x ≡ false
below_range r x under = grind (arith, nat_tests)

in_range : (r : RangeView) (x : ℕ) → r.base ≤ x → x < r.base + r.size → covers r x ≡ true
in_range r x above under = grind (arith, nat_tests)

module _ {X : Type 0} where
  pub amended_below : (change : Option X → Option X) (r : RangeView) (f : ℕ → Option X) (x : ℕ) → x < r.base
      → change_range change r f x ≡ f x
  amended_below change r f x under = rw (below_range r x under) refl

  pub amended_inside : (change : Option X → Option X) (r : RangeView) (f : ℕ → Option X) (x : ℕ) → r.base ≤ x → x < r.base + r.size
      → change_range change r f x ≡ change (f x)
  amended_inside change r f x above under = rw (in_range r x above under) refl

  pub amended_after : (change : Option X → Option X) (r : RangeView) (f : ℕ → Option X) (x : ℕ) → r.base + r.size ≤ x
      → change_range change r f x
      ≡ f x
  amended_after change r f x past = rw (not_covered r x past) refl

  -- inside the range, while the function is constant, the edited function is constant too
  pub amended_stays : (change : Option X → Option X) (r : RangeView) (f : ℕ → Option X) (from to next : ℕ) (v : Option X) → r.base ≤ from
      → to ≤ r.base + r.size → to ≤ next
      → HasValueBetween f from next (f from) → v ≡ change (f from) → HasValueBetween (change_range change r f) from to v
  amended_stays change r f from to next v first last order stays is x above under =
      amended_inside change r f x (omega arith) (omega arith) ∙ ap change (stays x above (omega arith)) ∙ sym is

  pub amended_stays_after : (change : Option X → Option X) (r : RangeView) (f : ℕ → Option X) (from next : ℕ) (v : Option X)
      → r.base + r.size ≤ from
      → HasValueBetween f from next (f from) → v ≡ f from → HasValueBetween (change_range change r f) from next v
  amended_stays_after change r f from next v past stays is x above under = amended_after change r f x (omega arith)
      ∙ stays x above under ∙ sym is

  -- if nothing is carried from an address on, and the range ends at or below it, nothing is carried
  -- from it on after the edit either
  pub amended_ends : (change : Option X → Option X) (r : RangeView) (f : ℕ → Option X) (at : ℕ) → r.base + r.size ≤ at → IsEmptyFrom at f
      → IsEmptyFrom at (change_range change r f)
  amended_ends change r f at ends none x le = amended_after change r f x (omega arith) ∙ none x le

  -- if the current run must be written and there is no free slot, there is room for one more record
  pub room_here : (same : X → X → Bool) → DecidesEquality same
      → (f g : ℕ → Option X) (start from to : ℕ) (v : Option X) (rs : List (RunOf X))
      (write read room : ℕ) → HasRoomToEdit same f g room
      → IsEmptyFrom (2 ^ 64) f → from ≤ to → to ≤ 2 ^ 64 → IsBuiltTo g from (take write rs) start v → (g from ≡ v → v ≡ None)
      → IsRestFrom f to (drop read rs)
      → write ≡ read → read ≤ length rs → start < from → is_some v ≡ true → length rs < room
  room_here same tells f g start from to v rs write read room has none order le built other rest free within lt some =
      let swept = swept_stretch g start from v (take write rs) built.swept built.begun built.stays other in
      let few : length (take write rs) + length (drop read rs) < room =
      room_for same tells f g start from to v (take write rs) (drop read rs) room has none order le swept lt some rest in
      let front : length (take write rs) ≡ write = length-take-le write rs (omega arith) in
      let back : length (drop read rs) ≡ length rs - read = length-drop read rs in
      omega (arith, few, front, back)
