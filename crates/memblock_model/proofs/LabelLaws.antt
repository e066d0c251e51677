-- The labels of a frame after a trim.
use Rattle.std.proofs.Common.{◌≡◌, ◌≢◌, ◌⊎◌, ℕ, ◌+◌, ◌-◌, ◌%◌, ◌<◌, ◌≤◌, true, None, refl, sym, ◌∙◌, ap, inl, inr, arith}
use Rattle.std.proofs.lemmas.Bool.Decides.{nat_tests}
use Rattle.std.proofs.lemmas.Bool.{cases_Bool}
use Rattle.bm_base.specs.Range.{covers}
use Rattle.bm_base.proofs.EachLaws.{each_in-all, each_in-each, each_in-same}
use Rattle.address_runs.specs.Edits.{agree}
use Rattle.address_runs.proofs.EditLaws.{agree-yes, agree-same}
use Rattle.bm_base.specs.Frames.{frame_around}
use Rattle.bm_base.specs.Each.{each_in}
use Rattle.memblock_model.specs.Labels.{Labels}
use Rattle.memblock_model.specs.Same.{same_label}
use Rattle.memblock_model.specs.Items.{trim_frames}
use Rattle.memblock_model.proofs.SameLaws.{same_label_decides_equality}

-- the two addresses lie in one frame
pub record IsInFrame (x y : ℕ) : Type 0 where
  pub above : x - x % 4096 ≤ y
  pub below : y < x - x % 4096 + 4096

pub in_own_frame : (x : ℕ) → IsInFrame x x
in_own_frame x = record { above = omega arith; below = omega arith }

pub frame_back : (x y : ℕ) → IsInFrame x y → IsInFrame y x
frame_back x y h = let a = h.above in let b = h.below in record { above = omega arith; below = omega arith }

pub frame_join : (x y z : ℕ) → IsInFrame x y → IsInFrame x z → IsInFrame y z
frame_join x y z h k =
    let a = h.above in let b = h.below in let c = k.above in let d = k.below in
    record { above = omega arith; below = omega arith }

-- a trim keeps the label of a frame whose bytes all have the same one
pub trim_frames-whole : (f : Labels) (x : ℕ)
    → ((y : ℕ) → IsInFrame x y → f y ≡ f x) → trim_frames f x ≡ f x
unfolding trim_frames
trim_frames-whole f x all =
    let whole : each_in (frame_around x) (λ y. agree same_label (f y) (f x)) ≡ true =
    each_in-all (frame_around x) (λ y. agree same_label (f y) (f x))
    (λ y above below. agree-same same_label same_label_decides_equality (f y) (f x) (all y (record { above = above; below = below }))) in
    rw whole refl

-- after a trim a byte has the label of its whole frame, or none
pub trim_frames-cases : (f : Labels) (x : ℕ)
    → ((y : ℕ) → IsInFrame x y → f y ≡ f x) ⊎ (trim_frames f x ≡ None)
unfolding trim_frames
trim_frames-cases f x =
    elim (cases_Bool (each_in (frame_around x) (λ u. agree same_label (f u) (f x)))) as (λ _. ((y : ℕ) → IsInFrame x y → f y ≡ f x)
    ⊎ (trim_frames f x ≡ None)) [
      | inl holds ↦ inl (λ y at_y. agree-yes same_label same_label_decides_equality (f y) (f x)
          (each_in-each (frame_around x) (λ u. agree same_label (f u) (f x)) holds y at_y.above at_y.below))
      | inr fails ↦ inr (rw fails refl)
    ]

-- after a trim a frame with two labels has none
pub trim_frames-unlike : (f : Labels) (x y z : ℕ)
    → IsInFrame x y → IsInFrame x z → f y ≢ f z → trim_frames f x ≡ None
trim_frames-unlike f x y z at_y at_z unlike =
    elim (trim_frames-cases f x) as (λ _. trim_frames f x ≡ None)
    [ inl one ↦ absurd (unlike (one y at_y ∙ sym (one z at_z))) | inr bare ↦ bare ]

-- after a trim all bytes of a frame have the same label, or none
pub trim_frames-frame : (f : Labels) (x y : ℕ) → IsInFrame x y → trim_frames f y ≡ trim_frames f x
trim_frames-frame f x y at_y =
    elim (trim_frames-cases f x) as (λ _. trim_frames f y ≡ trim_frames f x) [
      | inl one ↦
          trim_frames-whole f y (λ z at_z. one z (frame_join y x z (frame_back x y at_y) at_z) ∙ sym (one y at_y))
          ∙ one y at_y ∙ sym (trim_frames-whole f x one)
      | inr none ↦
          elim (trim_frames-cases f y) as (λ _. trim_frames f y ≡ trim_frames f x) [
            | inl one ↦
                let here : f x ≡ f y = one x (frame_back x y at_y) in
                trim_frames-whole f y one ∙ sym here
                ∙ sym (trim_frames-whole f x (λ z at_z. one z (frame_join x y z at_y at_z) ∙ sym here))
            | inr none_too ↦ none_too ∙ sym none
          ]
    ]

-- what a trim does to a frame depends only on the labels in this frame
pub trim_frames-local : (f g : Labels) (x : ℕ) → ((y : ℕ) → IsInFrame x y → f y ≡ g y) → trim_frames f x ≡ trim_frames g x
unfolding trim_frames
trim_frames-local f g x alike =
    let here : f x ≡ g x = alike x (in_own_frame x) in
    let tests : each_in (frame_around x) (λ y. agree same_label (f y) (f x))
    ≡ each_in (frame_around x) (λ y. agree same_label (g y) (g x)) =
    each_in-same (frame_around x) (λ y. agree same_label (f y) (f x)) (λ y. agree same_label (g y) (g x))
    (λ y above below. ap (λ o. agree same_label o (f x)) (alike y (record { above = above; below = below }))
    ∙ ap (λ o. agree same_label (g y) o) here) in
    rw (tests, here) refl

-- the test that an address is in a frame, as two bounds
pub in_frame : (x y : ℕ) → covers (frame_around x) y ≡ true → IsInFrame x y
in_frame x y h = record { above = grind (arith, nat_tests); below = grind (arith, nat_tests) }
