-- Each owned byte has its claim in the journal. Each frame is touched or untouched, and never both.
use Rattle.std.proofs.Common.{◌≡◌, ◌⊎◌, ℕ, ◌+◌, ◌*◌, ◌<◌, ◌≤◌, Bool, true, false, Option, Some, None, is_none, List, [], ◌∷◌, fold, refl, sym, ◌∙◌, ap, inl, inr, arith}
use Rattle.std.specs.List.{list_any}
use Rattle.std.proofs.lemmas.Bool.Decides.{nat_tests}
use Rattle.std.proofs.lemmas.Bool.{cases_Bool}
use Rattle.bm_base.specs.Range.{covers}
use Rattle.bm_base.specs.Each.{each_in}
use Rattle.bm_base.specs.Frames.{bytes_of_frame}
use Rattle.bm_base.proofs.EachLaws.{each_in-each, failing_in}
use Rattle.memblock_model.specs.Items.{Owners, no_owners, owner_of, owners_after}
use Rattle.memblock_model.specs.declared.owner.Owner.{Owner}
use Rattle.memblock_model.specs.declared.item.Item.{Item}
use Rattle.memblock_model.specs.declared.item.Item.TheVariants as item
use Rattle.conservation.specs.RecordedClaims.{decides_owner, IsRecorded, IsTouched, IsUntouched}

-- where the byte's owner comes from: it owned the byte before the items and none of them decides,
-- or one of them claims the byte
abbrev pub ComesFrom : Owners → List Item → ℕ → Owner → Type 0
ComesFrom f items x who = ((f x ≡ Some who) × (list_any (λ i. decides_owner i x) items ≡ false)) ⊎ IsRecorded items x who

-- the owner that the first item leaves the byte with, if no later item decides
first : (f : Owners) (i : Item) (items : List Item) (x : ℕ) (who : Owner) → owners_after f i x ≡ Some who
    → (list_any (λ j. decides_owner j x) items ≡ false) → ComesFrom f (i ∷ items) x who
first f (item.Claim range owner) items x who has none =
    elim (cases_Bool (covers range x)) as (λ _. ComesFrom f (item.Claim range owner ∷ items) x who) [
      | inl inside ↦
          (let inputs : Some owner ≡ Some who = rw inside at has in
          let same : owner ≡ who = cc in
          inr (record {
            before = [];
            range = range;
            after = items;
            recorded = ap (λ (o : Owner). item.Claim range o ∷ items) same;
            covered = inside;
            stands = none;
          }))
      | inr outside ↦ inl (rw outside at has, rw outside none)
    ]
first f (item.Free range) items x who has none =
    elim (cases_Bool (covers range x)) as (λ _. ComesFrom f (item.Free range ∷ items) x who) [
      | inl inside ↦ (let inputs : None ≡ Some who = rw inside at has in absurd (cc))
      | inr outside ↦ inl (rw outside at has, rw outside none)
    ]
first f i items x who has none = inl (has, none)

comes_from : (f : Owners) (items : List Item) (x : ℕ) (who : Owner) → fold owners_after f items x ≡ Some who → ComesFrom f items x who
comes_from f [] x who has = inl (has, refl)
comes_from f (i ∷ items) x who has = elim (comes_from (owners_after f i) items x who has) as (λ _. ComesFrom f (i ∷ items) x who) [
  | inl early ↦ first f i items x who early.0 early.1
  | inr known ↦
      inr (record {
        before = i ∷ known.before;
        range = known.range;
        after = known.after;
        recorded = ap (λ (js : List Item). i ∷ js) known.recorded;
        covered = known.covered;
        stands = known.stands;
      })
]

-- if a byte has an owner, the journal has the claim
pub owner_recorded : (items : List Item) (x : ℕ) (who : Owner) → owner_of items x ≡ Some who → IsRecorded items x who
owner_recorded items x who has = elim (comes_from no_owners items x who has) as (λ _. IsRecorded items x who) [
  | inl early ↦ absurd (cc (early.0))
  | inr known ↦ known
]

-- an address between the ends of a frame is one of the frame's bytes
pub frame_covers : (frame x : ℕ) → 4096 * frame ≤ x → x < 4096 * frame + 4096 → covers (bytes_of_frame frame) x ≡ true
frame_covers frame x above below = grind (arith, nat_tests)

-- a byte of a frame lies between the frame's ends
pub covers_frame : (frame x : ℕ) → covers (bytes_of_frame frame) x ≡ true → (4096 * frame ≤ x) × (x < 4096 * frame + 4096)
covers_frame frame x inside = (grind (arith, nat_tests), grind (arith, nat_tests))

none_is : {A : Type 0} (o : Option A) → is_none o ≡ true → o ≡ None
none_is None is = refl
none_is (Some a) is = absurd (cc is)

some_is : {A : Type 0} (o : Option A) → is_none o ≡ false → (a : A) × (o ≡ Some a)
some_is None is = absurd (cc is)
some_is (Some a) is = (a, refl)

-- each frame is touched or untouched
pub touched_or_not : (items : List Item) (frame : ℕ) → IsTouched items frame ⊎ IsUntouched items frame
touched_or_not items frame =
    let bare : ℕ → Bool = λ x. is_none (owner_of items x) in
    elim (cases_Bool (each_in (bytes_of_frame frame) bare)) as (λ _. IsTouched items frame ⊎ IsUntouched items frame) [
      | inl all ↦ inr (λ x inside.
          let ends = covers_frame frame x inside in
          none_is (owner_of items x) (each_in-each (bytes_of_frame frame) bare all x ends.0 ends.1))
      | inr not_all ↦
          (let found = failing_in (bytes_of_frame frame) bare not_all in
          let who = some_is (owner_of items found.at) found.fails in
          inl (record {
            byte = found.at;
            owner = who.0;
            inside = frame_covers frame found.at found.above found.below;
            owned = who.1;
            recorded = owner_recorded items found.at who.0 who.1;
          }))
    ]

-- no frame is both touched and untouched
pub touched_apart : (items : List Item) (frame : ℕ) → IsTouched items frame → IsUntouched items frame → ⊥
touched_apart items frame touched bare = absurd (cc (sym touched.owned ∙ bare touched.byte touched.inside))
