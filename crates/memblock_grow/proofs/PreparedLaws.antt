-- Which addresses are prepared after one call and another, after an item that is no growth, after
-- a growth, and at the end of a call.
use Rattle.std.proofs.Common.{◌≡◌, ℕ, ◌*◌, Bool, false, ◌||◌, List, [], ◌∷◌, ◌++◌, Result, Ok, Err, OnErr, refl, sym, ◌∙◌, ap, subst, append_assoc, arith}
use Rattle.std.proofs.lemmas.Bool.Decides.{nat_tests}
use Rattle.std.proofs.lemmas.List.{append-nil}
use Rattle.std.proofs.Math.Bool.{or_assoc}
use Rattle.bm_base.specs.Range.{RangeView, covers}
use Rattle.phys_store.specs.Bytes.{ExtentView, is_prepared_at}
use Rattle.memblock_model.specs.declared.owner.Which.{Which}
use Rattle.memblock_model.specs.declared.item.Item.{Item}
use Rattle.memblock_model.specs.declared.item.Item.TheVariants as item
use Rattle.growth_model.specs.declared.refusal.Refusal.{Refusal}
use Rattle.growth_model.specs.declared.refusal.Refusal.TheVariants as refusal
use Rattle.growth_model.specs.Growth.{frames_for_bytes}
use Rattle.memblock_grow.specs.Prepared.{moves_table_over, is_moved_over_by_table, Prepares, PreparesPlaceToo, PreparesAsResult}

grown-append : (a b : List Item) (x : ℕ) → is_moved_over_by_table (a ++ b) x ≡ (is_moved_over_by_table a x || is_moved_over_by_table b x)
grown-append [] b x = refl
grown-append (i ∷ is) b x =
    rw (grown-append is b x) (sym (or_assoc (moves_table_over i x) (is_moved_over_by_table is x) (is_moved_over_by_table b x)))

-- the addresses that further items and a place prepare, in another order
swap : (g h c s : Bool) → (h || (c || (g || s))) ≡ ((g || h) || (c || s))
swap g h c s = grind arith

-- what two calls prepare, one after the other
pub prepares-then : {items mid last : List Item} {s t u : List ExtentView} → Prepares items mid s t → Prepares mid last t u
    → Prepares items last s u
prepares-then {s} first second = record {
  more = first.more ++ second.more;
  goes_on = second.goes_on ∙ ap (λ (is : List Item). is ++ second.more) first.goes_on ∙ append_assoc _ first.more second.more;
  each = λ x. rw (second.each x, first.each x, grown-append first.more second.more x)
      (swap (is_moved_over_by_table first.more x) (is_moved_over_by_table second.more x) false (is_prepared_at s x));
}

-- an item that is no growth prepares nothing
pub prepares-item : (i : Item) {old mid new : List Item} {s t u : List ExtentView} → Prepares old mid s t → new ≡ mid ++ i ∷ []
    → ((x : ℕ) → moves_table_over i x ≡ false) → ((x : ℕ) → is_prepared_at u x ≡ is_prepared_at t x) → Prepares old new s u
prepares-item i first is none same =
    prepares-then first (record { more = i ∷ []; goes_on = is; each = λ x. rw (none x) (same x) })

-- what a call prepares after a place was prepared
pub prepares-with : {place : RangeView} {items longer : List Item} {s p t : List ExtentView}
    → ((x : ℕ) → is_prepared_at p x ≡ (covers place x || is_prepared_at s x)) → Prepares items longer p t
    → PreparesPlaceToo place items longer s t
prepares-with first h = record {
  more = h.more;
  goes_on = h.goes_on;
  each = λ x. rw (h.each x, first x) refl;
}

with-then : {place : RangeView} {items mid last : List Item} {s t u : List ExtentView} → Prepares items mid s t
    → PreparesPlaceToo place mid last t u → PreparesPlaceToo place items last s u
with-then {place} {s} first second = record {
  more = first.more ++ second.more;
  goes_on = second.goes_on ∙ ap (λ (is : List Item). is ++ second.more) first.goes_on ∙ append_assoc _ first.more second.more;
  each = λ x. rw (second.each x, first.each x, grown-append first.more second.more x)
      (swap (is_moved_over_by_table first.more x) (is_moved_over_by_table second.more x) (covers place x) (is_prepared_at s x));
}

-- what is prepared after a table has grown into that place, with twice the room
join : (g c s : Bool) → (g || (c || s)) ≡ ((g || (c || false)) || s)
join g c s = grind arith

pub with-growth : (w : Which) (n : ℕ) {items mid longer : List Item} {base room : ℕ} {place : RangeView} {s t u : List ExtentView}
    → PreparesPlaceToo place items mid s t → longer ≡ mid ++ item.Grown w base room ∷ [] → base ≡ place.base → room ≡ 2 * n
    → place ≡ frames_for_bytes place.base (48 * n) → ((x : ℕ) → is_prepared_at u x ≡ is_prepared_at t x) → Prepares items longer s u
with-growth w n {base} {room} {place} {s} h is here twice frames same =
    let i : Item = item.Grown w base room in
    let bytes : 48 * n ≡ 24 * room = omega (arith, twice) in
    let whole : place ≡ frames_for_bytes base (24 * room) =
    frames ∙ ap (λ (m : ℕ). frames_for_bytes place.base m) bytes ∙ ap (λ (b : ℕ). frames_for_bytes b (24 * room)) (sym here) in
    record {
      more = h.more ++ i ∷ [];
      goes_on = is ∙ ap (λ (is : List Item). is ++ i ∷ []) h.goes_on ∙ append_assoc _ h.more (i ∷ []);
      each = λ x. rw (same x, h.each x, grown-append h.more (i ∷ []) x, whole)
          (join (is_moved_over_by_table h.more x) (moves_table_over i x) (is_prepared_at s x));
    }

pub prepares-growth : (w : Which) (n : ℕ) {items longer : List Item} {base room : ℕ} {place : RangeView} {s t : List ExtentView}
    → longer ≡ items ++ item.Grown w base room ∷ [] → base ≡ place.base → room ≡ 2 * n → place ≡ frames_for_bytes place.base (48 * n)
    → ((x : ℕ) → is_prepared_at t x ≡ (covers place x || is_prepared_at s x)) → Prepares items longer s t
prepares-growth w n {items} {t} is here twice frames each =
    with-growth w n {mid = items} {t = t} (record { more = []; goes_on = sym (append-nil items); each = each }) is here twice frames
    (λ x. refl)

-- if `Prepares` holds at the end of a call, `PreparesAsResult` does whatever the result is
abbrev nowhere : RangeView
nowhere = record { base = 0; size = 0 }

pub by-exact : {T : Type 0} (r : Result T Refusal) {items longer : List Item} {s t : List ExtentView} → Prepares items longer s t
    → PreparesAsResult r items longer s t
by-exact (Ok x) h = h
by-exact (Err refusal.NoGap) h = h
by-exact (Err (refusal.NoGapForTable w room)) h = h
by-exact (Err refusal.Memory) {s} h = (
  nowhere,
  record {
    more = h.more;
    goes_on = h.goes_on;
    each = λ x. let none : covers nowhere x ≡ false = grind (arith, nat_tests) in rw (h.each x, none) refl;
  },
)

-- what is prepared if no further item was written, and if no item at all was written
pub by-item : {T : Type 0} (r : Result T Refusal) {items mid longer : List Item} {s t : List ExtentView} → longer ≡ mid
    → Prepares items mid s t → PreparesAsResult r items longer s t
by-item r {items} {s} {t} same h = by-exact r (subst (λ (l : List Item). Prepares items l s t) (sym same) h)

pub none-on-err : {T : Type 0} (r : Result T Refusal) (items : List Item) {s t : List ExtentView} → t ≡ s
    → OnErr r (PreparesAsResult r items items s t)
none-on-err (Ok x) items same = tt
none-on-err {T} (Err e) items same = by-exact {T = T} (Err e)
    (record { more = []; goes_on = sym (append-nil items); each = λ x. ap (λ (u : List ExtentView). is_prepared_at u x) same })

-- what is prepared after a call that follows others, and after an error that is passed on
pub by-then : {T : Type 0} (r : Result T Refusal) {items mid : List Item} (last : List Item) {s t : List ExtentView} (u : List ExtentView)
    → Prepares items mid s t → PreparesAsResult r mid last t u → PreparesAsResult r items last s u
by-then (Ok x) last u first second = prepares-then first second
by-then (Err refusal.NoGap) last u first second = prepares-then first second
by-then (Err (refusal.NoGapForTable w room)) last u first second = prepares-then first second
by-then (Err refusal.Memory) last u first second = (second.0, with-then first second.1)
