-- A change that makes room and then writes one item: how a call that makes it ends.
use Rattle.std.proofs.Common.{◌≡◌, ℕ, false, List, [], ◌∷◌, ◌++◌, Result, Ok, Err, IsErrAnd, ap, subst, arith}
use Rattle.bm_base.specs.Range.{RangeView}
use Rattle.memblock_model.specs.declared.item.Item.{Item}
use Rattle.memblock_ranges.specs.Tables.{TablesView}
use Rattle.growth_model.specs.declared.refusal.Refusal.{Refusal}
use Rattle.growth_model.specs.declared.refusal.Refusal.TheVariants as refusal
use Rattle.growth_model.specs.Change.{Change, ◌>>◌, write_item}
use Rattle.growth_model.specs.Ends.{EndsAsChange}
use Rattle.growth_model.specs.Bytes.{is_vacated_by}
use Rattle.growth_model.proofs.EndLaws.{EndsAsChange-second, EndsAsChange-first, EndsAsChange-step, EndsAsChange-wanting}
use Rattle.growth_model.proofs.FollowLaws.{follows-item, follows-then}
use Rattle.memblock_grow.specs.declared.places.AllocSettings.{AllocSettings}
use Rattle.memblock_grow.specs.Invariant.{TablesMatchItems, ChangesOnlyTables, KeepsTables, BytesFollowItems}

-- if a result is known to be the error `e`, it is that error
pub handed : {T : Type 0} (r : Result T Refusal) (e : Refusal) → IsErrAnd r (λ (n : Refusal). n ≡ e) → r ≡ Err e
handed (Ok x) e h = absurd h
handed (Err n) e h = ap (λ (m : Refusal). Err m) h

pub change-fails : (growths : Change) (i : Item) (e : Refusal) (r : Result (Unit {0}) Refusal) (old new : List Item)
    → IsErrAnd r (λ (n : Refusal). n ≡ e) → EndsAsChange {T = Unit {0}} (Err e) old new growths
    → EndsAsChange r old new (growths >> write_item i)
change-fails growths i e r old new is h = rw (handed r e is) (EndsAsChange-first (Unit {0}) (Unit {0}) e old new growths (write_item i) h)

pub change-wants : (growths : Change) (i : Item) (r : Result (Unit {0}) Refusal) (old mid new : List Item)
    → IsErrAnd r (λ (n : Refusal). n ≡ refusal.Memory) → EndsAsChange {T = Unit {0}} (Ok tt) old mid growths
    → new ≡ mid → EndsAsChange r old new (growths >> write_item i)
change-wants growths i r old mid new is h same =
    rw (handed r refusal.Memory is, same)
    (EndsAsChange-second {T = Unit {0}} {U = Unit {0}} tt (Err refusal.Memory) old mid mid growths (write_item i) h
    (EndsAsChange-wanting (Unit {0}) mid (write_item i) (omega arith)))

pub change-done : (growths : Change) (i : Item) (old mid new : List Item) → EndsAsChange {T = Unit {0}} (Ok tt) old mid growths
    → new ≡ mid ++ i ∷ [] → EndsAsChange {T = Unit {0}} (Ok tt) old new (growths >> write_item i)
change-done growths i old mid new h is =
    rw is (EndsAsChange-second {T = Unit {0}} {U = Unit {0}} tt (Ok tt) old mid (mid ++ i ∷ []) growths (write_item i) h
    (EndsAsChange-step {T = Unit {0}} tt mid (i ∷ [])))

-- how the change affects each byte, if its item moves no table
pub change-bytes : (i : Item) {old mid new : List Item} {t : TablesView} (u : TablesView) {v : TablesView} {at : AllocSettings}
    → new ≡ mid ++ i ∷ []
    → ((kernel : RangeView) (x : ℕ) → is_vacated_by kernel mid i x ≡ false) → KeepsTables old t new v at → ChangesOnlyTables u v
    → BytesFollowItems old t mid u at
    → BytesFollowItems old t new v at
change-bytes i {mid} u {v} {at} is stays kept told before = λ kernel known spelled.
    let after = subst (λ (l : List Item). TablesMatchItems kernel l v at) is (kept kernel known) in
    rw is (follows-then _ _ _ _ _ _ _ (before kernel known spelled)
    (follows-item kernel mid i v.memory v.reserved _ _ (stays kernel) after.memory after.reserved told))
