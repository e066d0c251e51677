-- The place that an allocation finds in the tables is that of the items, and how its claim ends.
use Rattle.std.proofs.Common.{◌≡◌, ℕ, ◌+◌, ◌^◌, ◌<◌, Bool, true, false, Option, Some, None, List, [], ◌∷◌, Result, Ok, Err, IsErrAnd, refl, sym, ◌∙◌, ap, arith}
use Rattle.bm_base.specs.Range.{RangeView}
use Rattle.memblock_model.specs.declared.owner.Owner.{Owner}
use Rattle.memblock_model.specs.declared.item.Item.{Item}
use Rattle.memblock_model.specs.Items.{limit_of}
use Rattle.boot_journal.specs.Mirrors.{has_mirrors}
use Rattle.memblock_ranges.specs.Tables.{TablesView}
use Rattle.growth_model.specs.declared.refusal.Refusal.{Refusal}
use Rattle.growth_model.specs.declared.refusal.Refusal.TheVariants as refusal
use Rattle.memblock_model.specs.declared.query.Request.{Request}
use Rattle.growth_model.specs.Growth.{claim_range}
use Rattle.growth_model.specs.Request.{Attempt, attempt, any_node_attempt, node_attempts, attempts, first_found_place, place_for}
use Rattle.growth_model.specs.Ends.{EndsAsChange, Allocates}
use Rattle.growth_model.specs.Tables.{HasFirstItem}
use Rattle.growth_model.proofs.EndLaws.{EndsAsChange-error}
use Rattle.growth_model.proofs.FoundLaws.{place-unclaimed, place-within, unclaimed-away}
use Rattle.growth_model.proofs.SoundLaws.{may-away}
use Rattle.memblock_grow.specs.declared.places.AllocSettings.{AllocSettings}
use Rattle.memblock_grow.specs.Invariant.{TablesMatchItems, IsMemblock, AllowsClaim}
use Rattle.memblock_grow.specs.Places.{MirrorsComeFromItems, first_place_in_tables}
use Rattle.memblock_grow.proofs.PlaceLaws.{top_place-is, top_place-mirrorless}
use Rattle.memblock_grow.proofs.ChangeLaws.{handed}

-- if nothing is mirrored, no search in mirrored memory finds a place
any_node_attempt-mirrorless : (items : List Item) (t : TablesView) (up : Bool) (r : Request) (limit lo : ℕ) (wanted : Option ℕ)
    → MirrorsComeFromItems items t
    → has_mirrors items ≡ false → first_place_in_tables t up (any_node_attempt r limit lo true wanted) ≡ None
any_node_attempt-mirrorless items t up r limit lo None knows none = refl
any_node_attempt-mirrorless items t up r limit lo (Some node) knows none =
    let nowhere = top_place-mirrorless items t up (attempt r limit lo true None).query knows none in grind (arith, nowhere)

pub node_attempts-mirrorless : (items : List Item) (t : TablesView) (up : Bool) (r : Request) (limit lo : ℕ) → MirrorsComeFromItems items t
    → has_mirrors items ≡ false → first_place_in_tables t up (node_attempts r limit lo true) ≡ None
node_attempts-mirrorless items t up r limit lo knows none =
    rw (top_place-mirrorless items t up (attempt r limit lo true r.node).query knows none)
    (any_node_attempt-mirrorless items t up r limit lo r.node knows none)

module _ {kernel : RangeView} {items : List Item} {t : TablesView} {at : AllocSettings} (kept : TablesMatchItems kernel items t at) where
  first-is : (all : List Attempt) → first_place_in_tables t at.upward all ≡ first_found_place items all
  first-is [] = refl
  first-is (a ∷ rest) = rw (top_place-is kept a, first-is rest) refl

  pub place-is-for : (r : Request) {o found : Option ℕ} → o ≡ first_place_in_tables t at.upward (attempts r at.limit) → o ≡ found
      → place_for r items ≡ found
  place-is-for r is some =
      sym (is ∙ ap (λ (n : ℕ). first_place_in_tables t at.upward (attempts r n)) (sym kept.limit) ∙ first-is (attempts r (limit_of items)))
      ∙ some

  pub place-small : (r : Request) {place : ℕ} → place_for r items ≡ Some place → at.limit < 2 ^ 64 → place + r.size < 2 ^ 64
  place-small r {place} found small =
      let high = place-within r items place found in let limit = kept.limit in omega (arith, high, limit, small)

pub place-allowed : {kernel : RangeView} {items : List Item} {t : TablesView} {at : AllocSettings} (r : Request) {place : ℕ} (who : Owner)
    → IsMemblock kernel items t at → HasFirstItem items → place_for r items ≡ Some place
    → AllowsClaim items t at (record { base = place; size = r.size }) who
place-allowed {kernel} {items} r {place} who whole begun found =
    let range : RangeView = record { base = place; size = r.size } in (
      kernel,
      whole,
      may-away kernel items range who begun
          (unclaimed-away kernel range items (whole.placed begun) (place-unclaimed r items place found)),
    )

pub alloc-none : (items : List Item) {o : Option ℕ} (size : ℕ) (who : Owner) → o ≡ None
    → Allocates (Err refusal.NoGap) items items o size who
alloc-none items size who none = rw none (refl, refl)

pub alloc-fails : (items new : List Item) {o : Option ℕ} {place : ℕ} (size : ℕ) (who : Owner) (e : Refusal) (r : Result ℕ Refusal)
    → o ≡ Some place → IsErrAnd r (λ (n : Refusal). n ≡ e)
    → EndsAsChange {T = Unit {0}} (Err e) items new (claim_range (record { base = place; size = size }) who)
    → Allocates r items new o size who
alloc-fails items new {place} size who e r some is h =
    rw (some, handed r e is) (tt, EndsAsChange-error (Unit {0}) ℕ e items new (claim_range (record { base = place; size = size }) who) h)

pub alloc-done : (items new : List Item) {o : Option ℕ} {place : ℕ} (size : ℕ) (who : Owner) → o ≡ Some place
    → EndsAsChange {T = Unit {0}} (Ok tt) items new (claim_range (record { base = place; size = size }) who)
    → Allocates (Ok place) items new o size who
alloc-done items new size who some h = rw some (refl, h)
