-- A boot is printable if its runs are within the bounds that the program's types ensure.
use Rattle.std.proofs.Common.{◌≡◌, ℕ, ◌+◌, ◌^◌, ◌<◌, Some, List, [], ◌∷◌, drop, get_or, length, Ok, refl, sym, ◌∙◌, ap, subst, inl, inr, arith}
use Rattle.std.specs.List.{All}
use Rattle.std.proofs.lemmas.Bool.{cases_lt}
use Rattle.std.proofs.lemmas.List.{drop_more}
use Rattle.std.proofs.lemmas.List.Elements.{All-cons, All-head, All-nil, All-tail}
use Rattle.address_runs.specs.Edits.{IsEmptyFrom}
use Rattle.address_runs.specs.Runs.{AreRuns, IsRunsOf, RunOf, run_end, value_at}
use Rattle.address_runs.proofs.RunsLaws.{past_end, inside, none_below, rest_from}
use Rattle.audit_roundtrip.specs.PrintedLines.{IsPrintableOwnerRun, IsPrintableRun}
use Rattle.boot_model.specs.Boot.{InputsView, BootedView, claims, whole_boot, no_extra}
use Rattle.boot_model.proofs.BootLaws.{goes_on, map_between}
use Rattle.conservation.proofs.ToldLaws.{IsReportOfBoot, is_told_of, own_told}
use Rattle.e820_model.specs.Map.{map_of}
use Rattle.e820_model.proofs.ClaimLaws.{kind_small}
use Rattle.memblock_model.specs.Items.{owner_of, owner_runs_of}
use Rattle.memblock_model.specs.declared.owner.Owner.{Owner}
use Rattle.audit_soundness.specs.PrintableBoots.{IsPrintableBoot, RunEndsInSpace, IsBoundedOwnerRun}
use Rattle.audit_soundness.proofs.SavedLaws.{map_runs}

-- if the remaining elements satisfy `P` and the one before them does too, all these do
pub one_more : {X : Type 0} (P : X → Type 0) (xs : List X) (i : ℕ) (x d : X) → i < length xs → x ≡ get_or xs i d → P x
    → All P (drop (i + 1) xs) → All P (drop i xs)
one_more {X} P xs i x d few is here rest =
    subst (λ (ys : List X). All P ys) (sym (drop_more xs i d few)) (All-cons P (get_or xs i d) (drop (i + 1) xs) (subst P is here) rest)

-- runs that end below 2^64 give no value to an address from 2^64 on
nothing_past : {X : Type 0} (rs : List (RunOf X)) → All RunEndsInSpace rs → IsEmptyFrom (2 ^ 64) (value_at rs)
nothing_past [] near x far = refl
nothing_past (r ∷ rs) near x far =
    let end : r.base + r.size < 2 ^ 64 = All-head RunEndsInSpace r rs near in
    rw (past_end r x (omega (arith, end, far))) (nothing_past rs (All-tail RunEndsInSpace r rs near) x far)

-- runs of the map are printable if they end below 2^64 and have types above 0 of 32 bits
runs_told : (rs : List (RunOf ℕ)) → AreRuns rs → ((x k : ℕ) → value_at rs x ≡ Some k → (0 < k) × (k < 2 ^ 32)) → All RunEndsInSpace rs
    → All IsPrintableRun rs
runs_told [] runs types near = All-nil IsPrintableRun
runs_told (r ∷ rs) runs types near =
    let some : 0 < r.size = runs.0 in
    let here : value_at (r ∷ rs) r.base ≡ Some r.value = rw (inside r r.base (omega arith) (omega (arith, some))) refl in
    All-cons IsPrintableRun r rs ((some, All-head RunEndsInSpace r rs near), types r.base r.value here)
    (runs_told rs runs.2 (λ x k found. types x k (rest_gives x k found)) (All-tail RunEndsInSpace r rs near))
  where
    rest_gives : (x k : ℕ) → value_at rs x ≡ Some k → value_at (r ∷ rs) x ≡ Some k
    rest_gives x k found =
        elim (cases_lt x (run_end r)) as (λ _. value_at (r ∷ rs) x ≡ Some k) [
          | inl low ↦ absurd (cc (sym found ∙ none_below (run_end r) x rs runs.2 (rest_from r rs runs) low))
          | inr past ↦ rw (past_end r x past) found
        ]

owners_told : (rs : List (RunOf Owner)) → AreRuns rs → All IsBoundedOwnerRun rs → All IsPrintableOwnerRun rs
owners_told [] runs near = All-nil IsPrintableOwnerRun
owners_told (r ∷ rs) runs near =
    let here = All-head IsBoundedOwnerRun r rs near in
    All-cons IsPrintableOwnerRun r rs ((runs.0, here.0), here.1) (owners_told rs runs.2 (All-tail IsBoundedOwnerRun r rs near))

module _ (inputs : InputsView) (booted : BootedView) (ends : whole_boot inputs ≡ Ok booted) where
  map_types : (x k : ℕ) → value_at booted.map x ≡ Some k → (0 < k) × (k < 2 ^ 32)
  map_types x k found =
      let of : IsReportOfBoot no_extra inputs booted = is_told_of no_extra inputs booted (own_told booted inputs ends) in
      let is : booted.map ≡ map_of (claims inputs) = ap (λ (t : BootedView). t.map) (sym of.tells)
      ∙ (goes_on no_extra inputs of.made of.boots).map in
      let given_so : value_at (map_of (claims inputs)) x ≡ Some k = ap (λ (rs : List (RunOf ℕ)). value_at rs x) (sym is) ∙ found in
      elim (cases_lt x (2 ^ 64)) as (λ _. (0 < k) × (k < 2 ^ 32)) [
        | inl low ↦
            kind_small (claims inputs) x k (sym ((map_between (claims inputs)).within x (omega arith) (omega (arith, low))) ∙ given_so)
        | inr far ↦ absurd (cc (sym given_so ∙ (map_between (claims inputs)).past x (omega (arith, far))))
      ]

  pub can_be_told : All RunEndsInSpace booted.map → IsRunsOf (owner_of booted.items) (owner_runs_of booted.items)
      → All IsBoundedOwnerRun (owner_runs_of booted.items) → IsPrintableBoot booted
  can_be_told near runs owners = record {
    map = runs_told booted.map (map_runs inputs booted ends) map_types near;
    owners = owners_told (owner_runs_of booted.items) runs.runs owners;
    within = λ x far. sym (runs.each x) ∙ nothing_past (owner_runs_of booted.items) (λ k d here. (owners k d here).0) x far;
  }
