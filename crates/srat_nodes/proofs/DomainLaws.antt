-- A list that stops at one more domain than there may be nodes is the start of the list of all
-- domains.
use Rattle.std.proofs.Common.{◌≡◌, ℕ, ◌<◌, ◌≤◌, ◌==◌, List, [], ◌∷◌, ◌++◌, map, fold, length, take, refl, sym, ◌∙◌, inl, inr, arith}
use Rattle.std.proofs.lemmas.Bool.{cases_lt, cases_Bool, le-leb}
use Rattle.std.proofs.lemmas.List.{take_all, take-append-le, length-append, length-take-le}
use Rattle.std.proofs.lemmas.List.Folds.{fold-map}
use Rattle.std.proofs.lemmas.List.Sums.{fold-append}
use Rattle.std.specs.List.{list_any}
use Rattle.srat_reader.specs.declared.table.SratBlock.{SratBlock}
use Rattle.srat_nodes.specs.Domains.{with_domain, domains_once, named_domains}
use Rattle.srat_nodes.specs.Steps.{with_domain_if_room, with_domain_of_block}

-- after one more domain, the shortened list is still the start of the full list
step_in_room : (full : List ℕ) (d : ℕ) → length full ≤ 1024 → with_domain_if_room (take 1025 full) d ≡ take 1025 (with_domain full d)
step_in_room full d few =
    let whole : take 1025 full ≡ full = take_all 1025 full (omega arith) in
    rw (whole, le-leb (length full) 1024 few)
    (elim (cases_Bool (list_any (λ e. e == d) full)) as (λ _. with_domain full d ≡ take 1025 (with_domain full d)) [
      | inl named ↦ rw named (sym whole)
      | inr new ↦ rw new (sym (take_all 1025 (full ++ d ∷ []) (omega (arith, length-append full (d ∷ [])))))
    ])

step_past : (full : List ℕ) (d : ℕ) → 1024 < length full → with_domain_if_room (take 1025 full) d ≡ take 1025 (with_domain full d)
step_past full d many =
    rw (length-take-le 1025 full (omega arith))
    (elim (cases_Bool (list_any (λ e. e == d) full)) as (λ _. take 1025 full ≡ take 1025 (with_domain full d)) [
      | inl named ↦ rw named refl
      | inr new ↦ rw new (sym (take-append-le 1025 full (d ∷ []) (omega arith)))
    ])

step_name : (full : List ℕ) (d : ℕ) → with_domain_if_room (take 1025 full) d ≡ take 1025 (with_domain full d)
step_name full d = elim (cases_lt 1024 (length full)) as (λ _. with_domain_if_room (take 1025 full) d ≡ take 1025 (with_domain full d)) [
  | inl many ↦ step_past full d many
  | inr few ↦ step_in_room full d few
]

-- after all domains, the shortened list is the start of the full list
names_in_room : (full names : List ℕ) → fold with_domain_if_room (take 1025 full) names ≡ take 1025 (fold with_domain full names)
names_in_room full [] = refl
names_in_room full (d ∷ ds) = rw (step_name full d) (names_in_room (with_domain full d) ds)

pub named_in_room : (processors : List ℕ) (blocks : List SratBlock)
    → fold with_domain_of_block (fold with_domain_if_room [] processors) blocks ≡ take 1025 (named_domains processors blocks)
unfolding domains_once
named_in_room processors blocks =
    sym (fold-map with_domain_if_room (λ (b : SratBlock). b.domain) (fold with_domain_if_room [] processors) blocks)
    ∙ sym (fold-append with_domain_if_room [] processors (map (λ (b : SratBlock). b.domain) blocks))
    ∙ names_in_room [] (processors ++ map (λ (b : SratBlock). b.domain) blocks)
