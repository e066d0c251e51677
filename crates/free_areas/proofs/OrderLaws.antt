-- Lemmas on the order of blocks, and on an ordered set of them: adding and removing a key, and the
-- first key of a range.
use Rattle.std.proofs.Common.{◌≡◌, ◌≢◌, ◌⊎◌, ◌↔◌, ℕ, ◌<◌, ◌≤◌, true, false, List, [], ◌∷◌, refl, sym, ◌∙◌, ap, inl, inr, ⊎_elim, arith}
use Rattle.std.proofs.lemmas.Bool.Decides.{nat_tests}
use Rattle.std.proofs.lemmas.Bool.{cases_lt, cases_Bool}
use Rattle.std.proofs.lemmas.Cmp.{ranked}
use Rattle.std.specs.declared.cmp.Ordering.{Ordering}
use Rattle.std.specs.declared.cmp.Ordering.TheVariants.{Less, Equal, Greater}
use Rattle.std.specs.Ordering.{nat_cmp, ordering_then, is_gt, is_eq}
use Rattle.std.specs.List.{list_any}
use Rattle.std.specs.BTreeMap.{is_at}
use Rattle.std.specs.BTreeSet.{BTreeSet, Updates, contains}
use Rattle.bm_base.specs.declared.zone.Zone.{Zone}
use Rattle.bm_base.specs.declared.zone.Zone.TheVariants as zone
use Rattle.bm_base.specs.contracts.zone.ZoneOrd.TheImpl as zone_ord
use Rattle.buddy_blocks.specs.declared.block.Block.{Block}
use Rattle.buddy_blocks.specs.contracts.block.BlockOrd.TheImpl as block_ord
use Rattle.buddy_blocks.specs.BlockList.{ListsBlock}

abbrev pub zone_cmp : Zone → Zone → Ordering
zone_cmp = (zone_ord.ghosts).cmp

abbrev pub block_cmp : Block → Block → Ordering
block_cmp = (block_ord.ghosts).cmp

pub cmp_is : (b c : Block) → block_cmp b c ≡ ordering_then (nat_cmp b.node c.node)
    (ordering_then (zone_cmp b.zone c.zone) (ordering_then (nat_cmp b.order c.order) (nat_cmp b.first c.first)))
cmp_is b c = refl

number_self : (n : ℕ) → nat_cmp n n ≡ Equal
number_self n = grind (arith, nat_tests)

pub number_equal : (m n : ℕ) → nat_cmp m n ≡ Equal → m ≡ n
number_equal m n h = ranked m n Equal (sym h)

number_less : (m n : ℕ) → nat_cmp m n ≡ Less → m < n
number_less m n h = ranked m n Less (sym h)

less_number : (m n : ℕ) → m < n → nat_cmp m n ≡ Less
less_number m n lt = grind (arith, nat_tests)

zone_self : (a : Zone) → zone_cmp a a ≡ Equal
zone_self zone.Dma = refl
zone_self zone.Dma32 = refl
zone_self zone.Normal = refl

zone_equal : (a b : Zone) → zone_cmp a b ≡ Equal → a ≡ b
zone_equal zone.Dma zone.Dma h = refl
zone_equal zone.Dma32 zone.Dma32 h = refl
zone_equal zone.Normal zone.Normal h = refl
zone_equal a b h = cc

-- two zones can't each come before the other
zone_apart : (a b : Zone) → zone_cmp a b ≡ Less → zone_cmp b a ≡ Less → ⊥
zone_apart zone.Dma zone.Dma h g = cc
zone_apart zone.Dma32 zone.Dma32 h g = cc
zone_apart zone.Normal zone.Normal h g = cc
zone_apart a b h g = cc

then_equal : (a b : Ordering) → ordering_then a b ≡ Equal → (a ≡ Equal) × (b ≡ Equal)
then_equal Less b h = cc
then_equal Equal b h = (refl, h)
then_equal Greater b h = cc

then_less : (a b : Ordering) → ordering_then a b ≡ Less → (a ≡ Less) ⊎ ((a ≡ Equal) × (b ≡ Less))
then_less Less b h = inl refl
then_less Equal b h = inr (refl, h)
then_less Greater b h = cc

then_up_to : (a b : Ordering) → is_gt (ordering_then a b) ≡ false → (a ≡ Less) ⊎ ((a ≡ Equal) × (is_gt b ≡ false))
then_up_to Less b h = inl refl
then_up_to Equal b h = inr (refl, h)
then_up_to Greater b h = cc

up_to_number : (m n : ℕ) → is_gt (nat_cmp m n) ≡ false → m ≤ n
up_to_number m n h = elim (cases_lt n m) as (λ _. m ≤ n) [
  | inl gt ↦ let more : nat_cmp m n ≡ Greater = grind (arith, nat_tests) in let tell : true ≡ false = sym (ap is_gt more) ∙ h in cc
  | inr le ↦ le
]

number_up_to : (m n : ℕ) → m ≤ n → is_gt (nat_cmp m n) ≡ false
number_up_to m n le = elim (cases_lt m n) as (λ _. is_gt (nat_cmp m n) ≡ false) [
  | inl lt ↦ ap is_gt (less_number m n lt)
  | inr ge ↦ let same : m ≡ n = omega arith in ap (λ k. is_gt (nat_cmp k n)) same ∙ ap is_gt (number_self n)
]

pub cmp_self : (b : Block) → block_cmp b b ≡ Equal
cmp_self b = cmp_is b b ∙ rw (number_self b.node, zone_self b.zone, number_self b.order, number_self b.first) refl

pub cmp_equal : (b c : Block) → block_cmp b c ≡ Equal → b ≡ c
cmp_equal b c h =
    let one = then_equal (nat_cmp b.node c.node) _ (sym (cmp_is b c) ∙ h) in
    let two = then_equal (zone_cmp b.zone c.zone) _ one.1 in
    let three = then_equal (nat_cmp b.order c.order) _ two.1 in
    let node_is = number_equal b.node c.node one.0 in
    let zone_is = zone_equal b.zone c.zone two.0 in
    let order_is = number_equal b.order c.order three.0 in
    let first_is = number_equal b.first c.first three.1 in
    ap (λ n. let d : Block = record b { node = n } in d) node_is
    ∙ ap (λ z. let d : Block = record { node = c.node; zone = z; order = b.order; first = b.first } in d) zone_is
    ∙ ap (λ o. let d : Block = record { node = c.node; zone = c.zone; order = o; first = b.first } in d) order_is
    ∙ ap (λ x. let d : Block = record { node = c.node; zone = c.zone; order = c.order; first = x } in d) first_is

-- within one node and zone, the order and the first frame decide
pub cmp_area : (b c : Block) → b.node ≡ c.node → b.zone ≡ c.zone
    → block_cmp b c ≡ ordering_then (nat_cmp b.order c.order) (nat_cmp b.first c.first)
cmp_area b c node_is zone_is =
    let one : nat_cmp b.node c.node ≡ Equal = ap (λ n. nat_cmp n c.node) node_is ∙ number_self c.node in
    let two : zone_cmp b.zone c.zone ≡ Equal = ap (λ z. zone_cmp z c.zone) zone_is ∙ zone_self c.zone in
    cmp_is b c ∙ rw (one, two) refl

-- a look-up in an ordered set finds a block exactly if the block is in the list of keys
equal_told : (o : Ordering) → is_eq o ≡ true → o ≡ Equal
equal_told Less h = cc
equal_told Equal h = refl
equal_told Greater h = cc

at_self : (b : Block) → is_at (block_cmp b) b ≡ true
at_self b = ap is_eq (cmp_self b)

at_is : (b c : Block) → is_at (block_cmp b) c ≡ true → b ≡ c
at_is b c h = cmp_equal b c (equal_told (block_cmp b c) h)

in_list : (b : Block) (ks : List Block) → ListsBlock ks b → list_any (is_at (block_cmp b)) ks ≡ true
in_list b [] has = absurd has
in_list b (k ∷ ks) has = elim (cases_Bool (is_at (block_cmp b) k)) as (λ _. list_any (is_at (block_cmp b)) (k ∷ ks) ≡ true) [
  | inl on ↦ rw on refl
  | inr off ↦
      let rest : ListsBlock ks b = ⊎_elim
      (λ (same : k ≡ b). absurd (cc (sym (at_self b) ∙ ap (is_at (block_cmp b)) (sym same) ∙ off)))
      (λ (inner : ListsBlock ks b). inner)
      has in
      rw off (in_list b ks rest)
]

list_in : (b : Block) (ks : List Block) → list_any (is_at (block_cmp b)) ks ≡ true → ListsBlock ks b
list_in b [] is = cc
list_in b (k ∷ ks) is = elim (cases_Bool (is_at (block_cmp b) k)) as (λ _. ListsBlock (k ∷ ks) b) [
  | inl on ↦ inl (sym (at_is b k on))
  | inr off ↦ inr (list_in b ks (rw off at is))
]

pub has_key : (b : Block) (s : BTreeSet Block) → ListsBlock s.keys b → contains block_cmp s b ≡ true
has_key b s has = in_list b s.keys has

pub key_has : (b : Block) (s : BTreeSet Block) → contains block_cmp s b ≡ true → ListsBlock s.keys b
key_has b s is = list_in b s.keys is

-- the members after adding a key, and after removing one
pub inserted : (old new : BTreeSet Block) (k b : Block) → Updates block_cmp old new k true
    → ListsBlock new.keys b ↔ ((b ≡ k) ⊎ ListsBlock old.keys b)
inserted old new k b updates =
    elim (cases_Bool (is_at (block_cmp k) b)) as (λ _. ListsBlock new.keys b ↔ ((b ≡ k) ⊎ ListsBlock old.keys b)) [
      | inl on ↦ (λ has. inl (sym (at_is k b on)), λ either. key_has b new (updates.0 b ∙ rw on refl))
      | inr off ↦
          let same : contains block_cmp new b ≡ contains block_cmp old b = updates.0 b ∙ rw off refl in (
            λ has. inr (key_has b old (sym same ∙ has_key b new has)),
            λ either. ⊎_elim
                (λ (is : b ≡ k). absurd (cc (sym (at_self k) ∙ ap (is_at (block_cmp k)) (sym is) ∙ off)))
                (λ (has : ListsBlock old.keys b). key_has b new (same ∙ has_key b old has))
                either,
          )
    ]

pub removed : (old new : BTreeSet Block) (k b : Block) → Updates block_cmp old new k false
    → ListsBlock new.keys b ↔ ((b ≢ k) × ListsBlock old.keys b)
removed old new k b updates =
    elim (cases_Bool (is_at (block_cmp k) b)) as (λ _. ListsBlock new.keys b ↔ ((b ≢ k) × ListsBlock old.keys b)) [
      | inl on ↦ (
        λ has. let none : contains block_cmp new b ≡ false = updates.0 b ∙ rw on refl in absurd (cc (sym (has_key b new has) ∙ none)),
        λ both. absurd (both.0 (sym (at_is k b on))),
      )
      | inr off ↦
          let same : contains block_cmp new b ≡ contains block_cmp old b = updates.0 b ∙ rw off refl in (
            λ has. (
              λ is. absurd (cc (sym (at_self k) ∙ ap (is_at (block_cmp k)) (sym is) ∙ off)),
              key_has b old (sym same ∙ has_key b new has),
            ),
            λ both. key_has b new (same ∙ has_key b old both.1),
          )
    ]

-- a key between the first of an order and the first after all orders, in one node and zone
pub between : (b lo hi : Block) → lo.node ≡ hi.node → lo.zone ≡ hi.zone → is_gt (block_cmp lo b) ≡ false → block_cmp b hi ≡ Less
    → (b.node ≡ lo.node) × (b.zone ≡ lo.zone) × (lo.order ≤ b.order)
between b lo hi node_is zone_is above below =
    let one = then_up_to (nat_cmp lo.node b.node) _ above in
    let two = then_less (nat_cmp b.node hi.node) _ below in
    let nodes : (nat_cmp lo.node b.node ≡ Equal) × (nat_cmp b.node hi.node ≡ Equal) = ⊎_elim
    (λ (lt : nat_cmp lo.node b.node ≡ Less). let low = number_less lo.node b.node lt in ⊎_elim
    (λ (gt : nat_cmp b.node hi.node ≡ Less). let high = number_less b.node hi.node gt in absurd (omega (arith, low, high, node_is)))
    (λ (eq : (nat_cmp b.node hi.node ≡ Equal)
    × (ordering_then (zone_cmp b.zone hi.zone) (ordering_then (nat_cmp b.order hi.order) (nat_cmp b.first hi.first)) ≡ Less)).
    let same = number_equal b.node hi.node eq.0 in absurd (omega (arith, low, same, node_is)))
    two)
    (λ (eq : (nat_cmp lo.node b.node ≡ Equal)
    × (is_gt (ordering_then (zone_cmp lo.zone b.zone) (ordering_then (nat_cmp lo.order b.order) (nat_cmp lo.first b.first))) ≡ false)).
    let same = number_equal lo.node b.node eq.0 in
    (eq.0, ap (λ m. nat_cmp m hi.node) (sym same ∙ node_is) ∙ number_self hi.node))
    one in
    let in_one : is_gt (ordering_then (zone_cmp lo.zone b.zone) (ordering_then (nat_cmp lo.order b.order) (nat_cmp lo.first b.first)))
    ≡ false = rw nodes.0 at above in
    let in_two : ordering_then (zone_cmp b.zone hi.zone) (ordering_then (nat_cmp b.order hi.order) (nat_cmp b.first hi.first)) ≡ Less =
    rw nodes.1 at below in
    let node_here : b.node ≡ lo.node = sym (number_equal lo.node b.node nodes.0) in
    ⊎_elim
    (λ (lt : zone_cmp lo.zone b.zone ≡ Less).
    let other = ap (λ a. zone_cmp a b.zone) (sym zone_is) ∙ lt in
    ⊎_elim
    (λ (gt : zone_cmp b.zone hi.zone ≡ Less). absurd (zone_apart hi.zone b.zone other gt))
    (λ (eq : (zone_cmp b.zone hi.zone ≡ Equal) × (ordering_then (nat_cmp b.order hi.order) (nat_cmp b.first hi.first) ≡ Less)).
    let same = zone_equal b.zone hi.zone eq.0 in
    let self : zone_cmp hi.zone b.zone ≡ Equal = ap (λ a. zone_cmp hi.zone a) same ∙ zone_self hi.zone in
    absurd (cc (sym self ∙ other)))
    (then_less (zone_cmp b.zone hi.zone) _ in_two))
    (λ (eq : (zone_cmp lo.zone b.zone ≡ Equal) × (is_gt (ordering_then (nat_cmp lo.order b.order) (nat_cmp lo.first b.first)) ≡ false)).
    let zone_here : b.zone ≡ lo.zone = sym (zone_equal lo.zone b.zone eq.0) in
    let order_here : lo.order ≤ b.order = ⊎_elim
    (λ (lt : nat_cmp lo.order b.order ≡ Less). let less = number_less lo.order b.order lt in omega (arith, less))
    (λ (same : (nat_cmp lo.order b.order ≡ Equal) × (is_gt (nat_cmp lo.first b.first) ≡ false)).
    let is = number_equal lo.order b.order same.0 in omega (arith, is))
    (then_up_to (nat_cmp lo.order b.order) _ eq.1) in
    (node_here, zone_here, order_here))
    (then_up_to (zone_cmp lo.zone b.zone) _ in_one)

pub from_first : (b lo : Block) → lo.node ≡ b.node → lo.zone ≡ b.zone → lo.order ≤ b.order → lo.first ≡ 0 → is_gt (block_cmp lo b) ≡ false
from_first b lo node_is zone_is order first =
    ap is_gt (cmp_area lo b node_is zone_is)
    ∙ elim (cases_lt lo.order b.order) as (λ _. is_gt (ordering_then (nat_cmp lo.order b.order) (nat_cmp lo.first b.first)) ≡ false) [
      | inl lt ↦ rw (less_number lo.order b.order lt) refl
      | inr ge ↦
          let same : nat_cmp lo.order b.order ≡ Equal =
          let here : lo.order ≡ b.order = omega (arith, order, ge) in ap (λ o. nat_cmp o b.order) here ∙ number_self b.order in
          rw same (number_up_to lo.first b.first (omega (arith, first)))
    ]

pub before_last : (b hi : Block) → b.node ≡ hi.node → b.zone ≡ hi.zone → b.order < hi.order → block_cmp b hi ≡ Less
before_last b hi node_is zone_is order = cmp_area b hi node_is zone_is ∙ rw (less_number b.order hi.order order) refl

pub least_of : (b c : Block) → b.node ≡ c.node → b.zone ≡ c.zone → is_gt (block_cmp b c) ≡ false
    → (b.order < c.order) ⊎ ((b.order ≡ c.order) × (b.first ≤ c.first))
least_of b c node_is zone_is up_to = ⊎_elim
    (λ (lt : nat_cmp b.order c.order ≡ Less). inl (number_less b.order c.order lt))
    (λ (same : (nat_cmp b.order c.order ≡ Equal) × (is_gt (nat_cmp b.first c.first) ≡ false)).
    inr (number_equal b.order c.order same.0, up_to_number b.first c.first same.1))
    (then_up_to (nat_cmp b.order c.order) (nat_cmp b.first c.first) (sym (ap is_gt (cmp_area b c node_is zone_is)) ∙ up_to))
