-- If blocks of different nodes share no address, the joined runs are the runs of the addresses'
-- nodes.
use Rattle.std.proofs.Common.{◌≡◌, ◌≢◌, ℕ, zero, suc, ◌^◌, ◌<◌, ◌≤◌, ◌==◌, Bool, true, false, ◌&&◌, ◌||◌, not, max, min, Option, Some, None, List, [], ◌∷◌, map, length, get_or, refl, sym, ◌∙◌, ap, subst, inl, inr, arith}
use Rattle.std.proofs.lemmas.Bool.{cases_lt, cases_Bool, and_parts, and_from, eqb-true, eq-eqb, not-true, false_from_ne_true, true≢false}
use Rattle.std.proofs.lemmas.Bool.Decides.{nat_tests}
use Rattle.std.proofs.lemmas.List.{map-id}
use Rattle.std.proofs.lemmas.Option.{none-some, same_Some}
use Rattle.std.specs.Option.{option_or}
use Rattle.std.specs.Prelude.{find}
use Rattle.address_runs.specs.Overlay.{overlay_runs, HaveAddresses}
use Rattle.address_runs.specs.Runs.{run_end, lies_in, value_at, IsRunsOf}
use Rattle.address_runs.proofs.RunsLaws.{inside}
use Rattle.srat_nodes.specs.declared.kept.KeptBlock.{KeptBlock}
use Rattle.srat_nodes.specs.NodeAt.{NumaBlock, block_meets, lies_between_blocks, meets_no_other_node, is_in_block_of_node, is_in_gap_of_node, belongs_to_node, first_node_among, node_at}
use Rattle.srat_nodes.specs.Kept.{numa_blocks_of, nodes_overlap, first_overlap}
use Rattle.srat_nodes.specs.Steps.{fill_gaps, EndInSpace}
use Rattle.srat_nodes.proofs.FilledLaws.{IsAround, IsFilled, IsFilledBy, filled_by}
use Rattle.srat_nodes.proofs.InListLaws.{IsIn, any_member, member_any, all_member, member_all}

-- two blocks that share an address have the same node
abbrev pub HaveOneNodePerAddress : List NumaBlock → Type 0
HaveOneNodePerAddress blocks =
    (a b : NumaBlock) (x : ℕ) → IsIn a blocks → IsIn b blocks → lies_in a x ≡ true → lies_in b x ≡ true → a.value ≡ b.value

-- a member of a list without empty blocks isn't empty
some_address : (blocks : List NumaBlock) (b : NumaBlock) → HaveAddresses blocks → IsIn b blocks → 0 < b.size
some_address [] b some member = absurd member
some_address (c ∷ cs) b some (inl here) = subst (λ (d : NumaBlock). 0 < d.size) (sym here) some.0
some_address (c ∷ cs) b some (inr later) = some_address cs b some.1 later

-- overlaying the blocks gives an address the node of the first block that contains it
pub first_given : (blocks : List NumaBlock) (x : ℕ) → overlay_runs option_or blocks x ≡ value_at blocks x
first_given [] x = refl
first_given (b ∷ bs) x = elim (cases_Bool (lies_in b x)) as (λ _. overlay_runs option_or (b ∷ bs) x ≡ value_at (b ∷ bs) x) [
  | inl lies ↦ rw lies refl
  | inr outside ↦ rw outside (first_given bs x)
]

pub laid_given : (blocks rs : List NumaBlock) → IsRunsOf (overlay_runs option_or blocks) rs → IsRunsOf (value_at blocks) rs
laid_given blocks rs known = record { runs = known.runs; each = λ x. known.each x ∙ first_given blocks x }

-- if no two blocks of different nodes share an address, overlaying them gives an address the node
-- of each block that contains it
pub given : (blocks : List NumaBlock) (b : NumaBlock) (x : ℕ) → HaveOneNodePerAddress blocks → IsIn b blocks → lies_in b x ≡ true
    → value_at blocks x ≡ Some b.value
given [] b x apart member lies = absurd member
given (c ∷ cs) b x apart member lies = elim (cases_Bool (lies_in c x)) as (λ _. value_at (c ∷ cs) x ≡ Some b.value) [
  | inl first ↦ rw first (ap (λ n. Some n) (apart c b x (inl refl) member first lies))
  | inr outside ↦ elim member as (λ _. value_at (c ∷ cs) x ≡ Some b.value) [
    | inl here ↦ absurd (true≢false (sym lies ∙ ap (λ (d : NumaBlock). lies_in d x) here ∙ outside))
    | inr later ↦ rw outside (given cs b x (λ d e y one two. apart d e y (inr one) (inr two)) later lies)
  ]
]

-- a block of node n that contains the address
pub record Covers (blocks : List NumaBlock) (x n : ℕ) : Type 0 where
  pub block : NumaBlock
  pub member : IsIn block blocks
  pub lies : lies_in block x ≡ true
  pub node : block.value ≡ n

given_by_block : (blocks : List NumaBlock) (x n : ℕ) → value_at blocks x ≡ Some n → Covers blocks x n
given_by_block [] x n some = absurd (none-some n some)
given_by_block (c ∷ cs) x n some = elim (cases_Bool (lies_in c x)) as (λ _. Covers (c ∷ cs) x n) [
  | inl lies ↦ record { block = c; member = inl refl; lies = lies; node = same_Some c.value n (rw lies at some) }
  | inr outside ↦
      let found : Covers cs x n = given_by_block cs x n (rw outside at some) in
      record { block = found.block; member = inr found.member; lies = found.lies; node = found.node }
]

-- an address in a block is at or above its base and below its end
bounds : (b : NumaBlock) (x : ℕ) → lies_in b x ≡ true → (b.base ≤ x) × (x < run_end b)
bounds b x lies = (grind (arith, nat_tests), grind (arith, nat_tests))

-- a range meets a block if it has an address of the block
met_at : (from until : ℕ) (c : NumaBlock) (x : ℕ) → lies_in c x ≡ true → from ≤ x → x < until → block_meets from until c ≡ true
met_at from until c x lies above under = grind (arith, nat_tests, (bounds c x lies).0, (bounds c x lies).1)

meeting_place : (from until : ℕ) (c : NumaBlock) → block_meets from until c ≡ true
    → (from ≤ max from c.base) × (max from c.base < until) × (lies_in c (max from c.base) ≡ true)
meeting_place from until c meeting =
    let before : max from c.base < min until (run_end c) = grind (arith, nat_tests) in
    (omega arith, omega arith, inside c (max from c.base) (omega arith) (omega arith))

-- if the range between two blocks meets no block of another node, each block that it meets has
-- their node
own_node : (blocks : List NumaBlock) (n : ℕ) (a b c : NumaBlock) → meets_no_other_node blocks n a b ≡ true → IsIn c blocks
    → block_meets a.base (run_end b) c ≡ true
    → c.value ≡ n
own_node blocks n a b c own member meeting =
    let passes : ((c.value == n) || not (block_meets a.base (run_end b) c)) ≡ true = all_member _ blocks c own member in
    grind (arith, nat_tests, rw meeting at passes)

-- a node that an address belongs to is that of a block there, or of a gap around it
joined_around : (blocks : List NumaBlock) (n x : ℕ) → HaveOneNodePerAddress blocks → HaveAddresses blocks
    → is_in_gap_of_node blocks n x ≡ true
    → IsAround (value_at blocks) x n
joined_around blocks n x apart some joined =
    let outer = any_member _ blocks joined in
    let a = outer.one in
    let of_a = and_parts (a.value == n) _ outer.passes in
    let inner = any_member _ blocks of_a.1 in
    let b = inner.one in
    let of_b = and_parts (b.value == n) _ inner.passes in
    let between_own = and_parts (lies_between_blocks a b x) (meets_no_other_node blocks n a b) of_b.1 in
    let a_after : run_end a ≤ x = grind (arith, nat_tests, between_own.0) in
    let b_before : x < b.base = grind (arith, nat_tests, between_own.0) in
    let a_some : 0 < a.size = some_address blocks a some outer.member in
    let b_some : 0 < b.size = some_address blocks b some inner.member in
    let a_node : a.value ≡ n = eqb-true a.value n of_a.0 in
    let b_node : b.value ≡ n = eqb-true b.value n of_b.0 in
    record {
      low = a.base;
      high = b.base;
      under = omega arith;
      over = b_before;
      at_low = given blocks a a.base apart outer.member (inside a a.base (omega arith) (omega arith)) ∙ ap (λ m. Some m) a_node;
      at_high = given blocks b b.base apart inner.member (inside b b.base (omega arith) (omega arith)) ∙ ap (λ m. Some m) b_node;
      only = λ y m above below_high at.
          let found = given_by_block blocks y m at in
          sym found.node ∙ own_node blocks n a b found.block between_own.1 found.member
          (met_at a.base (run_end b) found.block y found.lies above (omega arith));
    }

pub has_filled : (blocks : List NumaBlock) (n x : ℕ) → HaveOneNodePerAddress blocks → HaveAddresses blocks
    → belongs_to_node blocks n x ≡ true
    → IsFilled (value_at blocks) x n
has_filled blocks n x apart some had = elim (cases_Bool (is_in_block_of_node blocks n x)) as (λ _. IsFilled (value_at blocks) x n) [
  | inl held ↦
      let found = any_member _ blocks held in
      let parts = and_parts (found.one.value == n) (lies_in found.one x) found.passes in
      inl (given blocks found.one x apart found.member parts.1 ∙ ap (λ m. Some m) (eqb-true found.one.value n parts.0))
  | inr not_held ↦ inr (joined_around blocks n x apart some (rw not_held at had))
]

-- an address in a block belongs to the block's node
pub held_by : (blocks : List NumaBlock) (b : NumaBlock) (n x : ℕ) → IsIn b blocks → b.value ≡ n → lies_in b x ≡ true
    → is_in_block_of_node blocks n x ≡ true
held_by blocks b n x member node lies = member_any _ blocks b member (and_from (b.value == n) (lies_in b x) (grind (arith, nat_tests)) lies)

-- a block that meets the range between two addresses of a gap has the gap's node
gap_meets_own_blocks : (blocks : List NumaBlock) (n x : ℕ) → HaveOneNodePerAddress blocks → (around : IsAround (value_at blocks) x n)
    → (a : Covers blocks around.low n) (b : Covers blocks around.high n) (c : NumaBlock) → IsIn c blocks
    → block_meets a.block.base (run_end b.block) c ≡ true → c.value ≡ n
gap_meets_own_blocks blocks n x apart around a b c in_c meeting =
    let y : ℕ = max a.block.base c.base in
    let met = meeting_place a.block.base (run_end b.block) c meeting in
    let low = bounds a.block around.low a.lies in
    let high = bounds b.block around.high b.lies in
    elim (cases_lt y around.low) as (λ _. c.value ≡ n) [
      | inl lower ↦ sym (apart a.block c y a.member in_c (inside a.block y met.0 (omega arith)) met.2) ∙ a.node
      | inr not_lower ↦ elim (cases_lt around.high y) as (λ _. c.value ≡ n) [
        | inl higher ↦ sym (apart b.block c y b.member in_c (inside b.block y (omega arith) met.1) met.2) ∙ b.node
        | inr between ↦ around.only y c.value not_lower between (given blocks c y apart in_c met.2)
      ]
    ]

own_passes : (v n : ℕ) (meeting : Bool) → (meeting ≡ true → v ≡ n) → ((v == n) || not meeting) ≡ true
own_passes v n true same = let is : v ≡ n = same refl in grind (arith, nat_tests)
own_passes v n false same = grind arith

lies_outside : (blocks : List NumaBlock) (n x at : ℕ) (b : Covers blocks at n) → is_in_block_of_node blocks n x ≡ false
    → lies_in b.block x ≡ false
lies_outside blocks n x at b not_held = false_from_ne_true (lies_in b.block x) (λ lies.
    true≢false (sym (held_by blocks b.block n x b.member b.node lies) ∙ not_held))

around_joins : (blocks : List NumaBlock) (n x : ℕ) → HaveOneNodePerAddress blocks → IsAround (value_at blocks) x n
    → is_in_block_of_node blocks n x ≡ false
    → is_in_gap_of_node blocks n x ≡ true
around_joins blocks n x apart around not_held =
    let a = given_by_block blocks around.low n around.at_low in
    let b = given_by_block blocks around.high n around.at_high in
    let low = bounds a.block around.low a.lies in
    let high = bounds b.block around.high b.lies in
    let a_outside = lies_outside blocks n x around.low a not_held in
    let b_outside = lies_outside blocks n x around.high b not_held in
    let between : lies_between_blocks a.block b.block x ≡ true =
    grind (arith, nat_tests, low.0, around.under, a_outside, high.1, around.over, b_outside) in
    let own : meets_no_other_node blocks n a.block b.block ≡ true = member_all _ blocks (λ c in_c.
    own_passes c.value n (block_meets a.block.base (run_end b.block) c) (gap_meets_own_blocks blocks n x apart around a b c in_c)) in
    let inner = member_any (λ (d : NumaBlock). (d.value == n)
    && (lies_between_blocks a.block d x && meets_no_other_node blocks n a.block d)) blocks b.block
    b.member (rw (eq-eqb b.block.value n b.node, between, own) refl) in
    member_any _ blocks a.block a.member (rw (eq-eqb a.block.value n a.node, inner) refl)

filled_has : (blocks : List NumaBlock) (n x : ℕ) → HaveOneNodePerAddress blocks → IsFilled (value_at blocks) x n
    → belongs_to_node blocks n x ≡ true
filled_has blocks n x apart (inl here) =
    let found = given_by_block blocks x n here in
    rw (held_by blocks found.block n x found.member found.node found.lies) refl
filled_has blocks n x apart (inr around) = elim (cases_Bool (is_in_block_of_node blocks n x)) as (λ _. belongs_to_node blocks n x ≡ true) [
  | inl held ↦ rw held refl
  | inr not_held ↦ rw not_held (around_joins blocks n x apart around not_held)
]

-- `first_node_among` returns a node that the address belongs to; an address that belongs to the
-- node of a block has a node
pub first_has : (blocks : List NumaBlock) (x m : ℕ) (bs : List NumaBlock) → first_node_among blocks x bs ≡ Some m
    → belongs_to_node blocks m x ≡ true
first_has blocks x m [] some = absurd (none-some m some)
first_has blocks x m (b ∷ bs) some = elim (cases_Bool (belongs_to_node blocks b.value x)) as (λ _. belongs_to_node blocks m x ≡ true) [
  | inl had ↦ subst (λ (k : ℕ). belongs_to_node blocks k x ≡ true) (same_Some b.value m (rw had at some)) had
  | inr not_had ↦ first_has blocks x m bs (rw not_had at some)
]

pub first_some : (blocks : List NumaBlock) (x : ℕ) (bs : List NumaBlock) (b : NumaBlock) → IsIn b bs
    → belongs_to_node blocks b.value x ≡ true
    → first_node_among blocks x bs ≢ None
first_some blocks x [] b member had none = member
first_some blocks x (c ∷ cs) b member had none = elim (cases_Bool (belongs_to_node blocks c.value x)) as (λ _. ⊥) [
  | inl first ↦ none-some c.value (sym none ∙ rw first refl)
  | inr not_first ↦ elim member as (λ _. ⊥) [
    | inl here ↦ true≢false (sym had ∙ ap (λ (d : NumaBlock). belongs_to_node blocks d.value x) here ∙ not_first)
    | inr later ↦ first_some blocks x cs b later had (rw not_first at none)
  ]
]

-- if an address belongs to a node, some block of that node ends above the address
pub node_block : (blocks : List NumaBlock) (n x : ℕ) → belongs_to_node blocks n x ≡ true
    → (b : NumaBlock) × IsIn b blocks × (b.value ≡ n) × (x < run_end b)
node_block blocks n x had =
    elim (cases_Bool (is_in_block_of_node blocks n x)) as (λ _. (b : NumaBlock) × IsIn b blocks × (b.value ≡ n) × (x < run_end b)) [
      | inl held ↦
          let found = any_member _ blocks held in
          let parts = and_parts (found.one.value == n) (lies_in found.one x) found.passes in
          (found.one, found.member, grind (arith, nat_tests, parts.0), (bounds found.one x parts.1).1)
      | inr not_held ↦
          let joined : is_in_gap_of_node blocks n x ≡ true = rw not_held at had in
          let a = any_member _ blocks joined in
          let b = any_member _ blocks (and_parts (a.one.value == n) _ a.passes).1 in
          let parts = and_parts (b.one.value == n) _ b.passes in
          let between = (and_parts (lies_between_blocks a.one b.one x) (meets_no_other_node blocks n a.one b.one) parts.1).0 in
          (b.one, b.member, grind (arith, nat_tests, parts.0), grind (arith, nat_tests, between))
    ]

-- the joined runs give each address its node
node_given : (blocks rs ts : List NumaBlock) (x : ℕ) → HaveOneNodePerAddress blocks → HaveAddresses blocks → IsRunsOf (value_at blocks) rs
    → IsFilledBy rs ts
    → value_at ts x ≡ node_at blocks x
unfolding node_at
node_given blocks rs ts x apart some known joined = by (value_at ts x) (first_node_among blocks x blocks) refl refl where
  same : value_at rs ≡ value_at blocks
  same = λ i y. known.each y i

  by : (g h : Option ℕ) → value_at ts x ≡ g → first_node_among blocks x blocks ≡ h → value_at ts x ≡ first_node_among blocks x blocks
  by g (Some m) at had = joined.complete x m (rw same (has_filled blocks m x apart some (first_has blocks x m blocks had))) ∙ sym had
  by None None at had = at ∙ sym had
  by (Some n) None at had =
      let has_it : belongs_to_node blocks n x ≡ true = filled_has blocks n x apart (rw same at joined.sound x n at) in
      let block = node_block blocks n x has_it in
      absurd (first_some blocks x blocks block.0 block.1 (rw block.2 has_it) had)

pub joined_blocks : (blocks rs : List NumaBlock) → HaveOneNodePerAddress blocks → HaveAddresses blocks → IsRunsOf (value_at blocks) rs
    → IsRunsOf (node_at blocks) (fill_gaps rs)
joined_blocks blocks rs apart some known =
    let joined : IsFilledBy rs (fill_gaps rs) = filled_by rs known.runs in
    record { runs = joined.runs; each = λ x. node_given blocks rs (fill_gaps rs) x apart some known joined }

-- if no two kept blocks clash, blocks of different nodes share no address
no_clash : (a b : KeptBlock) (x : ℕ) → nodes_overlap a b ≡ false → lies_in a.block x ≡ true → lies_in b.block x ≡ true → a.block.value
    ≡ b.block.value
no_clash a b x none lies_a lies_b =
    let in_a = bounds a.block x lies_a in
    let meeting = met_at a.block.base (run_end a.block) b.block x lies_b in_a.0 in_a.1 in
    grind (arith, nat_tests, none, meeting)

pub find_none : {X : Type 0} (p : X → Bool) (xs : List X) (x : X) → find p xs ≡ None → IsIn x xs → p x ≡ false
find_none p [] x none member = absurd member
find_none p (y ∷ ys) x none member = elim (cases_Bool (p y)) as (λ _. p x ≡ false) [
  | inl here ↦ absurd (none-some y (sym none ∙ rw here refl))
  | inr not_here ↦ elim member as (λ _. p x ≡ false) [
    | inl same ↦ ap p same ∙ not_here
    | inr later ↦ find_none p ys x (rw not_here at none) later
  ]
]

-- each block without its number comes from a kept block
pub kept_member : (ks : List KeptBlock) (b : NumaBlock) → IsIn b (numa_blocks_of ks) → (k : KeptBlock) × IsIn k ks × (b ≡ k.block)
kept_member [] b member = absurd member
kept_member (k ∷ ks) b (inl here) = (k, inl refl, here)
kept_member (k ∷ ks) b (inr later) = let found = kept_member ks b later in (found.0, inr found.1, found.2)

pub first_none_parts : (a : KeptBlock) (rest : List KeptBlock) → first_overlap (a ∷ rest) ≡ None → (find (nodes_overlap a) rest ≡ None)
    × (first_overlap rest ≡ None)
first_none_parts a rest none = by (find (nodes_overlap a) rest) refl where
  by : (o : Option KeptBlock) → find (nodes_overlap a) rest ≡ o → (find (nodes_overlap a) rest ≡ None) × (first_overlap rest ≡ None)
  by None at = (at, rw at at none)
  by (Some b) at = absurd (none-some (a.number, b.number) (sym (rw at at none)))

kept_apart : (ks : List KeptBlock) → first_overlap ks ≡ None → (a b : KeptBlock) (x : ℕ) → IsIn a ks → IsIn b ks
    → lies_in a.block x ≡ true → lies_in b.block x ≡ true → a.block.value ≡ b.block.value
kept_apart [] none a b x in_a in_b lies_a lies_b = absurd in_a
kept_apart (k ∷ ks) none a b x (inl first) (inl second) lies_a lies_b = ap (λ (c : KeptBlock). c.block.value) (first ∙ sym second)
kept_apart (k ∷ ks) none a b x (inl first) (inr later) lies_a lies_b =
    rw first (no_clash k b x (find_none (nodes_overlap k) ks b (first_none_parts k ks none).0 later) (rw first at lies_a) lies_b)
kept_apart (k ∷ ks) none a b x (inr later) (inl second) lies_a lies_b =
    rw second (sym (no_clash k a x (find_none (nodes_overlap k) ks a (first_none_parts k ks none).0 later) (rw second at lies_b) lies_a))
kept_apart (k ∷ ks) none a b x (inr in_a) (inr in_b) lies_a lies_b =
    kept_apart ks (first_none_parts k ks none).1 a b x in_a in_b lies_a lies_b

pub apart_blocks : (ks : List KeptBlock) → first_overlap ks ≡ None → HaveOneNodePerAddress (numa_blocks_of ks)
apart_blocks ks none a b x in_a in_b lies_a lies_b =
    let one = kept_member ks a in_a in
    let two = kept_member ks b in_b in
    rw (one.2, two.2) (kept_apart ks none one.0 two.0 x one.1 two.1 (rw one.2 at lies_a) (rw two.2 at lies_b))

-- if no two kept blocks clash, the joined runs are the runs of the addresses' nodes
pub joined_kept : (ks : List KeptBlock) (laid rs joined : List NumaBlock) → first_overlap ks ≡ None → HaveAddresses (numa_blocks_of ks)
    → IsRunsOf (value_at (numa_blocks_of ks)) laid → rs ≡ laid → joined ≡ fill_gaps rs → IsRunsOf (node_at (numa_blocks_of ks)) joined
joined_kept ks laid rs joined none some known same is =
    rw (is, same) (joined_blocks (numa_blocks_of ks) laid (apart_blocks ks none) some known)

-- no two kept blocks clash exactly if each address of each block has the block's own node in the
-- overlaid blocks
abbrev pub HasOwn : (ℕ → Option ℕ) → NumaBlock → Type 0
HasOwn f b = (x : ℕ) → b.base ≤ x → x < run_end b → f x ≡ Some b.value

own_none : (f : ℕ → Option ℕ) (a b : KeptBlock) → HasOwn f a.block → HasOwn f b.block → nodes_overlap a b ≡ false
own_none f a b own_a own_b = false_from_ne_true (nodes_overlap a b) (λ clashing.
    let parts = and_parts (not (a.block.value == b.block.value)) (block_meets a.block.base (run_end a.block) b.block) clashing in
    let place = meeting_place a.block.base (run_end a.block) b.block parts.1 in
    let x : ℕ = max a.block.base b.block.base in
    let in_b = bounds b.block x place.2 in
    let same = same_Some a.block.value b.block.value (sym (own_a x place.0 place.1) ∙ own_b x in_b.0 in_b.1) in
    true≢false (sym (eq-eqb _ _ same) ∙ not-true _ parts.0))

none_found : {X : Type 0} (p : X → Bool) (xs : List X) → ((i : ℕ) (d : X) → i < length xs → p (get_or xs i d) ≡ false) → find p xs ≡ None
none_found p [] none = refl
none_found p (y ∷ ys) none = rw (none zero y (omega arith)) (none_found p ys (λ i d lt. none (suc i) d (omega arith)))

pub own_apart : (f : ℕ → Option ℕ) (ks : List KeptBlock)
    → ((i : ℕ) (d : KeptBlock) → i < length ks → HasOwn f (get_or ks i d).block) → first_overlap ks ≡ None
own_apart f [] own = refl
own_apart f (k ∷ ks) own =
    let none : find (nodes_overlap k) ks ≡ None =
    none_found (nodes_overlap k) ks (λ i d lt. own_none f k (get_or ks i d) (own zero k (omega arith)) (own (suc i) d (omega arith))) in
    rw none (own_apart f ks (λ i d lt. own (suc i) d (omega arith)))

block_in : (ks : List KeptBlock) (i : ℕ) (k : KeptBlock) → i < length ks → k ≡ get_or ks i k → IsIn k.block (numa_blocks_of ks)
block_in [] i k lt is = absurd (omega arith)
block_in (c ∷ cs) zero k lt is = inl (ap (λ (d : KeptBlock). d.block) is)
block_in (c ∷ cs) (suc i) k lt is = inr (block_in cs i k (omega arith) is)

apart_own : (ks : List KeptBlock) (i : ℕ) (k : KeptBlock) → first_overlap ks ≡ None → i < length ks → k ≡ get_or ks i k
    → HasOwn (value_at (numa_blocks_of ks)) k.block
apart_own ks i k none lt is x above under =
    given (numa_blocks_of ks) k.block x (apart_blocks ks none) (block_in ks i k lt is) (inside k.block x above under)

-- the overlaid blocks, as contracts over any type of record see them
pub laid_own : (ks : List KeptBlock) (laid : List NumaBlock) (i : ℕ) (k : KeptBlock) → IsRunsOf (value_at (numa_blocks_of ks)) laid
    → first_overlap ks ≡ None → i < length ks → k ≡ get_or ks i k → HasOwn (value_at (map (λ (r : NumaBlock). r) laid)) k.block
laid_own ks laid i k known none lt is x above under =
    rw (map-id laid) (known.each x ∙ apart_own ks i k none lt is x above under)

space_of : (blocks : List NumaBlock) (b : NumaBlock) → EndInSpace blocks → IsIn b blocks → run_end b < 2 ^ 64
space_of [] b space member = absurd member
space_of (c ∷ cs) b space (inl here) = subst (λ (d : NumaBlock). run_end d < 2 ^ 64) (sym here) space.0
space_of (c ∷ cs) b space (inr later) = space_of cs b space.1 later

-- no address at or above 2^64 has a node
pub node_none : (blocks : List NumaBlock) (x : ℕ) → EndInSpace blocks → 2 ^ 64 ≤ x → node_at blocks x ≡ None
unfolding node_at
node_none blocks x space far = by (first_node_among blocks x blocks) refl where
  by : (o : Option ℕ) → first_node_among blocks x blocks ≡ o → first_node_among blocks x blocks ≡ None
  by None at = at
  by (Some m) at =
      let block = node_block blocks m x (first_has blocks x m blocks at) in
      absurd (omega (arith, block.3, space_of blocks block.0 space block.1))
