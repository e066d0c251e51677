-- The lemmas of the crate's laws: one node for an address, for a domain and for a frame, and
-- memory for each node.
use Rattle.std.proofs.Common.{◌≡◌, ◌≢◌, ◌↔◌, ℕ, zero, suc, ◌+◌, ◌%◌, ◌<◌, ◌≤◌, ◌==◌, ◌⊎◌, Bool, true, false, ◌&&◌, not, Option, Some, None, List, [], ◌∷◌, fold, length, get_or, refl, sym, ◌∙◌, ap, subst, inl, inr, arith}
use Rattle.std.proofs.lemmas.Bool.{cases_lt, cases_Bool, eqb-true, eq-eqb, lt-ltb, not-true, true≢false}
use Rattle.std.proofs.lemmas.Bool.Decides.{nat_tests}
use Rattle.std.proofs.lemmas.List.Folds.{list_any_none}
use Rattle.std.proofs.lemmas.List.Sums.{fails_before_first, passes_at_first}
use Rattle.std.proofs.lemmas.Option.{cond_some, same_Some}
use Rattle.std.specs.List.{list_any, position_or_len}
use Rattle.std.specs.Prelude.{is_none}
use Rattle.address_runs.specs.Overlay.{HaveAddresses}
use Rattle.address_runs.specs.Runs.{run_end, lies_in, value_at, range_of_run}
use Rattle.address_runs.proofs.RunsLaws.{inside}
use Rattle.bm_base.specs.Each.{each_from, each_in}
use Rattle.srat_reader.specs.declared.table.SratBlock.{SratBlock}
use Rattle.srat_nodes.specs.declared.kept.KeptBlock.{KeptBlock}
use Rattle.srat_nodes.specs.Domains.{is_named_domain, node_of_domain}
use Rattle.srat_nodes.specs.NodeAt.{NumaBlock, lies_between_blocks, is_in_block_of_node, is_in_gap_of_node, belongs_to_node, first_node_among, node_at}
use Rattle.srat_nodes.specs.SratNodesView.{lower_node, lowest_node, nodes_by_blocks, fallback_node}
use Rattle.srat_nodes.specs.Kept.{numa_blocks_of, first_overlap, frame_base, meets_memory, is_node_of, block_in_frames, keep_blocks_from, keep_blocks}
use Rattle.srat_nodes.proofs.FilledLaws.{IsAround, IsFilled}
use Rattle.srat_nodes.proofs.InListLaws.{IsIn, any_member, member_any}
use Rattle.srat_nodes.proofs.KeptLaws.{addresses_kept}
use Rattle.srat_nodes.proofs.NodesLaws.{HaveOneNodePerAddress, apart_blocks, has_filled, first_has, first_some, node_block, held_by, kept_member}

-- no address is in gaps of two different nodes
one_around : (f : ℕ → Option ℕ) (x m n : ℕ) → IsAround f x m → IsAround f x n → m ≡ n
one_around f x m n first second = elim (cases_lt first.low second.low) as (λ _. m ≡ n) [
  | inl lower_first ↦ sym (first.only second.low n (omega arith) (omega (arith, second.under, first.over)) second.at_low)
  | inr lower_second ↦ second.only first.low m lower_second (omega (arith, first.under, second.over)) first.at_low
]

one_filled : (f : ℕ → Option ℕ) (x m n : ℕ) → IsFilled f x m → IsFilled f x n → m ≡ n
one_filled f x m n (inl first) (inl second) = same_Some m n (sym first ∙ second)
one_filled f x m n (inl first) (inr around) = around.only x m (omega (arith, around.under)) (omega (arith, around.over)) first
one_filled f x m n (inr around) (inl second) = sym (around.only x n (omega (arith, around.under)) (omega (arith, around.over)) second)
one_filled f x m n (inr first) (inr second) = one_around f x m n first second

-- the node of an address is the one that it belongs to
node_at-belongs : (blocks : List NumaBlock) (x n : ℕ) → HaveOneNodePerAddress blocks → HaveAddresses blocks
    → belongs_to_node blocks n x ≡ true
    → node_at blocks x ≡ Some n
unfolding node_at
node_at-belongs blocks x n apart some had = by (first_node_among blocks x blocks) refl where
  by : (o : Option ℕ) → first_node_among blocks x blocks ≡ o → first_node_among blocks x blocks ≡ Some n
  by (Some m) at =
      let other : belongs_to_node blocks m x ≡ true = first_has blocks x m blocks at in
      at ∙ ap (λ k. Some k)
      (one_filled (value_at blocks) x m n (has_filled blocks m x apart some other) (has_filled blocks n x apart some had))
  by None at =
      let block = node_block blocks n x had in
      absurd (first_some blocks x blocks block.0 block.1 (rw block.2 had) at)

node_has : (blocks : List NumaBlock) (x n : ℕ) → node_at blocks x ≡ Some n → belongs_to_node blocks n x ≡ true
unfolding node_at
node_has blocks x n at = first_has blocks x n blocks at

pub one_node : (kept : List KeptBlock) → first_overlap kept ≡ None → HaveAddresses (numa_blocks_of kept)
    → (x n : ℕ) → (belongs_to_node (numa_blocks_of kept) n x ≡ true) ↔ (nodes_by_blocks kept x ≡ Some n)
one_node kept apart some x n =
    ((λ had. node_at-belongs (numa_blocks_of kept) x n (apart_blocks kept apart) some had), (λ at. node_has (numa_blocks_of kept) x n at))

-- a named domain has an index
pub record HasPlace (domains : List ℕ) (d : ℕ) : Type 0 where
  pub below : node_of_domain domains d < length domains
  pub there : get_or domains (node_of_domain domains d) 0 ≡ d
  pub first : (k : ℕ) → k < node_of_domain domains d → (get_or domains k 0 == d) ≡ false

pub place_of : (domains : List ℕ) (d : ℕ) → is_named_domain domains d ≡ true → HasPlace domains d
place_of domains d named =
    let p : ℕ → Bool = λ e. e == d in
    let i : ℕ = position_or_len p domains in
    elim (cases_lt i (length domains)) as (λ _. HasPlace domains d) [
      | inl less ↦
          let node : node_of_domain domains d ≡ i = rw (lt-ltb i (length domains) less) refl in
          record {
            below = rw node less;
            there = rw node (eqb-true _ d (passes_at_first p domains 0 less));
            first = rw node (λ k before. fails_before_first p domains k 0 before);
          }
      | inr none ↦
          let fails : list_any p domains ≡ false = list_any_none p domains (λ k c less. fails_before_first p domains k c (omega arith)) in
          absurd (true≢false (sym named ∙ fails))
    ]

pub one_domain : (domains : List ℕ) (d e : ℕ) → is_named_domain domains d ≡ true → is_named_domain domains e ≡ true
    → node_of_domain domains d ≡ node_of_domain domains e → d ≡ e
one_domain domains d e named_d named_e same =
    sym (place_of domains d named_d).there ∙ ap (λ (i : ℕ). get_or domains i 0) same ∙ (place_of domains e named_e).there

pub node_below : (domains : List ℕ) (d : ℕ) → is_named_domain domains d ≡ true → node_of_domain domains d < length domains
node_below domains d named = (place_of domains d named).below

-- the blocks begin and end at the start of a frame
abbrev pub BeginAndEndAtFrames : List NumaBlock → Type 0
BeginAndEndAtFrames blocks = (b : NumaBlock) → IsIn b blocks → (b.base % 4096 ≡ 0) × (run_end b % 4096 ≡ 0)

in_frame : (b : NumaBlock) (x : ℕ) → b.base % 4096 ≡ 0 → run_end b % 4096 ≡ 0 → lies_in b x ≡ lies_in b (frame_base x)
in_frame b x first last = grind (arith, nat_tests)

between_frame : (a b : NumaBlock) (x : ℕ) → run_end a % 4096 ≡ 0 → b.base % 4096 ≡ 0
    → lies_between_blocks a b x ≡ lies_between_blocks a b (frame_base x)
between_frame a b x first last = grind (arith, nat_tests)

any_same : {X : Type 0} (p q : X → Bool) (xs : List X) → ((x : X) → IsIn x xs → p x ≡ q x) → list_any p xs ≡ list_any q xs
any_same p q [] same = refl
any_same p q (x ∷ xs) same = rw (same x (inl refl), any_same p q xs (λ y member. same y (inr member))) refl

has_frame : (blocks : List NumaBlock) (n x : ℕ) → BeginAndEndAtFrames blocks
    → belongs_to_node blocks n x ≡ belongs_to_node blocks n (frame_base x)
has_frame blocks n x framed =
    let held : is_in_block_of_node blocks n x ≡ is_in_block_of_node blocks n (frame_base x) = any_same _ _ blocks (λ b member.
    rw (in_frame b x (framed b member).0 (framed b member).1) refl) in
    let joined : is_in_gap_of_node blocks n x ≡ is_in_gap_of_node blocks n (frame_base x) = any_same _ _ blocks (λ a in_a.
    ap (λ (t : Bool). (a.value == n) && t) (any_same _ _ blocks (λ b in_b.
    rw (between_frame a b x (framed a in_a).1 (framed b in_b).0) refl))) in
    rw (held, joined) refl

first_frame : (blocks : List NumaBlock) (x : ℕ) (bs : List NumaBlock) → BeginAndEndAtFrames blocks
    → first_node_among blocks x bs ≡ first_node_among blocks (frame_base x) bs
first_frame blocks x [] framed = refl
first_frame blocks x (b ∷ bs) framed = rw (has_frame blocks b.value x framed, first_frame blocks x bs framed) refl

node_frame : (blocks : List NumaBlock) (x : ℕ) → BeginAndEndAtFrames blocks → node_at blocks x ≡ node_at blocks (frame_base x)
unfolding node_at
node_frame blocks x framed = first_frame blocks x blocks framed

-- a kept block is a block of the table, and has a byte of memory
pub record IsKept (memory : ℕ → Bool) (domains : List ℕ) (k : KeptBlock) : Type 0 where
  pub told : SratBlock
  pub block : k.block ≡ block_in_frames domains told
  pub some : meets_memory memory (range_of_run k.block) ≡ true

pub is_kept : (memory : ℕ → Bool) (domains : List ℕ) (i : ℕ) (bs : List SratBlock) (k : KeptBlock)
    → IsIn k (keep_blocks_from memory domains i bs)
    → IsKept memory domains k
is_kept memory domains i [] k member = absurd member
is_kept memory domains i (b ∷ bs) k member =
    elim (cases_Bool (meets_memory memory (range_of_run (block_in_frames domains b)))) as (λ _. IsKept memory domains k) [
      | inl some ↦ elim (rw some at member) as (λ _. IsKept memory domains k) [
        | inl first ↦ record {
          told = b;
          block = ap (λ (j : KeptBlock). j.block) first;
          some = ap (λ (j : KeptBlock). meets_memory memory (range_of_run j.block)) first ∙ some;
        }
        | inr later ↦ is_kept memory domains (i + 1) bs k later
      ]
      | inr none ↦ is_kept memory domains (i + 1) bs k (rw none at member)
    ]

framed_kept : (memory : ℕ → Bool) (domains : List ℕ) (bs : List SratBlock)
    → BeginAndEndAtFrames (numa_blocks_of (keep_blocks memory domains bs))
framed_kept memory domains bs c member =
    let found = kept_member (keep_blocks memory domains bs) c member in
    let kept = is_kept memory domains 0 bs found.0 found.1 in
    rw (found.2 ∙ kept.block) (omega arith, omega arith)

pub nodes_frame : (memory : ℕ → Bool) (domains : List ℕ) (blocks : List SratBlock) (x : ℕ)
    → nodes_by_blocks (keep_blocks memory domains blocks) x ≡ nodes_by_blocks (keep_blocks memory domains blocks) (frame_base x)
nodes_frame memory domains blocks x = node_frame (numa_blocks_of (keep_blocks memory domains blocks)) x (framed_kept memory domains blocks)

pub left_frame : (memory : ℕ → Bool) → ((x : ℕ) → memory x ≡ memory (frame_base x)) → (domains : List ℕ) (blocks : List SratBlock) (x : ℕ)
    → fallback_node memory (keep_blocks memory domains blocks) x
    ≡ fallback_node memory (keep_blocks memory domains blocks) (frame_base x)
left_frame memory whole domains blocks x = rw (whole x, nodes_frame memory domains blocks x) refl

-- a byte of memory among n addresses
pub record MemoryIn (memory : ℕ → Bool) (from n : ℕ) : Type 0 where
  pub at : ℕ
  pub above : from ≤ at
  pub under : at < from + n
  pub is : memory at ≡ true

memory_from : (memory : ℕ → Bool) (x n : ℕ) → each_from (λ y. not (memory y)) x n ≡ false → MemoryIn memory x n
unfolding each_from
memory_from memory x zero some = absurd (true≢false some)
memory_from memory x (suc n) some = elim (cases_Bool (memory x)) as (λ _. MemoryIn memory x (suc n)) [
  | inl here ↦ record { at = x; above = omega arith; under = omega arith; is = here }
  | inr not_here ↦
      let later : MemoryIn memory (x + 1) n = memory_from memory (x + 1) n (rw not_here at some) in
      record { at = later.at; above = omega (arith, later.above); under = omega (arith, later.under); is = later.is }
]

memory_in : (memory : ℕ → Bool) (b : NumaBlock) → meets_memory memory (range_of_run b) ≡ true → MemoryIn memory b.base b.size
unfolding each_in
memory_in memory b some = memory_from memory b.base b.size (not-true _ some)

block_in : (ks : List KeptBlock) (k : KeptBlock) → IsIn k ks → IsIn k.block (numa_blocks_of ks)
block_in [] k member = absurd member
block_in (j ∷ js) k (inl here) = inl (ap (λ (i : KeptBlock). i.block) here)
block_in (j ∷ js) k (inr later) = inr (block_in js k later)

-- the node of each kept block has memory
pub node_memory : (memory : ℕ → Bool) (domains : List ℕ) (blocks : List SratBlock)
    → first_overlap (keep_blocks memory domains blocks) ≡ None
    → (n : ℕ) → is_node_of (keep_blocks memory domains blocks) n ≡ true
    → (x : ℕ) × (memory x ≡ true) × (nodes_by_blocks (keep_blocks memory domains blocks) x ≡ Some n)
node_memory memory domains blocks apart n of_block =
    let kept : List KeptBlock = keep_blocks memory domains blocks in
    let found = any_member _ kept of_block in
    let k : KeptBlock = found.one in
    let node : k.block.value ≡ n = grind (arith, nat_tests, found.passes) in
    let place = memory_in memory k.block (is_kept memory domains 0 blocks k found.member).some in
    let held : is_in_block_of_node (numa_blocks_of kept) n place.at ≡ true =
    held_by (numa_blocks_of kept) k.block n place.at (block_in kept k found.member) node
    (inside k.block place.at place.above place.under) in (
      place.at,
      place.is,
      node_at-belongs (numa_blocks_of kept) place.at n (apart_blocks kept apart) (addresses_kept memory domains blocks) (rw held refl),
    )

-- each node that an address of memory gets is that of a kept block
node_kept : (ks : List KeptBlock) (b : NumaBlock) (n : ℕ) → IsIn b (numa_blocks_of ks) → b.value ≡ n → is_node_of ks n ≡ true
node_kept ks b n member node =
    let found = kept_member ks b member in
    member_any _ ks found.0 found.1 (eq-eqb _ _ (ap (λ (c : NumaBlock). c.value) (sym found.2) ∙ node))

abbrev IsLeast : ℕ → List NumaBlock → Type 0
IsLeast start bs = (fold lower_node start bs ≡ start) ⊎ ((b : NumaBlock) × IsIn b bs × (b.value ≡ fold lower_node start bs))

least_in : (start : ℕ) (bs : List NumaBlock) → IsLeast start bs
least_in start [] = inl refl
least_in start (b ∷ bs) = elim (least_in (lower_node start b) bs) as (λ _. IsLeast start (b ∷ bs)) [
  | inr later ↦ inr (later.0, inr later.1, later.2)
  | inl first ↦ elim (cases_lt start b.value) as (λ _. IsLeast start (b ∷ bs)) [
    | inl keeps ↦ inl (first ∙ omega arith)
    | inr takes ↦ inr (b, inl refl, omega (arith, first))
  ]
]

lowest_kept : (ks : List KeptBlock) → ks ≢ [] → is_node_of ks (lowest_node (numa_blocks_of ks)) ≡ true
lowest_kept [] some = absurd (some refl)
lowest_kept (k ∷ ks) some =
    elim (least_in k.block.value (numa_blocks_of ks)) as (λ _. is_node_of (k ∷ ks) (lowest_node (numa_blocks_of (k ∷ ks))) ≡ true) [
      | inl first ↦ node_kept (k ∷ ks) k.block (lowest_node (numa_blocks_of (k ∷ ks))) (inl refl) (sym first)
      | inr later ↦ node_kept (k ∷ ks) later.0 (lowest_node (numa_blocks_of (k ∷ ks))) (inr later.1) later.2
    ]

pub node_of_kept : (memory : ℕ → Bool) (kept : List KeptBlock) → kept ≢ [] → (x n : ℕ)
    → (nodes_by_blocks kept x ≡ Some n) ⊎ (fallback_node memory kept x ≡ Some n)
    → is_node_of kept n ≡ true
node_of_kept memory kept some x n (inl at) =
    let block = node_block (numa_blocks_of kept) n x (node_has (numa_blocks_of kept) x n at) in
    node_kept kept block.0 n block.1 block.2
node_of_kept memory kept some x n (inr left) =
    let same = (cond_some (memory x && is_none (nodes_by_blocks kept x)) (lowest_node (numa_blocks_of kept)) n left).1 in
    subst (λ (m : ℕ). is_node_of kept m ≡ true) same (lowest_kept kept some)
