-- The runs that `judge_srat` returns: each has an address and a node below 1,024, they cover
-- memory, and all addresses of a frame are in runs of the same nodes.
use Rattle.std.proofs.Common.{◌≡◌, ◌≢◌, ℕ, zero, suc, ◌+◌, ◌^◌, ◌<◌, ◌≤◌, ◌==◌, Bool, true, false, ◌&&◌, ◌||◌, not, nat_le, nat_lt, if◌then◌else◌, Option, Some, None, List, [], ◌∷◌, ◌++◌, length, refl, sym, ◌∙◌, ap, subst, inl, inr, arith}
use Rattle.std.proofs.lemmas.Bool.{cases_Bool, cond_both, eqb-true, ltb-false, not-false, true≢false}
use Rattle.std.proofs.lemmas.List.Elements.{All-cons, All-append}
use Rattle.std.proofs.lemmas.List.Quantifiers.{position-Some}
use Rattle.std.specs.List.{All, position}
use Rattle.std.specs.Prelude.{is_some, is_none}
use Rattle.address_runs.specs.Runs.{RunOf, AreRuns, prepend_address, one_address, value_at, runs_from, runs_of, range_of_run}
use Rattle.address_runs.proofs.RunsLaws.{IsRunsBetween, from_runs}
use Rattle.srat_reader.specs.declared.table.SratBlock.{SratBlock}
use Rattle.srat_reader.specs.Table.{SratView}
use Rattle.srat_nodes.specs.declared.kept.KeptBlock.{KeptBlock}
use Rattle.srat_nodes.specs.declared.reasons.Why.{Why}
use Rattle.srat_nodes.specs.declared.reasons.Why.TheVariants as why
use Rattle.srat_nodes.specs.Domains.{node_of_domain}
use Rattle.srat_nodes.specs.NodeAt.{NumaBlock, same_node}
use Rattle.srat_nodes.specs.SratNodesView.{SratNodesView, count_frames_with_node, nodes_if_apart, nodes_if_covering, judge_srat, judge_kept_blocks, judge_srat_table, fallback_node, srat_domains, nodes_by_blocks, unused_srat, used_srat}
use Rattle.srat_nodes.specs.Kept.{is_any_kept, count_with_addresses, first_overlap, frame_base, meets_memory, is_node_of, keep_blocks_from, keep_blocks, block_in_frames}
use Rattle.srat_nodes.proofs.InListLaws.{any_member}
use Rattle.srat_nodes.proofs.JudgedLaws.{tells_nodes}
use Rattle.srat_nodes.proofs.MeaningLaws.{is_kept, left_frame, node_of_kept, nodes_frame}

-- what holds for a table that isn't used, and for one that is used, holds for every result of
-- `judge_srat`
module _ (P : SratNodesView → Type 0) where
  covering : (domains : List ℕ) (nodes left : ℕ → Option ℕ) → ((r : Why) → r ≢ why.Used → P (unused_srat r))
      → P (used_srat domains nodes left)
      → P (nodes_if_covering domains nodes left)
  covering domains nodes left none some =
      cond_both (nat_le 256 (count_frames_with_node left)) _ _ P (λ many.
      none (why.NotCovered (count_frames_with_node left)) (λ same. cc)) (λ few. some)

  apart : (numbers : Option (ℕ × ℕ)) (j : SratNodesView) → ((r : Why) → r ≢ why.Used → P (unused_srat r)) → P j
      → P (nodes_if_apart numbers j)
  apart (Some pair) j none some = none (why.Overlap pair.0 pair.1) (λ same. cc)
  apart None j none some = some

  by_kept : (memory : ℕ → Bool) (domains : List ℕ) (kept : List KeptBlock) → ((r : Why) → r ≢ why.Used → P (unused_srat r))
      → P (used_srat domains (nodes_by_blocks kept) (fallback_node memory kept)) → P (judge_kept_blocks memory domains kept)
  unfolding judge_kept_blocks
  by_kept memory domains kept none some =
      apart (first_overlap kept) (nodes_if_covering domains (nodes_by_blocks kept) (fallback_node memory kept)) none
      (covering domains (nodes_by_blocks kept) (fallback_node memory kept) none some)

  by_table : (memory : ℕ → Bool) (lists : SratView) → ((r : Why) → r ≢ why.Used → P (unused_srat r))
      → (is_any_kept memory lists.blocks ≡ true → length (srat_domains lists) ≤ 1024
      → P (used_srat (srat_domains lists) (nodes_by_blocks (keep_blocks memory (srat_domains lists) lists.blocks))
      (fallback_node memory (keep_blocks memory (srat_domains lists) lists.blocks))))
      → P (judge_srat_table memory lists)
  unfolding judge_srat_table
  by_table memory lists none some =
      cond_both (not (is_any_kept memory lists.blocks)) _ _ P (λ no_block. none why.NoBlocks (λ same. cc)) (λ kept.
      cond_both (nat_lt 1024 (length (srat_domains lists))) _ _ P (λ many. none why.TooManyDomains (λ same. cc)) (λ few.
      cond_both (nat_lt 2048 (count_with_addresses lists.blocks)) _ _ P (λ many_blocks. none why.TooManyBlocks (λ same. cc)) (λ few_blocks.
      by_kept memory (srat_domains lists) (keep_blocks memory (srat_domains lists) lists.blocks) none
      (some (not-false _ kept) (ltb-false _ _ few)))))

  pub by_judgement : (memory : ℕ → Bool) (off : Bool) (table : Option SratView) → ((r : Why) → r ≢ why.Used → P (unused_srat r))
      → ((lists : SratView) → is_any_kept memory lists.blocks ≡ true → length (srat_domains lists) ≤ 1024
      → P (used_srat (srat_domains lists) (nodes_by_blocks (keep_blocks memory (srat_domains lists) lists.blocks))
      (fallback_node memory (keep_blocks memory (srat_domains lists) lists.blocks))))
      → P (judge_srat memory off table)
  by_judgement memory true None none some = none why.Off (λ same. cc)
  by_judgement memory false None none some = none why.Absent (λ same. cc)
  by_judgement memory true (Some lists) none some = none why.Off (λ same. cc)
  by_judgement memory false (Some lists) none some = by_table memory lists none (some lists)

-- what holds for each value of a function holds for the values of its runs
module _ {X : Type 0} (Q : X → Type 0) where
  led-values : (same : X → X → Bool) (x : ℕ) (v : Option X) (rs : List (RunOf X)) → ((u : X) → v ≡ Some u → Q u)
      → All (λ (r : RunOf X). Q r.value) rs → All (λ (r : RunOf X). Q r.value) (prepend_address same x v rs)
  led-values same x None rs one all = all
  led-values same x (Some v) [] one all = All-cons (λ (r : RunOf X). Q r.value) (one_address x v) [] (one v refl) all
  led-values same x (Some v) (r ∷ rs) one all =
      elim (cases_Bool ((r.base == x + 1) && same v r.value)) as (λ _.
      All (λ (s : RunOf X). Q s.value) (prepend_address same x (Some v) (r ∷ rs))) [
        | inl longer ↦ rw longer (All-cons (λ (s : RunOf X). Q s.value) (record { base = x; size = r.size + 1; value = v }) rs (one v refl)
            (λ k d less. all (suc k) d (omega (arith, less))))
        | inr another ↦ rw another (All-cons (λ (s : RunOf X). Q s.value) (one_address x v) (r ∷ rs) (one v refl) all)
      ]

  runs-values : (same : X → X → Bool) (f : ℕ → Option X) (n x : ℕ) → ((y : ℕ) (u : X) → f y ≡ Some u → Q u)
      → All (λ (r : RunOf X). Q r.value) (runs_from same f x n)
  unfolding runs_from
  runs-values same f zero x each = λ k d less. absurd (omega (arith, less))
  runs-values same f (suc n) x each =
      led-values same x (f x) (runs_from same f (x + 1) n) (each x) (runs-values same f n (x + 1) each)

  pub all-values : (same : X → X → Bool) (f : ℕ → Option X) → ((y : ℕ) (u : X) → f y ≡ Some u → Q u)
      → All (λ (r : RunOf X). Q r.value) (runs_of same f)
  unfolding runs_of
  all-values same f each = runs-values same f (2 ^ 64) 0 each

runs-some : {X : Type 0} (rs : List (RunOf X)) → AreRuns rs → All (λ (r : RunOf X). 0 < r.size) rs
runs-some [] runs = λ k d less. absurd (omega (arith, less))
runs-some {X} (r ∷ rs) runs = All-cons (λ (s : RunOf X). 0 < s.size) r rs runs.0 (runs-some rs runs.2)

-- the runs of nodes over all addresses
runs-between : (f : ℕ → Option ℕ) → IsRunsBetween f 0 (2 ^ 64) (runs_of same_node f)
unfolding runs_of
runs-between f = from_runs same_node tells_nodes f (2 ^ 64) 0

given-at : (f : ℕ → Option ℕ) (x : ℕ) → x < 2 ^ 64 → value_at (runs_of same_node f) x ≡ f x
given-at f x near = (runs-between f).within x (omega arith) (omega (arith, near))

-- a node is below the number of domains, or is 0
node-small : (domains : List ℕ) (d : ℕ) → length domains ≤ 1024 → node_of_domain domains d < 1024
node-small domains d few = by (position (λ e. e == d) domains) refl where
  by : (o : Option ℕ) → position (λ e. e == d) domains ≡ o → node_of_domain domains d < 1024
  by None at = rw at (omega arith)
  by (Some i) at = rw at (omega (arith, (position-Some (λ e. e == d) domains i 0 at).0, few))

node-few : (memory : ℕ → Bool) (domains : List ℕ) (bs : List SratBlock) (n : ℕ) → length domains ≤ 1024
    → is_node_of (keep_blocks memory domains bs) n ≡ true → n < 1024
node-few memory domains bs n few of_block =
    let found = any_member _ (keep_blocks memory domains bs) of_block in
    let kept = is_kept memory domains 0 bs found.one found.member in
    let node = ap (λ (b : NumaBlock). b.value) (sym kept.block) ∙ eqb-true _ n found.passes in
    subst (λ (m : ℕ). m < 1024) node (node-small domains kept.told.domain few)

-- if some block of the table is kept, the list of kept blocks isn't empty
some-kept : (memory : ℕ → Bool) (domains : List ℕ) (i : ℕ) (bs : List SratBlock) → is_any_kept memory bs ≡ true
    → keep_blocks_from memory domains i bs ≢ []
some-kept memory domains i [] any = absurd (true≢false (sym any))
some-kept memory domains i (b ∷ bs) any =
    elim (cases_Bool (meets_memory memory (range_of_run (block_in_frames domains b)))) as (λ _.
    keep_blocks_from memory domains i (b ∷ bs) ≢ []) [
      | inl here ↦ rw here (λ same. cc)
      | inr not_here ↦ rw not_here (some-kept memory domains (i + 1) bs (rw not_here at any))
    ]

-- each run has an address and a node below 1,024
abbrev Small : NumaBlock → Type 0
Small b = (0 < b.size) × (b.value < 1024)

small-runs : (f : ℕ → Option ℕ) → ((x n : ℕ) → f x ≡ Some n → n < 1024) → All Small (runs_of same_node f)
small-runs f few = λ k d less. (
  runs-some (runs_of same_node f) (runs-between f).runs k d less,
  all-values (λ (n : ℕ). n < 1024) same_node f few k d less,
)

pub given-small : (memory : ℕ → Bool) (off : Bool) (table : Option SratView)
    → All Small ((judge_srat memory off table).joined ++ (judge_srat memory off table).rest)
given-small memory off table =
    by_judgement (λ (j : SratNodesView). All Small (j.joined ++ j.rest)) memory off table (λ r other k d less. absurd (omega (arith, less)))
    (λ lists kept few.
    let domains : List ℕ = srat_domains lists in
    let blocks : List KeptBlock = keep_blocks memory domains lists.blocks in
    let some : blocks ≢ [] = some-kept memory domains 0 lists.blocks kept in
    All-append Small (runs_of same_node (nodes_by_blocks blocks)) (runs_of same_node (fallback_node memory blocks))
    (small-runs (nodes_by_blocks blocks) (λ x n at.
    node-few memory domains lists.blocks n few (node_of_kept memory blocks some x n (inl at))))
    (small-runs (fallback_node memory blocks)
    (λ x n at. node-few memory domains lists.blocks n few (node_of_kept memory blocks some x n (inr at)))))

pub given-runs : (memory : ℕ → Bool) (off : Bool) (table : Option SratView)
    → AreRuns (judge_srat memory off table).joined × AreRuns (judge_srat memory off table).rest
given-runs memory off table =
    by_judgement (λ (j : SratNodesView). AreRuns j.joined × AreRuns j.rest) memory off table (λ r other. (tt, tt))
    (λ lists kept few.
    let blocks : List KeptBlock = keep_blocks memory (srat_domains lists) lists.blocks in
    ((runs-between (nodes_by_blocks blocks)).runs, (runs-between (fallback_node memory blocks)).runs))

-- if the table is used, each byte of memory is in a run
covered_by : (nodes : Option ℕ) (left n : ℕ) → (is_some nodes || is_some (if true && is_none nodes then Some n else None)) ≡ true
covered_by None left n = refl
covered_by (Some m) left n = refl

pub given-covers : (memory : ℕ → Bool) (off : Bool) (table : Option SratView) (x : ℕ) → (judge_srat memory off table).why ≡ why.Used
    → memory x ≡ true → x < 2 ^ 64
    → (is_some (value_at (judge_srat memory off table).joined x) || is_some (value_at (judge_srat memory off table).rest x)) ≡ true
given-covers memory off table x used_it is near =
    by_judgement (λ (j : SratNodesView). j.why ≡ why.Used
    → (is_some (value_at j.joined x) || is_some (value_at j.rest x)) ≡ true) memory off
    table (λ r other same. absurd (other same))
    (λ lists kept few same.
    let blocks : List KeptBlock = keep_blocks memory (srat_domains lists) lists.blocks in
    rw (given-at (nodes_by_blocks blocks) x near, given-at (fallback_node memory blocks) x near, is)
    (covered_by (nodes_by_blocks blocks x) 0 _)) used_it

-- all addresses of a frame are in runs of the same nodes
pub given-frames : (memory : ℕ → Bool) (off : Bool) (table : Option SratView) → ((x : ℕ) → memory x ≡ memory (frame_base x))
    → (x : ℕ) → x < 2 ^ 64
    → (value_at (judge_srat memory off table).joined x ≡ value_at (judge_srat memory off table).joined (frame_base x))
    × (value_at (judge_srat memory off table).rest x ≡ value_at (judge_srat memory off table).rest (frame_base x))
given-frames memory off table whole x near =
    by_judgement (λ (j : SratNodesView). (value_at j.joined x ≡ value_at j.joined (frame_base x))
    × (value_at j.rest x ≡ value_at j.rest (frame_base x))) memory off table (λ r other. (refl, refl))
    (λ lists kept few.
    let domains : List ℕ = srat_domains lists in
    let nodes : ℕ → Option ℕ = nodes_by_blocks (keep_blocks memory domains lists.blocks) in
    let left : ℕ → Option ℕ = fallback_node memory (keep_blocks memory domains lists.blocks) in
    let near_too : frame_base x < 2 ^ 64 = omega (arith, near) in (
      rw (given-at nodes x near, given-at nodes (frame_base x) near_too) (nodes_frame memory domains lists.blocks x),
      rw (given-at left x near, given-at left (frame_base x) near_too) (left_frame memory whole domains lists.blocks x),
    ))
