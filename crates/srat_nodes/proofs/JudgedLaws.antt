-- The order of the reasons, and the results of the code's steps.
use Rattle.std.proofs.Common.{◌≡◌, ℕ, ◌<◌, ◌≤◌, Bool, true, false, Option, Some, None, List, length, take, refl, sym, ◌∙◌, ap, subst, arith}
use Rattle.std.proofs.lemmas.Bool.{le-leb, lt-leb, lt-ltb, le-ltb}
use Rattle.std.proofs.lemmas.Bool.Decides.{nat_tests}
use Rattle.std.proofs.lemmas.List.{take_all, length-take}
use Rattle.address_runs.specs.Runs.{DecidesEquality, value_at, IsRunsOf, runs_of}
use Rattle.address_runs.proofs.RunsLaws.{runs_equal_runs_of}
use Rattle.srat_reader.specs.Table.{SratView}
use Rattle.srat_nodes.specs.declared.kept.KeptBlock.{KeptBlock}
use Rattle.srat_nodes.specs.declared.reasons.Why.TheVariants as why
use Rattle.srat_nodes.specs.NodeAt.{NumaBlock, same_node}
use Rattle.srat_nodes.specs.SratNodesView.{node_if_uncovered, count_frames_with_node, lowest_node, nodes_by_blocks, fallback_node, srat_domains, unused_srat, judge_kept_blocks, judge_srat_table}
use Rattle.srat_nodes.specs.Kept.{is_any_kept, numa_blocks_of, count_with_addresses, first_overlap, keep_blocks}
use Rattle.srat_nodes.specs.Steps.{EndInSpace}
use Rattle.srat_nodes.proofs.NodesLaws.{node_none}
use Rattle.srat_nodes.proofs.RestLaws.{space_none}

-- the list of domains that stops at 1,025 shows whether there are too many
pub many_domains : (domains full : List ℕ) → domains ≡ take 1025 full → 1024 < length domains → 1024 < length full
many_domains domains full is many = omega (arith, ap (λ (xs : List ℕ). length xs) is, length-take 1025 full)

pub few_domains : (domains full : List ℕ) → domains ≡ take 1025 full → length domains ≤ 1024 → length full ≤ 1024
few_domains domains full is few = omega (arith, ap (λ (xs : List ℕ). length xs) is, length-take 1025 full)

pub whole_domains : (domains full : List ℕ) → domains ≡ take 1025 full → length domains ≤ 1024 → domains ≡ full
whole_domains domains full is few = is ∙ take_all 1025 full (omega (arith, few_domains domains full is few))

-- the results of the last steps, as their contracts state them
pub record Found (memory : ℕ → Bool) (kept : List KeptBlock) (joined rest : List NumaBlock) (frames : ℕ) : Type 0 where
  pub apart : first_overlap kept ≡ None
  pub kept_space : EndInSpace (numa_blocks_of kept)
  pub hulls : IsRunsOf (nodes_by_blocks kept) joined
  pub left : IsRunsOf (node_if_uncovered memory (value_at joined) (lowest_node (numa_blocks_of kept))) rest
  pub left_space : EndInSpace rest
  pub counted : frames ≡ count_frames_with_node (value_at rest)

pub tells_nodes : DecidesEquality same_node
tells_nodes = record { true_is_equal = λ a b same. grind (arith, nat_tests); equal_is_true = λ a b same. grind (arith, nat_tests) }

-- the results of the last steps, in terms of the definitions
record IsFoundByDefinition (memory : ℕ → Bool) (kept : List KeptBlock) (joined rest : List NumaBlock) (frames : ℕ) : Type 0 where
  hulls : joined ≡ runs_of same_node (nodes_by_blocks kept)
  left : rest ≡ runs_of same_node (fallback_node memory kept)
  counted : count_frames_with_node (fallback_node memory kept) ≡ frames

module _ (memory : ℕ → Bool) (kept : List KeptBlock) (joined rest : List NumaBlock) (frames : ℕ)
    (found : Found memory kept joined rest frames) where
  spoken : IsFoundByDefinition memory kept joined rest frames
  spoken =
      let at_nodes : value_at joined ≡ nodes_by_blocks kept = λ i x. found.hulls.each x i in
      let left : IsRunsOf (fallback_node memory kept) rest =
      subst (λ (f : ℕ → Option ℕ). IsRunsOf (node_if_uncovered memory f (lowest_node (numa_blocks_of kept))) rest) at_nodes found.left in
      let at_left : value_at rest ≡ fallback_node memory kept = λ i x. left.each x i in
      record {
        hulls = runs_equal_runs_of same_node tells_nodes (nodes_by_blocks kept) joined (λ x far.
            node_none (numa_blocks_of kept) x found.kept_space far)
            found.hulls;
        left = runs_equal_runs_of same_node tells_nodes (fallback_node memory kept) rest
            (λ x far. sym (left.each x) ∙ space_none rest x found.left_space far) left;
        counted = ap (λ (f : ℕ → Option ℕ). count_frames_with_node f) (sym at_left) ∙ sym found.counted;
      }

  pub found_uncovered : (domains : List ℕ) → 256 ≤ frames → judge_kept_blocks memory domains kept ≡ unused_srat (why.NotCovered frames)
  unfolding judge_kept_blocks
  found_uncovered domains many = rw (found.apart, spoken.counted, le-leb 256 frames many) refl

  pub found_used : (domains : List ℕ) → frames < 256
      → judge_kept_blocks memory domains kept ≡ record {
        why = why.Used;
        domains = domains;
        joined = joined;
        rest = rest;
        uncovered = frames;
      }
  unfolding judge_kept_blocks
  found_used domains few = rw (found.apart, spoken.counted, lt-leb 256 frames few, spoken.hulls, spoken.left) refl

pub found_overlap : (memory : ℕ → Bool) (domains : List ℕ) (kept : List KeptBlock) (i j : ℕ) → first_overlap kept ≡ Some (i, j)
    → judge_kept_blocks memory domains kept ≡ unused_srat (why.Overlap i j)
unfolding judge_kept_blocks
found_overlap memory domains kept i j clash = rw clash refl

-- the reasons that are tested before an overlap and the cover of memory
module _ (memory : ℕ → Bool) (lists : SratView) where
  pub no_blocks : is_any_kept memory lists.blocks ≡ false → judge_srat_table memory lists ≡ unused_srat why.NoBlocks
  unfolding judge_srat_table
  no_blocks none = rw none refl

  pub too_many_domains : is_any_kept memory lists.blocks ≡ true → 1024 < length (srat_domains lists) → judge_srat_table memory lists
      ≡ unused_srat why.TooManyDomains
  unfolding judge_srat_table
  too_many_domains some many = rw (some, lt-ltb 1024 (length (srat_domains lists)) many) refl

  pub too_many_blocks : is_any_kept memory lists.blocks ≡ true → length (srat_domains lists) ≤ 1024
      → 2048 < count_with_addresses lists.blocks
      → judge_srat_table memory lists ≡ unused_srat why.TooManyBlocks
  unfolding judge_srat_table
  too_many_blocks some few many =
      rw (some, le-ltb 1024 (length (srat_domains lists)) few, lt-ltb 2048 (count_with_addresses lists.blocks) many) refl

  pub by_kept : is_any_kept memory lists.blocks ≡ true → (domains : List ℕ) → domains ≡ take 1025 (srat_domains lists)
      → length domains ≤ 1024
      → count_with_addresses lists.blocks ≤ 2048 → (kept : List KeptBlock) → kept ≡ keep_blocks memory domains lists.blocks
      → judge_kept_blocks memory domains kept ≡ judge_srat_table memory lists
  unfolding judge_srat_table
  by_kept some domains names few few_blocks kept is =
      let whole : domains ≡ srat_domains lists = whole_domains domains (srat_domains lists) names few in
      let count = le-ltb 1024 (length (srat_domains lists)) (few_domains domains (srat_domains lists) names few) in
      rw (some, count, le-ltb 2048 (count_with_addresses lists.blocks) few_blocks, is, whole) refl
