-- Which blocks are kept and which overlap, one block at a time.
use Rattle.std.proofs.Common.{◌≡◌, ℕ, ◌+◌, ◌^◌, ◌<◌, Bool, true, not, List, [], ◌∷◌, length, get_or, drop, add-one, ◌++◌, refl, subst, sym, ◌∙◌, ap, inl, inr, lt_of_not-le, arith}
use Rattle.std.proofs.lemmas.Bool.{cases_Bool, cond_both, not-true, true≢false}
use Rattle.std.proofs.lemmas.List.{append-nil, map-append}
use Rattle.std.proofs.Math.Seq.{drop-cons}
use Rattle.bm_base.proofs.EachLaws.{each_in-all}
use Rattle.address_runs.specs.Overlay.{HaveAddresses}
use Rattle.address_runs.specs.Runs.{run_end, range_of_run}
use Rattle.srat_reader.specs.declared.table.SratBlock.{SratBlock}
use Rattle.srat_nodes.specs.declared.kept.KeptBlock.{KeptBlock}
use Rattle.srat_nodes.specs.NodeAt.{NumaBlock}
use Rattle.srat_nodes.specs.Kept.{numa_blocks_of, meets_memory, block_in_frames, keep_block, keep_blocks_from, keep_blocks, is_any_kept}
use Rattle.srat_nodes.specs.Steps.{EndInSpace}
use Rattle.srat_nodes.proofs.RestLaws.{space_push}

-- the kept blocks from one index on
pub kept_step : (memory : ℕ → Bool) (domains : List ℕ) (blocks : List SratBlock) (i : ℕ) (b : SratBlock) → i < length blocks
    → b ≡ get_or blocks i b
    → keep_blocks_from memory domains i (drop i blocks)
    ≡ keep_block memory i (block_in_frames domains b) ++ keep_blocks_from memory domains (i + 1) (drop (i + 1) blocks)
kept_step memory domains blocks i b lt is = rw (drop-cons blocks i b lt, ← is, add-one) refl

-- the ends of the kept blocks stay below 2^64 when one more is kept
pub kept_space : (memory : ℕ → Bool) (kept : List KeptBlock) (i : ℕ) (b : NumaBlock) → EndInSpace (numa_blocks_of kept) → run_end b < 2 ^ 64
    → EndInSpace (numa_blocks_of (kept ++ keep_block memory i b))
kept_space memory kept i b space ends =
    let one : List KeptBlock = record { number = i; block = b } ∷ [] in
    cond_both (meets_memory memory (range_of_run b)) one [] (λ (ks : List KeptBlock). EndInSpace (numa_blocks_of (kept ++ ks)))
    (λ some. rw (map-append (λ (k : KeptBlock). k.block) kept one) (space_push (numa_blocks_of kept) b space ends))
    (λ none. rw (append-nil kept) space)

-- a kept block isn't empty: it has a byte of memory
has_address : (memory : ℕ → Bool) (b : NumaBlock) → meets_memory memory (range_of_run b) ≡ true → 0 < b.size
has_address memory b some = lt_of_not-le (λ none.
    let all = each_in-all (range_of_run b) (λ y. not (memory y)) (λ y low high. absurd (omega arith)) in
    true≢false (sym all ∙ not-true _ some))

kept_addresses : (memory : ℕ → Bool) (domains : List ℕ) (i : ℕ) (bs : List SratBlock)
    → HaveAddresses (numa_blocks_of (keep_blocks_from memory domains i bs))
kept_addresses memory domains i [] = tt
kept_addresses memory domains i (b ∷ bs) =
    let rest = kept_addresses memory domains (i + 1) bs in
    elim (cases_Bool (meets_memory memory (range_of_run (block_in_frames domains b)))) as
    (λ _. HaveAddresses (numa_blocks_of (keep_blocks_from memory domains i (b ∷ bs)))) [
      | inl some ↦ rw some (has_address memory (block_in_frames domains b) some, rest)
      | inr none ↦ rw none rest
    ]

pub addresses_kept : (memory : ℕ → Bool) (domains : List ℕ) (bs : List SratBlock)
    → HaveAddresses (numa_blocks_of (keep_blocks memory domains bs))
addresses_kept memory domains bs = kept_addresses memory domains 0 bs

-- if two tests for memory agree on each address, they keep the same blocks
module _ (memory other : ℕ → Bool) (alike : (x : ℕ) → other x ≡ memory x) where
  same_memory : other ≡ memory
  same_memory = λ i x. alike x i

  pub any_alike : (bs : List SratBlock) {v : Bool} → is_any_kept other bs ≡ v → is_any_kept memory bs ≡ v
  any_alike bs {v} is = subst (λ (f : ℕ → Bool). is_any_kept f bs ≡ v) same_memory is

  pub kept_alike : (domains : List ℕ) (bs : List SratBlock) → keep_blocks other domains bs ≡ keep_blocks memory domains bs
  kept_alike domains bs = ap (λ (f : ℕ → Bool). keep_blocks f domains bs) same_memory
