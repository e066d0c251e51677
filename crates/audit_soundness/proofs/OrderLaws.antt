-- The lines of a boot are ascending and disjoint, and there are fewer than 2^64 of them.
use Rattle.std.proofs.Common.{◌≡◌, ℕ, ◌+◌, ◌-◌, ◌*◌, ◌%◌, ◌^◌, ◌<◌, ◌≤◌, true, nat_lt, if◌then◌else◌, Bool, false, Option, Some, None, List, [], ◌∷◌, length, map, Ok, refl, sym, ◌∙◌, ap, inl, inr, arith}
use Rattle.std.specs.List.{All}
use Rattle.std.proofs.lemmas.Bool.{cases_lt}
use Rattle.std.proofs.lemmas.Bool.Decides.{nat_tests}
use Rattle.std.proofs.lemmas.List.Elements.{All-cons, All-head, All-nil, All-tail}
use Rattle.std.proofs.lemmas.Nat.{pow_pos}
use Rattle.bm_base.specs.Range.{RangeView, end_of}
use Rattle.address_runs.specs.Edits.{IsEmptyFrom}
use Rattle.address_runs.specs.Runs.{AreRuns, RunOf, range_of_run}
use Rattle.audit_lines.specs.Blocks.{bytes_of_block}
use Rattle.audit_lines.specs.Lines.{AscendApart, StartFrom}
use Rattle.audit_roundtrip.specs.PrintedLines.{IsPrintableBlock, line_of_block}
use Rattle.buddy_blocks.specs.declared.block.Block.{Block}
use Rattle.buddy_blocks.specs.declared.run.TheConstants.{MAX_FRAMES}
use Rattle.buddy_blocks.specs.Frames.{Frames, IsBlock, IsInBlock}
use Rattle.buddy_blocks.specs.BlockList.{AscendFrom, ListsBlock, blocks_of}
use Rattle.buddy_blocks.proofs.BlockLaws.{found_block, listed_ascends, listed_sound}
use Rattle.memblock_model.specs.Labels.{LabelView}
use Rattle.memblock_model.specs.Items.{memory_of}
use Rattle.memblock_model.specs.declared.item.Item.{Item}
use Rattle.memblock_frames.specs.Frames.{free_node_in, valid_node, node_of_frame, node_of_label}
use Rattle.memblock_frames.proofs.TakeLaws.{both_tests}
use Rattle.boot_model.specs.Boot.{InputsView, BootedView, handover_frames, whole_boot, no_extra}
use Rattle.conservation.specs.Headline.{booted_blocks}
use Rattle.conservation.proofs.CountLaws.{in_block}
use Rattle.conservation.proofs.HeadlineLaws.{below, is_told}
use Rattle.conservation.proofs.ToldLaws.{own_told}

-- the ranges of ascending runs are ascending and disjoint
pub runs_ascend : {X : Type 0} (rs : List (RunOf X)) → AreRuns rs → AscendApart (map range_of_run rs)
runs_ascend [] runs = tt
runs_ascend (r ∷ []) runs = (tt, tt)
runs_ascend (r ∷ (s ∷ ss)) runs = (runs.1.0, runs_ascend (s ∷ ss) runs.2)

-- disjoint ranges below an end, none of them empty, are at most as many as there are bytes
few_from : {X : Type 0} (end at : ℕ) (rs : List (RunOf X)) → at ≤ end → StartFrom at (map range_of_run rs)
    → AscendApart (map range_of_run rs)
    → All (λ r. (0 < r.size) × (end_of (range_of_run r) ≤ end)) rs → at + length rs ≤ end
few_from end at [] low start order all = omega (arith, low)
few_from end at (r ∷ rs) low start order all =
    let here = All-head (λ s. (0 < s.size) × (end_of (range_of_run s) ≤ end)) r rs all in
    let some : 0 < r.size = here.0 in
    let last : r.base + r.size ≤ end = here.1 in
    let rest : r.base + r.size + length rs ≤ end = few_from end (end_of (range_of_run r)) rs here.1 order.0 order.1
    (All-tail (λ s. (0 < s.size) × (end_of (range_of_run s) ≤ end)) r rs all) in
    omega (arith, start, some, rest)

start_at : (es : List RangeView) → StartFrom 0 es
start_at [] = tt
start_at (e ∷ es) = omega arith

pub few_runs : {X : Type 0} (rs : List (RunOf X)) → AscendApart (map range_of_run rs)
    → All (λ r. (0 < r.size) × (end_of (range_of_run r) < 2 ^ 64)) rs → length rs < 2 ^ 64
few_runs rs order all =
    let few : 0 + length rs ≤ 2 ^ 64 - 1 = few_from (2 ^ 64 - 1) 0 rs (omega arith) (start_at (map range_of_run rs)) order
    (λ k d inside. (let ends = all k d inside in (ends.0, omega (arith, ends.1)))) in
    omega (arith, few)

-- the last frame of an aligned block is in the block
last_frame : (b : Block) → b.first % 2 ^ b.order ≡ 0 → IsInBlock b (b.first + 2 ^ b.order - 1)
last_frame b whole =
    let some = pow_pos b.order in
    in_block b (b.first + 2 ^ b.order - 1) whole
    (both_tests b.first (b.first + 2 ^ b.order - 1) (b.first + 2 ^ b.order) (omega (arith, some)) (omega (arith, some)))

module _ (f : Frames) where
  -- if one of two blocks begins before the other, it ends before the other begins
  blocks_apart : (b c : Block) → IsBlock f b → IsBlock f c → b.first < c.first → b.first + 2 ^ b.order ≤ c.first
  blocks_apart b c one other less =
      elim (cases_lt c.first (b.first + 2 ^ b.order)) as (λ _. b.first + 2 ^ b.order ≤ c.first) [
        | inl meets ↦
            (let inside : IsInBlock b c.first = in_block b c.first one.aligned
            (both_tests b.first c.first (b.first + 2 ^ b.order) (omega (arith, less)) meets) in
            let same : b ≡ c = cc (sym (found_block f c.first b one inside) ∙ found_block f c.first c other refl) in
            let first : b.first ≡ c.first = ap (λ (d : Block). d.first) same in
            absurd (omega (arith, first, less)))
        | inr past ↦ omega (arith, past)
      ]

  ascend_told : (from : ℕ) (bs : List Block) → AscendFrom from bs → ((b : Block) → ListsBlock bs b → IsBlock f b)
      → AscendApart (map bytes_of_block (map line_of_block bs))
  ascend_told from [] ascend are = tt
  ascend_told from (b ∷ []) ascend are = (tt, tt)
  ascend_told from (b ∷ (c ∷ cs)) ascend are =
      let next : b.first + 1 ≤ c.first = ascend.1.0 in
      let apart : b.first + 2 ^ b.order ≤ c.first = blocks_apart b c (are b (inl refl)) (are c (inr (inl refl))) (omega (arith, next)) in
      (omega (arith, apart), ascend_told (b.first + 1) (c ∷ cs) ascend.1 (λ d listed. are d (inr listed)))

  pub blocks_ascend : AscendApart (map bytes_of_block (map line_of_block (blocks_of f)))
  blocks_ascend = ascend_told 0 (blocks_of f) (listed_ascends f) (listed_sound f)

  module _ (near : IsEmptyFrom MAX_FRAMES f) where
    -- a free frame is below 2^40
    free_near : (frame node : ℕ) → f frame ≡ Some node → frame < 2 ^ 40
    free_near frame node free =
        elim (cases_lt frame MAX_FRAMES) as (λ _. frame < 2 ^ 40) [
          | inl low ↦ omega (arith, low)
          | inr far ↦ absurd (cc (sym free ∙ near frame far))
        ]

    pub block_near : (b : Block) → IsBlock f b → b.first + 2 ^ b.order ≤ 2 ^ 40
    block_near b block =
        let last : b.first + 2 ^ b.order - 1 < 2 ^ 40 =
        free_near (b.first + 2 ^ b.order - 1) b.node (block.good (b.first + 2 ^ b.order - 1) (last_frame b block.aligned)).0 in
        omega (arith, last)

    few_blocks : (from : ℕ) (bs : List Block) → from ≤ 2 ^ 40 → AscendFrom from bs → ((b : Block) → ListsBlock bs b → IsBlock f b)
        → from + length bs ≤ 2 ^ 40
    few_blocks from [] low ascend are = omega (arith, low)
    few_blocks from (b ∷ bs) low ascend are =
        let some = pow_pos b.order in
        let end : b.first + 2 ^ b.order ≤ 2 ^ 40 = block_near b (are b (inl refl)) in
        let rest : b.first + 1 + length bs ≤ 2 ^ 40 =
        few_blocks (b.first + 1) bs (omega (arith, some, end)) ascend.1 (λ d listed. are d (inr listed)) in
        omega (arith, ascend.0, rest)

    pub blocks_few : length (blocks_of f) < 2 ^ 64
    blocks_few =
        let few : 0 + length (blocks_of f) ≤ 2 ^ 40 = few_blocks 0 (blocks_of f) (omega arith) (listed_ascends f) (listed_sound f) in
        omega (arith, few)

-- the node of a frame that was handed over is below 1024
below_low : (n m : ℕ) (small : Bool) → nat_lt m 1024 ≡ small → (if small then Some m else None) ≡ Some n → n < 1024
below_low n m true test is =
    let same : m ≡ n = cc in
    let low : m < 1024 = grind (arith, nat_tests) in
    omega (arith, same, low)
below_low n m false test is = cc

node_low : (o : Option ℕ) (n : ℕ) → valid_node o ≡ Some n → n < 1024
node_low None n is = cc
node_low (Some m) n is = below_low n m (nat_lt m 1024) refl is

label_low : (o : Option LabelView) (n : ℕ) → node_of_label o ≡ Some n → n < 1024
label_low None n is = cc
label_low (Some label) n is = node_low label.node n is

if_low : (b : Bool) (o : Option ℕ) (n : ℕ) → (o ≡ Some n → n < 1024) → (if b then o else None) ≡ Some n → n < 1024
if_low true o n low is = low is
if_low false o n low is = cc

handed_low : (items : List Item) (frame n : ℕ) → handover_frames items frame ≡ Some n → n < 1024
unfolding free_node_in
handed_low items frame n is =
    if_low _ (node_of_frame (memory_of items) frame) n (label_low (memory_of items (4096 * frame)) n) is

-- each block can be printed as a line
module _ (inputs : InputsView) (booted : BootedView) (ends : whole_boot inputs ≡ Ok booted) where
  block_told : (b : Block) → ListsBlock (booted_blocks booted) b → IsPrintableBlock b
  block_told b listed =
      let block : IsBlock booted.free b = listed_sound booted.free b listed in
      let free : handover_frames booted.items b.first ≡ Some b.node =
      ap (λ (f : Frames). f b.first) (sym (is_told no_extra inputs booted (own_told booted inputs ends)).free)
      ∙ (block.good b.first refl).0 in
      let low : b.node < 1024 = handed_low booted.items b.first b.node free in
      let end : b.first + 2 ^ b.order ≤ 2 ^ 40 = block_near booted.free
      (below no_extra inputs booted (own_told booted inputs ends)) b block in
      (omega (arith, low), (block.small, omega (arith, end)))

  all_told : (bs : List Block) → ((b : Block) → ListsBlock bs b → ListsBlock (booted_blocks booted) b) → All IsPrintableBlock bs
  all_told [] among = All-nil IsPrintableBlock
  all_told (b ∷ bs) among =
      All-cons IsPrintableBlock b bs (block_told b (among b (inl refl))) (all_told bs (λ d listed. among d (inr listed)))

  pub blocks_told : All IsPrintableBlock (booted_blocks booted)
  blocks_told = all_told (booted_blocks booted) (λ b listed. listed)
