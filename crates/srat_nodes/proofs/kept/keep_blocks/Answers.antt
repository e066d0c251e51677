use Rattle.std.proofs.Common.{◌+◌, ◌++◌, drop, ap, sym, ◌∙◌, append_assoc, arith}
use Rattle.srat_nodes.specs.Kept.{keep_blocks_from, keep_block, block_in_frames}
use Rattle.srat_nodes.specs.Steps.{is_in_runs}
use Rattle.srat_nodes.proofs.KeptLaws.{kept_step, kept_space}
use Rattle.srat_nodes.proofs.kept.keep_blocks.Goals as goal

pub loop-index-preserved : goal.loop-index-preserved
loop-index-preserved c =
    let l = c.loop-index in
    let memory = is_in_runs c.args.memory.now.items in
    let domains = c.args.domains.now in
    let blocks = c.args.blocks.now in
    let b = c.index-blocks-index.result in
    record {
      kept_so_far = rw (c.in_ok-keep_block.ensures, c.block_in_frames-block.ensures.value)
          (append_assoc l.kept.items (keep_block memory l.index (block_in_frames domains b))
          (keep_blocks_from memory domains (l.index + 1) (drop (l.index + 1) blocks))
          ∙ ap (λ ks. l.kept.items ++ ks) (sym (kept_step memory domains blocks l.index b (omega arith) c.index-blocks-index.is))
          ∙ l.invariant.kept_so_far);
      space = rw c.in_ok-keep_block.ensures
          (kept_space memory l.kept.items l.index c.block_in_frames-block.result l.invariant.space c.block_in_frames-block.ensures.space);
    }
