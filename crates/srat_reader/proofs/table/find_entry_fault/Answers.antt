use Rattle.std.proofs.Common.{◌≡◌, true, false, sym, ◌∙◌, arith}
use Rattle.std.proofs.lemmas.Grind.{common_steps}
use Rattle.srat_reader.specs.Entries.{is_whole_entry, is_block_too_far, srat_entry_at}
use Rattle.srat_reader.proofs.ChainLaws.{whole_bounds, broken_fault, far_fault, later_fault, no_fault}
use Rattle.srat_reader.proofs.table.find_entry_fault.Goals as goal

pub returns-then-not-is_whole_entry : goal.returns-then-not-is_whole_entry
returns-then-not-is_whole_entry c =
    let broken : is_whole_entry c.loop-at.at c.args.bytes.now ≡ false = grind (arith, common_steps) in
    sym (broken_fault c.loop-at.at c.args.bytes.now c.loop-at-test.true broken) ∙ c.loop-at.invariant.sound_before

pub returns-then-is_block_too_far : goal.returns-then-is_block_too_far
returns-then-is_block_too_far c =
    let whole : is_whole_entry c.loop-at.at c.args.bytes.now ≡ true = grind (arith, common_steps) in
    let far : is_block_too_far (srat_entry_at c.loop-at.at c.args.bytes.now) ≡ true = cc in
    sym (far_fault c.loop-at.at c.args.bytes.now c.loop-at-test.true whole far) ∙ c.loop-at.invariant.sound_before

pub entry_length_at-at-requires : goal.entry_length_at-at-requires
entry_length_at-at-requires c =
    let whole : is_whole_entry c.loop-at.at c.args.bytes.now ≡ true = grind (arith, common_steps) in
    let bounds = whole_bounds c.loop-at.at c.args.bytes.now whole in
    omega arith

pub loop-at-smaller : goal.loop-at-smaller
loop-at-smaller c =
    let whole : is_whole_entry c.loop-at.at c.args.bytes.now ≡ true = grind (arith, common_steps) in
    let bounds = whole_bounds c.loop-at.at c.args.bytes.now whole in
    omega arith

pub loop-at-preserved : goal.loop-at-preserved
loop-at-preserved c =
    let whole : is_whole_entry c.loop-at.at c.args.bytes.now ≡ true = grind (arith, common_steps) in
    let near : is_block_too_far (srat_entry_at c.loop-at.at c.args.bytes.now) ≡ false = cc in
    let bounds = whole_bounds c.loop-at.at c.args.bytes.now whole in
    let from = c.loop-at.invariant.after_header in
    record {
      after_header = omega arith;
      sound_before = rw c.entry_length_at-at.ensures
          (sym (later_fault c.loop-at.at c.args.bytes.now c.loop-at-test.true whole near) ∙ c.loop-at.invariant.sound_before);
    }

pub returns : goal.returns
returns c = sym (no_fault c.loop-at.at c.args.bytes.now c.loop-at-test.false) ∙ c.loop-at.invariant.sound_before
