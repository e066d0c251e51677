use Rattle.std.proofs.Common.{◌≡◌, None, arith}
use Rattle.std.proofs.lemmas.Grind.{common_steps}
use Rattle.boot_audit.specs.Frames.{could_merge}
use Rattle.boot_audit.specs.Verdicts.{first_line_passing}
use Rattle.boot_audit.specs.Walk.{first_mergeable_from}
use Rattle.boot_audit.proofs.WalkLaws.{walk_is}
use Rattle.boot_audit.proofs.merges.first_mergeable.Goals as goal

pub returns-then-could_merge_after_run : goal.returns-then-could_merge_after_run
returns-then-could_merge_after_run c =
    let e : first_mergeable_from None 0 1 c.args.blocks.now ≡ first_line_passing (could_merge c.args.blocks.now) 1 c.args.blocks.now =
    walk_is c.args.blocks.now c.requires.order in
    rw (← e) (grind (arith, common_steps))

pub returns : goal.returns
returns c =
    let e : first_mergeable_from None 0 1 c.args.blocks.now ≡ first_line_passing (could_merge c.args.blocks.now) 1 c.args.blocks.now =
    walk_is c.args.blocks.now c.requires.order in
    rw (← e) (grind (arith, common_steps))
