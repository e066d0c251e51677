use Rattle.std.proofs.Common.{◌≡◌, ◌+◌, ◌-◌, suc, false, arith, sym, ◌∙◌}
use Rattle.std.proofs.lemmas.Bool.Decides.{nat_tests}
use Rattle.std.proofs.lemmas.Grind.{common_steps}
use Rattle.e820_table.specs.Entries.{nth_entry, is_entry_too_far}
use Rattle.e820_table.proofs.EntryLaws.{far_later}
use Rattle.e820_table.proofs.entries.first_far_entry.Goals as goal

pub loop-index-preserved : goal.loop-index-preserved
loop-index-preserved c =
    let l = c.loop-index in
    let left : c.args.count - l.index ≡ suc (c.args.count - (l.index + 1)) = omega arith in
    let near : is_entry_too_far (nth_entry c.args.start l.index c.args.bytes.now) ≡ false =
    rw (← c.nth_entry-entry.ensures) (grind (arith, nat_tests, common_steps)) in
    sym (far_later c.args.start l.index (c.args.count - (l.index + 1)) c.args.bytes.now near) ∙ rw left at l.invariant
