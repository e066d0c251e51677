use Rattle.std.proofs.Common.{sym, ◌∙◌, refl}
use Rattle.boot_journal.proofs.ByteLaws.{marks_after_trim-agrees, marks_after_trim-differs}
use Rattle.boot_journal.proofs.tags.marks_after_trim.Goals as goal

pub returns-then-not-frame_agrees : goal.returns-then-not-frame_agrees
returns-then-not-frame_agrees c =
    let some = c.if-not-frame_agrees.ensures.differs refl in
    sym (marks_after_trim-differs c.args.whole.now c.args.items.now c.args.x some.0 some.1)

pub returns : goal.returns
returns c = c.marks_after_items.ensures
    ∙ sym (marks_after_trim-agrees c.args.whole.now c.args.items.now c.args.x (c.if-not-frame_agrees.ensures.agrees refl))
