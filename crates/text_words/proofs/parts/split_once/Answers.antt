use Rattle.std.proofs.Common.{sym, ◌∙◌}
use Rattle.text_words.proofs.PartsLaws.{split_once-found}
use Rattle.text_words.proofs.parts.split_once.Goals as goal

pub returns-then-byte-mark : goal.returns-then-byte-mark
returns-then-byte-mark c =
    rw (c.split_at.ensures.front, c.split_at-then-byte-mark.ensures.back)
    (sym (split_once-found c.args.mark c.args.text.now c.loop-index.index c.loop-index-test.true c.if-byte-mark.true)
    ∙ c.loop-index.invariant)
