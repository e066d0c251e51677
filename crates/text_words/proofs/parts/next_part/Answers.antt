use Rattle.std.proofs.Common.{sym, ◌∙◌}
use Rattle.text_words.proofs.PartsLaws.{part-found}
use Rattle.text_words.proofs.parts.next_part.Goals as goal

pub returns-then-not-quoted-clause-parts : goal.returns-then-not-quoted-clause-parts
returns-then-not-quoted-clause-parts c =
    rw (c.split_at.ensures.front, c.split_at-then-not-quoted.ensures.back)
    (sym c.loop-index.invariant
    ∙ part-found c.args.separators c.loop-index.quoted c.args.text.now c.loop-index.index c.loop-index-test.true
    (sym c.if-separates.ensures) c.if-not-quoted.true)
