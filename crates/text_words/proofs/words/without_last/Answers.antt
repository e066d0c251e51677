use Rattle.std.proofs.Common.{◌≡◌, [], ◌∷◌, ◌++◌, sym, eq-eqb}
use Rattle.std.proofs.lemmas.Bool.{ne_eqb}
use Rattle.text_words.proofs.WordsLaws.{without_last-mark, without_last-other}
use Rattle.text_words.proofs.words.without_last.Goals as goal

pub returns-in-Some : goal.returns-in-Some
returns-in-Some c =
    let whole : c.args.text.now ≡ c.in-Some.front.now ++ (c.in-Some.last.now ∷ []) = c.in-Some.ensures.cases.0 in
    rw whole (sym (without_last-mark c.args.mark c.in-Some.front.now c.in-Some.last.now
    (eq-eqb c.in-Some.last.now c.args.mark c.if-last-mark.true)))

pub returns-in_default : goal.returns-in_default
returns-in_default c =
    let whole : c.args.text.now ≡ c.in-Some.front.now ++ (c.in-Some.last.now ∷ []) = c.in-Some.ensures.cases.0 in
    rw whole (sym (without_last-other c.args.mark c.in-Some.front.now c.in-Some.last.now
    (ne_eqb c.in-Some.last.now c.args.mark c.if-last-mark.false)))
