-- Either one more word becomes a string, or it isn't UTF-8. After the last word all are strings.
use Rattle.std.proofs.Common.{◌≡◌, ap, arith, subst, Err}
use Rattle.std.specs.List.{All}
use Rattle.std.specs.Str.{IsUtf8}
use Rattle.std.proofs.lemmas.List.{length-map, take_all}
use Rattle.std.proofs.lemmas.Result.{err_from_is_err_and}
use Rattle.bootmem_c.specs.declared.words.StringsError.{StringsError}
use Rattle.bootmem_c.specs.declared.words.StringsError.TheVariants as errors
use Rattle.bootmem_c.specs.Lent.{lent_word}
use Rattle.bootmem_c.proofs.LentLaws.{not_all, texts_more, utf8_more}
use Rattle.bootmem_c.proofs.words.strings_of_words.Goals as goal

pub returns-in_err-string_of_word-clause-other : goal.returns-in_err-string_of_word-clause-other
returns-in_err-string_of_word-clause-other c = λ is.
    let p = err_from_is_err_and c.from_residual.result c.from_residual.ensures.1 in
    let same : c.in_err-string_of_word.field-0.0 ≡ errors.NotUtf8 = cc in
    not_all c.args.words.now _ _ c.loop-word-test.true (c.in_err-string_of_word.ensures.other (ap (λ (e : StringsError). Err e) same))

pub loop-word-preserved : goal.loop-word-preserved
loop-word-preserved c = record {
  texts = texts_more _ _ _ c.args.words.now _ _ c.loop-word-test.true c.in_ok-string_of_word.ensures.text c.in_ok-push.ensures.items
      c.loop-word.invariant.texts;
  utf8 = utf8_more c.args.words.now _ _ c.loop-word-test.true c.in_ok-string_of_word.ensures.utf8 c.loop-word.invariant.utf8;
}

pub returns-clause-utf8 : goal.returns-clause-utf8
returns-clause-utf8 c =
    subst (All IsUtf8) (take_all _ _ (omega (arith, c.loop-word-test.false, length-map c.args.words.now lent_word)))
    c.loop-word.invariant.utf8
