use Rattle.std.proofs.Common.{◌≡◌, ◌∷◌, ◌++◌, [], List, ℕ, Some, sym, ap, ◌∙◌}
use Rattle.text_words.specs.declared.separators.Separators.TheVariants.{Byte}
use Rattle.text_words.specs.Parts.{parts_of_rest}
use Rattle.text_words.proofs.WordsLaws.{text_of}
use Rattle.boot_options.specs.Crash.{crash_range_of, crash_ranges_of}
use Rattle.boot_options.proofs.CrashLaws.{ranges_before, ranges_before-one}
use Rattle.boot_options.proofs.crash.read_ranges.Goals as goal

pub loop-rest-preserved : goal.loop-rest-preserved
loop-rest-preserved c =
    let kept = c.loop-rest.invariant.0 in
    let so_far = c.loop-rest.invariant.2 in
    let text = c.next_part.result.0.now in
    let range = c.in-Some-read_range.range in
    let texts : List (List ℕ) = parts_of_rest (Byte 44) (text_of c.next_part.result.1) in
    let is : crash_range_of text ≡ Some range = sym c.in-Some-read_range.ensures in
    let parts : parts_of_rest (Byte 44) (text_of c.loop-rest.rest) ≡ text ∷ texts = rw c.in-Some.is c.next_part.ensures.parts in (
      kept ++ range ∷ [],
      c.append_item.ensures kept c.loop-rest.invariant.1,
      ranges_before-one kept text texts range is
          ∙ ap (λ (ts : List (List ℕ)). ranges_before kept (crash_ranges_of ts)) (sym parts) ∙ so_far,
    )
