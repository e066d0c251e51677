use Rattle.std.proofs.Common.{◌≡◌, ◌++◌, take, drop}
use Rattle.text_words.specs.Parts.{text_before}
use Rattle.text_words.proofs.parts.text_before.Given as goal

abbrev pub invariant-loop-index : goal.invariant-loop-index
invariant-loop-index l = take l.index l.text ++ text_before l.mark (drop l.index l.text) ≡ text_before l.mark l.text
