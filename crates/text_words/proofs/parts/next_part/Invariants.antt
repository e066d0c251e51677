use Rattle.std.proofs.Common.{◌≡◌, take, drop}
use Rattle.text_words.specs.Parts.{parts_from, parts_in}
use Rattle.text_words.proofs.PartsLaws.{prepend_to_first_part}
use Rattle.text_words.proofs.parts.next_part.Given as goal

abbrev pub invariant-loop-index : goal.invariant-loop-index
invariant-loop-index l =
    prepend_to_first_part (take l.index l.text) (parts_from l.separators l.quoted (drop l.index l.text)) ≡ parts_in l.separators l.text
