use Rattle.std.proofs.Common.{◌≡◌, take, drop}
use Rattle.std.specs.Option.{option_map}
use Rattle.text_words.specs.Parts.{split_once, prepend_text}
use Rattle.text_words.proofs.parts.split_once.Given as goal

abbrev pub invariant-loop-index : goal.invariant-loop-index
invariant-loop-index l =
    option_map (prepend_text (take l.index l.text)) (split_once l.mark (drop l.index l.text)) ≡ split_once l.mark l.text
