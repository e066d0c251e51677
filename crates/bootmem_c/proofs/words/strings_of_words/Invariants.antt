-- The words so far became strings, so they are UTF-8.
use Rattle.std.proofs.Common.{◌≡◌, IsUtf8, map, string_bytes, take}
use Rattle.std.specs.List.{All}
use Rattle.bootmem_c.specs.Lent.{lent_words}
use Rattle.bootmem_c.proofs.words.strings_of_words.Given as goal

abbrev pub invariant-loop-word : goal.invariant-loop-word
invariant-loop-word l = record {
  texts : map string_bytes l.texts.items ≡ take l.word-index (lent_words l.words);
  utf8 : All IsUtf8 (take l.word-index (lent_words l.words));
}
