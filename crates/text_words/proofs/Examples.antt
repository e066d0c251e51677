-- Worked examples: small texts.
use Rattle.std.proofs.Common.{◌≡◌, true, false, Some, None, [], ◌∷◌, codes, refl, arith}
use Rattle.text_words.specs.declared.separators.Separators.TheVariants.{CommandLine, Script, Byte}
use Rattle.text_words.specs.Parts.{separates, quotes, parts_in, text_before, split_once}
use Rattle.text_words.specs.Spelling.{HasWords, blank_first, word_alone, word_first, QuotesClose}
use Rattle.text_words.specs.Words.{words_in, unquote, IsClosed, IsWord}

-- a blank separates, and so do the bytes 0x09 to 0x0D of a command line; 0x08, 0x0E and 0xA0 don't
line_separators : (separates CommandLine 0x20 ≡ true) × (separates CommandLine 0x09 ≡ true) × (separates CommandLine 0x0D ≡ true)
    × (separates CommandLine 0x08 ≡ false) × (separates CommandLine 0x0E ≡ false) × (separates CommandLine 0xA0 ≡ false)
line_separators = (refl, refl, refl, refl, refl, refl)

-- in a script's line a newline and a form feed don't separate
script_separators : (separates Script 0x20 ≡ true) × (separates Script 0x09 ≡ true) × (separates Script 0x0D ≡ true)
    × (separates Script 0x0A ≡ false) × (separates Script 0x0C ≡ false)
script_separators = (refl, refl, refl, refl, refl)

-- only `"` opens a quotation, and only in a command line
quoting : (quotes CommandLine 34 ≡ true) × (quotes CommandLine 39 ≡ false) × (quotes Script 34 ≡ false) × (quotes (Byte 34) 34 ≡ false)
quoting = (refl, refl, refl, refl)

-- a part may be empty, even the last one
parts_between_commas : parts_in (Byte 44) (codes "2G@0,,4G@2G") ≡ codes "2G@0" ∷ [] ∷ codes "4G@2G" ∷ []
parts_between_commas = refl

trailing_comma : parts_in (Byte 44) (codes "2G@0,") ≡ codes "2G@0" ∷ [] ∷ []
trailing_comma = refl

-- a separator inside a quotation doesn't separate, and an unclosed quotation goes on to the end of
-- the text
quoted_blank : parts_in CommandLine (codes "a=\"b c\" d") ≡ codes "a=\"b c\"" ∷ codes "d" ∷ []
quoted_blank = refl

open_quotation : parts_in CommandLine (codes "a \"b c") ≡ codes "a" ∷ codes "\"b c" ∷ []
open_quotation = refl

-- a command line ends at the first zero byte, if it has one
before_zero : (text_before 0 (97 ∷ 98 ∷ 0 ∷ 99 ∷ 0 ∷ []) ≡ codes "ab") × (text_before 0 (codes "ab") ≡ codes "ab")
    × (text_before 0 (0 ∷ 97 ∷ []) ≡ [])
before_zero = (refl, refl, refl)

-- name and value, split at the first mark, which may be the first byte
cut_at_the_first : split_once 61 (codes "mem=1=2") ≡ Some (codes "mem", codes "1=2")
cut_at_the_first = refl

nothing_to_cut : split_once 61 (codes "quiet") ≡ None
nothing_to_cut = refl

-- several separators in a row make no empty words, and neither do those at the start or the end
words_of_a_line : words_in CommandLine (codes "\n quiet\t mem=4G ") ≡ codes "quiet" ∷ codes "mem=4G" ∷ []
words_of_a_line = refl

quotation_in_a_word : words_in CommandLine (codes "a=\"b  c\"d e") ≡ codes "a=\"b  c\"d" ∷ codes "e" ∷ []
quotation_in_a_word = refl

-- a mark only at the end stays; one only at the start is removed
unquoted_texts : (unquote (codes "\"a b\"") ≡ codes "a b")
    × (unquote (codes "\"a") ≡ codes "a") × (unquote (codes "a\"") ≡ codes "a\"") × (unquote (codes "\"") ≡ [])
    × (unquote (codes "\"\"") ≡ [])
unquoted_texts = (refl, refl, refl, refl, refl)

-- a text with a closed quotation is one part; a text with an open quotation, or with a blank,
-- isn't
closed_text : IsClosed CommandLine false (codes "a=\"b c\"")
closed_text = (refl, (refl, (refl, refl)))

open_text : IsClosed CommandLine false (codes "a\"b") → ⊥
open_text closed = let still : true ≡ false = closed.1.1 in cc still

blank_in_a_text : IsClosed CommandLine false (codes "a b") → ⊥
blank_in_a_text closed = let separated : true ≡ false = closed.1.0 in cc separated

spelled_word : IsWord CommandLine (codes "a=\"b c\"")
spelled_word = record { some = omega arith; closed = closed_text }

empty_is_no_word : IsWord CommandLine [] → ⊥
empty_is_no_word word = let some = word.some in omega arith

-- a text of two words with blanks around them, the second with a blank in a quotation; and a text
-- with a quotation that doesn't close
words_in_text_examples : HasWords CommandLine (codes " a \"b c\"") (codes "a" ∷ codes "\"b c\"" ∷ [])
    × (QuotesClose CommandLine false (codes "a \"b") → ⊥)
words_in_text_examples = (
  blank_first 32 (codes "a \"b c\"") (codes "a" ∷ codes "\"b c\"" ∷ []) refl
      (word_first (codes "a") 32 (codes "\"b c\"") (codes "\"b c\"" ∷ []) (record { some = omega arith; closed = (refl, refl) }) refl
      (word_alone (codes "\"b c\"") (record { some = omega arith; closed = (refl, refl) }))),
  λ close. cc close,
)
