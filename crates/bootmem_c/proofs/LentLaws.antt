-- The list of lent files in the code, and as contracts see it.
use Rattle.std.proofs.Common.{◌≡◌, ℕ, suc, ◌+◌, ◌<◌, Bool, true, false, cond, List, [], ◌∷◌, ◌++◌, length, map, take, get_or, Some, find, String, string_bytes, Global, refl, sym, ap, subst, ◌∙◌, arith}
use Rattle.std.specs.List.{All}
use Rattle.std.specs.Option.{option_map}
use Rattle.std.specs.Str.{IsUtf8}
use Rattle.std.proofs.Math.Seq.{take-suc}
use Rattle.std.proofs.lemmas.List.{get_or-map, length-map, map-append}
use Rattle.std.proofs.lemmas.List.Elements.{All-get_or, All-push}
use Rattle.bm_io.specs.MemFiles.{file_bytes}
use Rattle.bootmem_c.specs.declared.crossing.Bytes.{Bytes}
use Rattle.bootmem_c.specs.declared.crossing.File.{File}
use Rattle.bootmem_c.specs.Fetches.{is_lent_as}
use Rattle.bootmem_c.specs.Lent.{lent_files, lent_word, lent_words}

-- with one more file in front, the search still finds the bytes that the definition gives for the
-- name
file_in_front : (f : File) (fs : List File) (name : List ℕ) (named : Bool)
    → option_map (λ f. f.bytes.now) (find (is_lent_as name) fs) ≡ file_bytes (lent_files fs) name
    → option_map (λ f. f.bytes.now) (cond named (Some f) (find (is_lent_as name) fs))
    ≡ cond named (Some f.bytes.now) (file_bytes (lent_files fs) name)
file_in_front f fs name true rest = refl
file_in_front f fs name false rest = rest

-- the bytes of a name are those of the first file that a search for the name finds
pub bytes_of_found : (files : List File) (name : List ℕ)
    → option_map (λ f. f.bytes.now) (find (is_lent_as name) files) ≡ file_bytes (lent_files files) name
bytes_of_found [] name = refl
bytes_of_found (f ∷ fs) name = file_in_front f fs name (is_lent_as name f) (bytes_of_found fs name)

-- the first i + 1 words are the first i words and the word at index i
word_more : (words : List Bytes) (i : ℕ) (d : Bytes) → i < length words
    → take (i + 1) (lent_words words) ≡ take i (lent_words words) ++ (get_or words i d).bytes.now ∷ []
word_more words i d below =
    let next : i + 1 ≡ suc i = omega arith in
    ap (λ (n : ℕ). take n (lent_words words)) next
    ∙ take-suc (lent_words words) i (lent_word d) (omega (arith, below, length-map words lent_word))
    ∙ ap (λ (word : List ℕ). take i (lent_words words) ++ word ∷ []) (get_or-map lent_word words i d (lent_word d) below)

pub texts_more : (before after : List (String Global)) (text : String Global) (words : List Bytes) (i : ℕ) (d : Bytes) → i < length words
    → string_bytes text ≡ (get_or words i d).bytes.now → after ≡ before ++ text ∷ []
    → map string_bytes before ≡ take i (lent_words words) → map string_bytes after ≡ take (i + 1) (lent_words words)
texts_more before after text words i d below is grew so_far =
    ap (map string_bytes) grew ∙ map-append string_bytes before (text ∷ [])
    ∙ rw (so_far, is) (sym (word_more words i d below))

pub utf8_more : (words : List Bytes) (i : ℕ) (d : Bytes) → i < length words → IsUtf8 (get_or words i d).bytes.now
    → All IsUtf8 (take i (lent_words words)) → All IsUtf8 (take (i + 1) (lent_words words))
utf8_more words i d below is so_far =
    subst (All IsUtf8) (sym (word_more words i d below))
    (All-push IsUtf8 (take i (lent_words words)) _ so_far is)

-- if one word isn't UTF-8, not all words are
pub not_all : (words : List Bytes) (i : ℕ) (d : Bytes) → i < length words → ¬ IsUtf8 (get_or words i d).bytes.now
    → ¬ All IsUtf8 (lent_words words)
not_all words i d below isnt all =
    isnt (subst IsUtf8 (get_or-map lent_word words i d (lent_word d) below)
    (All-get_or IsUtf8 (lent_words words) i (lent_word d) (omega (arith, below, length-map words lent_word)) all))
