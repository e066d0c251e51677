-- The parts of a text, byte by byte. A text that is made of parts is split into these parts.
use Rattle.std.proofs.Common.{◌≡◌, ℕ, Bool, true, false, ◌&&◌, not, List, [], ◌∷◌, ◌++◌, refl, ap, sym, append_assoc, ◌+◌, ◌<◌, length, take, drop, get_or, Some, add-one, drop-cons, eq-eqb, suc}
use Rattle.std.specs.Option.{option_map}
use Rattle.std.proofs.Math.Bool.{and-false}
use Rattle.std.proofs.lemmas.List.{append-nil}
use Rattle.text_words.specs.declared.separators.Separators.{Separators}
use Rattle.text_words.specs.Parts.{separates, quoted_after, prepend_byte, parts_from, parts_in, prepend_text, split_once}
use Rattle.text_words.specs.Words.{IsClosed}

-- the parts with a text before them: it is prepended to the first part
abbrev pub prepend_to_first_part : List ℕ → List (List ℕ) → List (List ℕ)
prepend_to_first_part [] [] = []
prepend_to_first_part (b ∷ bs) [] = (b ∷ bs) ∷ []
prepend_to_first_part front (p ∷ ps) = (front ++ p) ∷ ps

-- prepending nothing changes nothing
pub prepend_to_first_part-nil : (ps : List (List ℕ)) → prepend_to_first_part [] ps ≡ ps
prepend_to_first_part-nil [] = refl
prepend_to_first_part-nil (p ∷ ps) = refl

-- prepending a text and then a byte prepends both
pub prepend_to_first_part-prepend_byte : (front : List ℕ) (b : ℕ) (ps : List (List ℕ))
    → prepend_to_first_part front (prepend_byte b ps) ≡ prepend_to_first_part (front ++ (b ∷ [])) ps
prepend_to_first_part-prepend_byte [] b [] = refl
prepend_to_first_part-prepend_byte (a ∷ front) b [] = refl
prepend_to_first_part-prepend_byte [] b (p ∷ ps) = refl
prepend_to_first_part-prepend_byte (a ∷ front) b (p ∷ ps) = ap (λ (part : List ℕ). (a ∷ part) ∷ ps) (sym (append_assoc front (b ∷ []) p))

-- a separator outside quotations ends the part
pub parts-end : (s : Separators) (quoted : Bool) (front : List ℕ) (b : ℕ) (rest : List ℕ)
    → separates s b ≡ true → quoted ≡ false → prepend_to_first_part front (parts_from s quoted (b ∷ rest)) ≡ front ∷ parts_in s rest
parts-end s true front b rest is closed = cc
parts-end s false [] b rest is closed = rw is refl
parts-end s false (a ∷ front) b rest is closed = rw is (ap (λ (part : List ℕ). (a ∷ part) ∷ parts_in s rest) (append-nil front))

-- any other byte belongs to the current part
pub parts-more : (s : Separators) (quoted : Bool) (front : List ℕ) (b : ℕ) (rest : List ℕ)
    → separates s b && not quoted ≡ false
    → prepend_to_first_part front (parts_from s quoted (b ∷ rest))
    ≡ prepend_to_first_part (front ++ (b ∷ [])) (parts_from s (quoted_after s quoted b) rest)
parts-more s quoted front b rest stays = rw stays (prepend_to_first_part-prepend_byte front b (parts_from s (quoted_after s quoted b) rest))

-- the end of the text ends the last part
pub parts-last : (s : Separators) (quoted : Bool) (front : List ℕ) → prepend_to_first_part front (parts_from s quoted []) ≡ front ∷ []
parts-last s quoted [] = refl
parts-last s quoted (a ∷ front) = ap (λ (part : List ℕ). (a ∷ part) ∷ []) (append-nil front)

-- a part whose quotations close ends before the next separator
pub parts-spelled : (s : Separators) (quoted : Bool) (part : List ℕ) (b : ℕ) (rest : List ℕ)
    → IsClosed s quoted part → separates s b ≡ true → parts_from s quoted (part ++ (b ∷ rest)) ≡ part ∷ parts_in s rest
parts-spelled s true [] b rest closed is = cc
parts-spelled s false [] b rest closed is = rw is refl
parts-spelled s true (a ∷ part) b rest closed is =
    rw (and-false (separates s a)) (ap (prepend_byte a) (parts-spelled s (quoted_after s true a) part b rest closed is))
parts-spelled s false (a ∷ part) b rest closed is =
    rw (closed.0) (ap (prepend_byte a) (parts-spelled s (quoted_after s false a) part b rest closed.1 is))

-- a text whose quotations close, with no separator outside them, is one part
pub parts-one : (s : Separators) (quoted : Bool) (part : List ℕ) → IsClosed s quoted part → parts_from s quoted part ≡ part ∷ []
parts-one s quoted [] closed = refl
parts-one s true (a ∷ part) closed =
    rw (and-false (separates s a)) (ap (prepend_byte a) (parts-one s (quoted_after s true a) part closed))
parts-one s false (a ∷ part) closed =
    rw (closed.0) (ap (prepend_byte a) (parts-one s (quoted_after s false a) part closed.1))

-- a text whose byte at `i` is the first `mark` is split there
pub split_once-found : (mark : ℕ) (text : List ℕ) (i : ℕ) → i < length text → get_or text i 0 ≡ mark
    → option_map (prepend_text (take i text)) (split_once mark (drop i text)) ≡ Some (take i text, drop (i + 1) text)
split_once-found mark text i inside is =
    rw (add-one, drop-cons text i 0, eq-eqb (get_or text i 0) mark is) (rw append-nil refl)

-- if the byte at `i` is the first separator outside quotations, the first part ends there
pub part-found : (s : Separators) (quoted : Bool) (text : List ℕ) (i : ℕ) → i < length text
    → separates s (get_or text i 0) ≡ true → quoted ≡ false
    → prepend_to_first_part (take i text) (parts_from s quoted (drop i text)) ≡ take i text ∷ parts_in s (drop (i + 1) text)
part-found s quoted text i inside is closed =
    rw (add-one, drop-cons text i 0) (parts-end s quoted (take i text) (get_or text i 0) (drop (suc i) text) is closed)
