-- Inserting and removing records: what it does to the list of records and to their runs.
use Rattle.std.proofs.Common.{◌≡◌, ℕ, zero, suc, ◌+◌, ◌-◌, ◌≤◌, List, [], ◌∷◌, ◌++◌, length, take, drop, map, refl, sym, ◌∙◌, ap, arith}
use Rattle.std.specs.List.{copy_within}
use Rattle.std.proofs.lemmas.List.{map-append, take-map, take_at, drop_at, take_rest, length-drop, length-take-le, length_push, append_assoc}
use Rattle.std.proofs.lemmas.List.Edits.{take-paste}

drop-map : {S R : Type 0} (run : S → R) (n : ℕ) (xs : List S) → drop n (map run xs) ≡ map run (drop n xs)
drop-map run zero xs = refl
drop-map run (suc n) [] = refl
drop-map run (suc n) (x ∷ xs) = drop-map run n xs

-- inserting a record inserts its run at the same index
pub map_insert : {S R : Type 0} (run : S → R) (i : ℕ) (s : S) (xs : List S) → map run (take i xs ++ s ∷ drop i xs) ≡ take i (map run xs)
    ++ run s ∷ drop i (map run xs)
map_insert run i s xs = map-append run (take i xs) (s ∷ drop i xs) ∙ rw (take-map run i xs, drop-map run i xs) refl

-- removing n records moves those after them down by n places
pub closed : {S : Type 0} (i n count : ℕ) (xs : List S) → count ≡ length xs → i + n ≤ count
    → take (count - n) (copy_within xs (i + n) count i) ≡ take i xs ++ drop (i + n) xs
closed i n count xs is fits =
    let left : ℕ = count - (i + n) in
    let all : count - n ≡ i + left = omega arith in
    let after : left ≡ length xs - (i + n) = omega arith in
    let enough : left ≤ length (drop (i + n) xs) = omega (arith, length-drop (i + n) xs) in
    ap (λ (k : ℕ). take k (copy_within xs (i + n) count i)) all
    ∙ take-paste xs i (drop (i + n) xs) left (omega arith) enough
    ∙ ap (λ rest. take i xs ++ rest) (ap (λ (k : ℕ). take k (drop (i + n) xs)) after ∙ take_rest xs (i + n))

pub map_closed : {S R : Type 0} (run : S → R) (i n : ℕ) (xs : List S) → map run (take i xs ++ drop (i + n) xs) ≡ take i (map run xs)
    ++ drop (i + n) (map run xs)
map_closed run i n xs = map-append run (take i xs) (drop (i + n) xs) ∙ rw (take-map run i xs, drop-map run (i + n) xs) refl

-- after an insertion, the first i + 1 records are the old first i and the new one
pub take_insert : {R : Type 0} (i : ℕ) (r : R) (xs : List R) → i ≤ length xs → take (i + 1) (take i xs ++ r ∷ drop i xs) ≡ take i xs
    ++ r ∷ []
take_insert i r xs within =
    let len : length (take i xs ++ r ∷ []) ≡ i + 1 = grind (arith, length-take-le i xs within, length_push (take i xs) r) in
    ap (λ l. take (i + 1) l) (sym (append_assoc (take i xs) (r ∷ []) (drop i xs))) ∙ take_at (take i xs ++ r ∷ []) (drop i xs) (i + 1) len

pub drop_insert : {R : Type 0} (i : ℕ) (r : R) (xs : List R) → i ≤ length xs → drop (i + 1) (take i xs ++ r ∷ drop i xs) ≡ drop i xs
drop_insert i r xs within =
    let len : length (take i xs ++ r ∷ []) ≡ i + 1 = grind (arith, length-take-le i xs within, length_push (take i xs) r) in
    ap (λ l. drop (i + 1) l) (sym (append_assoc (take i xs) (r ∷ []) (drop i xs))) ∙ drop_at (take i xs ++ r ∷ []) (drop i xs) (i + 1) len
