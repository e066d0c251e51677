-- An edit of a list at or after an index is an edit of the part of the list that begins at the
-- index.
use Rattle.std.proofs.Common.{◌≡◌, ℕ, ◌+◌, ◌-◌, ◌≤◌, List, ◌∷◌, ◌++◌, length, take, drop, set, sym, ◌∙◌, ap, arith}
use Rattle.std.specs.Prelude.{insert}
use Rattle.std.specs.List.{copy_within}
use Rattle.std.proofs.lemmas.List.{append_assoc, drop-append-le, drop-drop, drop-set-add, drop-take, drop_at, length-drop, length-take-le, set-append_right, set_split}

module _ {X : Type 0} where
  -- the first i elements from the index on, followed by others
  pub drop-followed : (a i : ℕ) (ys rest : List X) → a + i ≤ length ys → drop a (take (a + i) ys ++ rest) ≡ take i (drop a ys) ++ rest
  drop-followed a i ys rest within =
      drop-append-le a (take (a + i) ys) rest (omega (arith, length-take-le (a + i) ys within)) ∙ ap (λ l. l ++ rest) (drop-take a i ys)

  -- inserting an element into the whole list inserts it into the part
  pub drop-insert : (a i : ℕ) (x : X) (ys : List X) → a + i ≤ length ys → drop a (insert ys (a + i) x)
      ≡ take i (drop a ys) ++ x ∷ drop i (drop a ys)
  drop-insert a i x ys within =
      drop-followed a i ys (x ∷ drop (a + i) ys) within ∙ ap (λ l. take i (drop a ys) ++ x ∷ l) (sym (drop-drop i a ys))

  -- removing n elements from the whole list removes them from the part
  pub drop-closed : (a i n : ℕ) (ys : List X) → a + i ≤ length ys → drop a (take (a + i) ys ++ drop (a + i + n) ys)
      ≡ take i (drop a ys) ++ drop (i + n) (drop a ys)
  drop-closed a i n ys within =
      let at : a + i + n ≡ a + (i + n) = omega arith in
      drop-followed a i ys (drop (a + i + n) ys) within
      ∙ ap (λ l. take i (drop a ys) ++ l) (ap (λ k. drop k ys) at ∙ sym (drop-drop (i + n) a ys))

  -- the first i elements move down by one, and an element is put after them
  pub drop-moved : (a front i : ℕ) (x : X) (ys : List X) → front ≡ a + 1 → front + i ≤ length ys
      → drop a (set (copy_within ys front (front + i) a) (a + i) x) ≡ take i (drop front ys) ++ x ∷ drop i (drop front ys)
  drop-moved a front i x ys is within =
      let moved : List X = take i (drop front ys) in
      let after : List X = drop (a + i) ys in
      let count : front + i - front ≡ i = omega arith in
      let len : length moved ≡ i = length-take-le i (drop front ys) (omega (arith, length-drop front ys)) in
      let next : a + i + 1 ≡ front + i = omega arith in
      let none : i - i ≡ 0 = omega arith in
      rw count (drop-set-add a ((take a ys ++ moved) ++ after) i x)
      ∙ ap (λ l. set l i x) (ap (drop a) (append_assoc (take a ys) moved after) ∙ drop_at (take a ys) (moved ++ after) a
      (length-take-le a ys (omega arith)))
      ∙ set-append_right moved after i i x len (omega arith)
      ∙ ap (λ l. moved ++ l) (ap (λ k. set after k x) none ∙ set_split after 0 x (omega (arith, length-drop (a + i) ys)))
      ∙ ap (λ l. moved ++ x ∷ l) (drop-drop 1 (a + i) ys ∙ ap (λ k. drop k ys) next ∙ sym (drop-drop i front ys))
