-- Lemmas on the lines of a list from element `i` on.
use Rattle.std.proofs.Common.{◌≡◌, ℕ, ◌+◌, ◌<◌, ◌≤◌, List, [], ◌++◌, length, drop, get_or, ap, add-one, drop-cons}
use Rattle.std.proofs.lemmas.List.{drop_all}
use Rattle.report_memory.specs.Lines.{indexed_lines}

module _ {X : Type 0} (line : ℕ → X → List ℕ) (items : List X) (i : ℕ) where
  -- these lines are the line of element `i`, and the lines from the next element on
  pub lines_at : (x d : X) → x ≡ get_or items i d → i < length items
      → indexed_lines line i (drop i items) ≡ line i x ++ indexed_lines line (i + 1) (drop (i + 1) items)
  lines_at x d is within = rw (drop-cons items i d within, is, add-one)

  -- after the last element there are no lines
  pub lines_end : length items ≤ i → indexed_lines line i (drop i items) ≡ []
  lines_end none = ap (λ (xs : List X). indexed_lines line i xs) (drop_all i items none)
