-- Lemmas: a report that is accepted is the printed text of its lines.
use Rattle.std.proofs.Common.{◌≡◌, ℕ, ◌+◌, ◌==◌, nat_lt, Bool, true, false, if◌then◌else◌, List, [], ◌∷◌, ◌++◌, map, Option, Some, None, Result, Ok, Err, refl, ap, ◌∙◌, sym, inl, inr, append_assoc}
use Rattle.std.specs.List.{All}
use Rattle.std.proofs.lemmas.Bool.{cases_Bool}
use Rattle.std.proofs.lemmas.Bool.Decides.{Decides-eqb}
use Rattle.std.proofs.lemmas.List.Elements.{All-head, All-tail}
use Rattle.bm_base.specs.Range.{RangeView, end_of}
use Rattle.bm_base.specs.ResultSteps.{◌>>=◌}
use Rattle.audit_lines.specs.Reports.{LinesAndRest, line_if_in_order, report_line_at, line_or_fault, report_from, report_of, split_lines, lines_with_byte, lines_with_newline}
use Rattle.audit_lines.specs.declared.report.LineFault.{LineFault}
use Rattle.audit_lines.specs.declared.report.LineFault.TheVariants as faults
use Rattle.report_memory.specs.Lines.{indexed_lines}

-- the text with these lines, each followed by a newline, and then these bytes
abbrev joined_by : List (List ℕ) → List ℕ → List ℕ
joined_by [] left = left
joined_by (t ∷ ts) left = t ++ (10 ∷ joined_by ts left)

abbrev join_split_lines : LinesAndRest → List ℕ
join_split_lines (texts, left) = joined_by texts left

joined_byte : (b : ℕ) (split : LinesAndRest) → join_split_lines (lines_with_byte b split) ≡ b ∷ join_split_lines split
joined_byte b ([], left) = refl
joined_byte b (t ∷ ts, left) = refl

joined_newline : (split : LinesAndRest) → join_split_lines (lines_with_newline split) ≡ 10 ∷ join_split_lines split
joined_newline (ts, left) = refl

bytes_joined : (bytes : List ℕ) → join_split_lines (split_lines bytes) ≡ bytes
unfolding split_lines
bytes_joined [] = refl
bytes_joined (b ∷ bs) =
    elim (cases_Bool (b == 10)) as (λ _. join_split_lines (split_lines (b ∷ bs)) ≡ b ∷ bs) [
      | inl newline ↦
          let ten : b ≡ 10 = (Decides-eqb b 10).0 newline in
          rw newline (joined_newline (split_lines bs) ∙ rw (bytes_joined bs, ten) refl)
      | inr other ↦ rw other (joined_byte b (split_lines bs) ∙ ap (λ (xs : List ℕ). b ∷ xs) (bytes_joined bs))
    ]

module _ {L X : Type 0} (form : ℕ → List ℕ → Option L) (extent : L → RangeView) (words : L → List ℕ) (line : ℕ → X → List ℕ) (back : L → X)
    (P : L → Type 0) (read : (index : ℕ) (text : List ℕ) (l : L) → form index text ≡ Some l → text ≡ words l)
    (lined : (n : ℕ) (l : L) → P l → line n (back l) ≡ words l ++ (10 ∷ [])) where
  ordered : (index : ℕ) (below : Bool) (other l : L)
      → ◌≡◌ {A = Result L LineFault} (if below then Err (faults.Order (index + 1)) else Ok other) (Ok l) → other ≡ l
  ordered index true other l is = cc
  ordered index false other l is = cc

  line_read : (index at : ℕ) (text : List ℕ) (found : Option L) (l : L) → form index text ≡ found
      → (line_or_fault form extent index found >>= line_if_in_order form extent index at) ≡ Ok l → text ≡ words l
  line_read index at text None l reads is = cc
  line_read index at text (Some other) l reads is =
      read index text other reads ∙ ap words (ordered index (nat_lt (extent other).base at) other l is)

  abbrev AreTheirs : List (List ℕ) → List ℕ → List L → Type 0
  AreTheirs texts left ls = (texts ≡ map words ls) × (left ≡ [])

  more : (texts : List (List ℕ)) (left text : List ℕ) (first : Result L LineFault) (rest : L → Result (List L) LineFault) (ls : List L)
      → ((l : L) → first ≡ Ok l → text ≡ words l) → ((l : L) (others : List L) → rest l ≡ Ok others → AreTheirs texts left others)
      → (first >>= λ l. rest l >>= λ others. Ok (l ∷ others)) ≡ Ok ls → AreTheirs (text ∷ texts) left ls
  more texts left text (Err fault) rest ls one others is = cc
  more texts left text (Ok l) rest ls one others is = by_rest (rest l) refl is
    where
      by_rest : (said : Result (List L) LineFault) → rest l ≡ said → (said >>= λ others. Ok (l ∷ others)) ≡ Ok ls
          → AreTheirs (text ∷ texts) left ls
      by_rest (Err fault) reads is = cc
      by_rest (Ok after) reads is =
          let same : l ∷ after ≡ ls = cc in
          let theirs = others l after reads in
          rw (← same) (rw (one l refl, theirs.0) refl, theirs.1)

  lines_are : (index at : ℕ) (texts : List (List ℕ)) (left : List ℕ) (ls : List L) → report_from form extent index at texts left ≡ Ok ls
      → AreTheirs texts left ls
  lines_are index at [] [] ls is = let none : [] ≡ ls = cc in rw (← none) (refl, refl)
  lines_are index at [] (b ∷ bs) ls is = cc
  lines_are index at (text ∷ texts) left ls is =
      more texts left text (report_line_at form extent index at text)
      (λ l. report_from form extent (index + 1) (end_of (extent l)) texts left) ls
      (λ l. line_read index at text (form index text) l refl)
      (λ l. lines_are (index + 1) (end_of (extent l)) texts left) is

  lines_text : (n : ℕ) (ls : List L) → All P ls → joined_by (map words ls) [] ≡ indexed_lines line n (map back ls)
  lines_text n [] all = refl
  lines_text n (l ∷ ls) all =
      ap (λ (xs : List ℕ). words l ++ (10 ∷ xs)) (lines_text (n + 1) ls (All-tail P l ls all))
      ∙ sym (append_assoc (words l) (10 ∷ []) (indexed_lines line (n + 1) (map back ls)))
      ∙ ap (λ (xs : List ℕ). xs ++ indexed_lines line (n + 1) (map back ls)) (sym (lined n l (All-head P l ls all)))

  pub report_is : (bytes : List ℕ) (ls : List L) → report_of form extent bytes ≡ Ok ls → All P ls
      → bytes ≡ indexed_lines line 0 (map back ls)
  report_is bytes ls is all =
      let theirs = lines_are 0 0 (split_lines bytes).0 (split_lines bytes).1 ls is in
      sym (bytes_joined bytes) ∙ parts (split_lines bytes) theirs.0 theirs.1 ∙ lines_text 0 ls all
    where
      parts : (split : LinesAndRest) → split.0 ≡ map words ls → split.1 ≡ [] → join_split_lines split ≡ joined_by (map words ls) []
      parts (texts, left) first last = rw (first, last) refl
