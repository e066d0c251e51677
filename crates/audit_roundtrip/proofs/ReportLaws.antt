-- Lemmas: if each line of a report is read back, the report is.
use Rattle.std.proofs.Common.{◌≡◌, ℕ, ◌+◌, ◌^◌, ◌<◌, ◌≤◌, nat_lt, false, List, [], ◌∷◌, ◌++◌, length, map, Option, Some, Ok, refl, ap, ◌∙◌, arith, append_assoc}
use Rattle.std.proofs.lemmas.Bool.Decides.{nat_tests}
use Rattle.bm_base.specs.Range.{RangeView, end_of}
use Rattle.audit_lines.specs.Lines.{StartFrom, AscendApart}
use Rattle.audit_lines.specs.Reports.{report_line_at, report_from, split_lines}
use Rattle.report_memory.specs.Lines.{indexed_lines}
use Rattle.audit_roundtrip.proofs.SplitLaws.{IsOneLine, split_first}

module _ {L X : Type 0} (form : ℕ → List ℕ → Option L) (extent : L → RangeView) (line text : ℕ → X → List ℕ) (seen : X → L) where
  -- at each index, the printed line of `x` is one line of text with its newline, and is read back
  -- as the line of `x`
  pub record IsReadBack (x : X) : Type 0 where
    pub ended : (n : ℕ) → line n x ≡ text n x ++ (10 ∷ [])
    pub one : (n : ℕ) → n < 2 ^ 64 → IsOneLine (text n x)
    pub read : (n : ℕ) → form n (text n x) ≡ Some (seen x)

  abbrev pub AreReadBack : List X → Type 0
  AreReadBack [] = Unit {0}
  AreReadBack (x ∷ xs) = IsReadBack x × AreReadBack xs

  line_is : (x : X) (n at : ℕ) → IsReadBack x → at ≤ (extent (seen x)).base → report_line_at form extent n at (text n x) ≡ Ok (seen x)
  line_is x n at back above =
      let order : nat_lt (extent (seen x)).base at ≡ false = grind (arith, nat_tests, above) in
      rw (back.read n, order) refl

  lines_split : (x : X) (n : ℕ) (rest : List ℕ) → n < 2 ^ 64 → IsReadBack x
      → split_lines (line n x ++ rest) ≡ (text n x ∷ (split_lines rest).0, (split_lines rest).1)
  lines_split x n rest small back =
      ap (λ (t : List ℕ). split_lines (t ++ rest)) (back.ended n) ∙ ap split_lines (append_assoc (text n x) (10 ∷ []) rest)
      ∙ split_first (text n x) rest (back.one n small)

  pub lines_read : (xs : List X) (n at : ℕ) → n + length xs ≤ 2 ^ 64 → AreReadBack xs
      → StartFrom at (map extent (map seen xs)) → AscendApart (map extent (map seen xs))
      → report_from form extent n at (split_lines (indexed_lines line n xs)).0 (split_lines (indexed_lines line n xs)).1 ≡ Ok (map seen xs)
  unfolding split_lines
  lines_read [] n at few back start order = refl
  lines_read (x ∷ xs) n at few back start order =
      rw (
        lines_split x n (indexed_lines line (n + 1) xs) (omega (arith, few)) back.0,
        line_is x n at back.0 start,
        lines_read xs (n + 1) (end_of (extent (seen x))) (omega (arith, few)) back.1 order.0 order.1,
      ) refl
