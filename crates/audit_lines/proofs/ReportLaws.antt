-- Lemmas on reading the lines of a report one after another.
use Rattle.std.proofs.Common.{◌≡◌, ℕ, ◌+◌, ◌<◌, ◌≤◌, nat_lt, List, [], ◌∷◌, ◌++◌, length, map, Option, Some, None, Result, Ok, Err, refl, sym, ap, ◌∙◌, inl, inr, arith, append_assoc, append-nil}
use Rattle.std.proofs.lemmas.Bool.{cases_Bool}
use Rattle.std.proofs.lemmas.Bool.Decides.{nat_tests}
use Rattle.bm_base.specs.Range.{RangeView, end_of}
use Rattle.bm_base.specs.ResultSteps.{◌>>=◌}
use Rattle.audit_lines.specs.Lines.{StartFrom, AscendApart}
use Rattle.audit_lines.specs.declared.report.LineFault.{LineFault}
use Rattle.audit_lines.specs.Reports.{LinesAndRest, report_line_at, line_or_fault, line_if_in_order, no_lines_if_ended, report_from}

-- the result with these lines put before its own, or its fault
abbrev pub in_front : {L : Type 0} → List L → Result (List L) LineFault → Result (List L) LineFault
in_front front (Ok lines) = Ok (front ++ lines)
in_front front (Err fault) = Err fault

module _ {L : Type 0} (form : ℕ → List ℕ → Option L) (extent : L → RangeView) where
  -- at the start no line has been read
  pub none_read : (answer : Result (List L) LineFault) → in_front [] answer ≡ answer
  none_read (Ok lines) = refl
  none_read (Err fault) = refl

  more_in_front : (front : List L) (line : L) (answer : Result (List L) LineFault)
      → in_front front (answer >>= λ others. Ok (line ∷ others)) ≡ in_front (front ++ (line ∷ [])) answer
  more_in_front front line (Ok lines) = ap (λ (ls : List L). Ok ls) (sym (append_assoc front (line ∷ []) lines))
  more_in_front front line (Err fault) = refl

  -- one more line is read
  pub line_read : (front : List L) (index at : ℕ) (split : LinesAndRest) (text : List ℕ) (texts : List (List ℕ)) (left : List ℕ) (line : L)
      (said : Result (List L) LineFault)
      → split ≡ (text ∷ texts, left) → report_line_at form extent index at text ≡ Ok line
      → in_front front (report_from form extent index at split.0 split.1) ≡ said
      → in_front (front ++ (line ∷ [])) (report_from form extent (index + 1) (end_of (extent line)) texts left) ≡ said
  line_read front index at split text texts left line said splits is so =
      sym (more_in_front front line (report_from form extent (index + 1) (end_of (extent line)) texts left))
      ∙ (rw is at (rw splits at so))

  -- if the next line has a fault, it is the fault of the report
  pub line_faulty : (front : List L) (index at : ℕ) (split : LinesAndRest) (text : List ℕ) (texts : List (List ℕ)) (left : List ℕ)
      (fault : LineFault)
      (said : Result (List L) LineFault)
      → split ≡ (text ∷ texts, left) → report_line_at form extent index at text ≡ Err fault
      → in_front front (report_from form extent index at split.0 split.1) ≡ said → said ≡ Err fault
  line_faulty front index at split text texts left fault said splits is so = sym (rw is at (rw splits at so))

  -- if no line and no byte is left, the lines so far are all lines of the report
  pub lines_end : (front : List L) (index at : ℕ) (split : LinesAndRest) (said : Result (List L) LineFault)
      → split ≡ ([], []) → in_front front (report_from form extent index at split.0 split.1) ≡ said → said ≡ Ok front
  lines_end front index at split said splits so = sym (rw splits at so) ∙ ap (λ (ls : List L). Ok ls) (append-nil front)

  -- if bytes without a newline are left, the report has the fault of a line without a newline
  pub line_open : (front : List L) (index at : ℕ) (split : LinesAndRest) (left : List ℕ) (said : Result (List L) LineFault)
      → split ≡ ([], left) → 0 < length left → in_front front (report_from form extent index at split.0 split.1) ≡ said
      → said ≡ no_lines_if_ended form extent index left
  line_open front index at split [] said splits some so = absurd (omega arith)
  line_open front index at split (b ∷ bs) said splits some so = sym (rw splits at so)

  -- a line that was accepted begins at or above the end of the line before it
  at_or_after : (index at : ℕ) (text : List ℕ) (read : Option L) (line : L)
      → (line_or_fault form extent index read >>= line_if_in_order form extent index at) ≡ Ok line → at ≤ (extent line).base
  at_or_after index at text None line is = cc
  at_or_after index at text (Some other) line is =
      elim (cases_Bool (nat_lt (extent other).base at)) as (λ _. at ≤ (extent line).base) [
        | inl below ↦ let wrong : ◌≡◌ {A = Result L LineFault} _ (Ok line) = rw below at is in cc
        | inr above ↦
            let same : ◌≡◌ {A = Result L LineFault} (Ok other) (Ok line) = rw above at is in
            let line_is : other ≡ line = cc in
            rw (← line_is) (grind (arith, nat_tests))
      ]

  -- the lines that were read ascend from `at` on
  abbrev AscendFrom : ℕ → List L → Type 0
  AscendFrom at lines = StartFrom at (map extent lines) × AscendApart (map extent lines)

  none_ascend : (index at : ℕ) (left : List ℕ) (lines : List L) → no_lines_if_ended form extent index left ≡ Ok lines → AscendFrom at lines
  none_ascend index at [] [] is = (tt, tt)
  none_ascend index at [] (line ∷ lines) is = cc
  none_ascend index at (b ∷ bs) lines is = cc

  ascend_more : (at : ℕ) (line : L) (others lines : List L) → at ≤ (extent line).base → AscendFrom (end_of (extent line)) others
      → ◌≡◌ {A = Result (List L) LineFault} (Ok (line ∷ others)) (Ok lines) → AscendFrom at lines
  ascend_more at line others lines above rest is =
      let same : line ∷ others ≡ lines = cc in rw (← same) (above, (rest.0, rest.1))

  both_ascend : (index at : ℕ) (text : List ℕ) (texts : List (List ℕ)) (left : List ℕ) (first : Result L LineFault)
      → report_line_at form extent index at text ≡ first
      → ((line : L) (others : List L) → report_from form extent (index + 1) (end_of (extent line)) texts left ≡ Ok others
      → AscendFrom (end_of (extent line)) others)
      → (lines : List L) → (first >>= λ line. report_from form extent (index + 1) (end_of (extent line)) texts left
      >>= λ others. Ok (line ∷ others)) ≡ Ok lines → AscendFrom at lines
  both_ascend index at text texts left (Err fault) read step lines is = cc
  both_ascend index at text texts left (Ok line) read step lines is =
      after (report_from form extent (index + 1) (end_of (extent line)) texts left) refl is
    where
      after : (rest : Result (List L) LineFault) → report_from form extent (index + 1) (end_of (extent line)) texts left ≡ rest
          → (rest >>= λ others. Ok (line ∷ others)) ≡ Ok lines → AscendFrom at lines
      after (Err fault) rest_is is = cc
      after (Ok others) rest_is is =
          ascend_more at line others lines (at_or_after index at text (form index text) line read) (step line others rest_is) is

  pub report_ascends : (index at : ℕ) (texts : List (List ℕ)) (left : List ℕ) (lines : List L)
      → report_from form extent index at texts left ≡ Ok lines → AscendFrom at lines
  report_ascends index at [] left lines is = none_ascend index at left lines is
  report_ascends index at (text ∷ texts) left lines is =
      both_ascend index at text texts left (report_line_at form extent index at text) refl
      (λ line others. report_ascends (index + 1) (end_of (extent line)) texts left others) lines is
