-- Worked examples: fields, names, lines and reports.
use Rattle.std.proofs.Common.{◌≡◌, ℕ, ◌≤◌, false, List, [], ◌∷◌, codes, Some, None, Ok, Err, Option, refl, arith}
use Rattle.bm_base.specs.Range.{RangeView}
use Rattle.bm_base.specs.declared.zone.Zone.TheVariants as zones
use Rattle.audit_lines.specs.Fields.{rest_after, number_in, range_from_bytes}
use Rattle.audit_lines.specs.Forms.{is_exactly, zone_in}
use Rattle.audit_lines.specs.Lines.{AscendApart}
use Rattle.audit_lines.specs.Reports.{report_of, split_lines}
use Rattle.audit_lines.specs.declared.report.LineFault.TheVariants as faults

-- a number has no leading zeros: `07` is the number 0, and the 7 is left
leading_zero : number_in 10 (codes "07") ≡ Some (0, codes "7")
unfolding number_in
leading_zero = refl

-- a range isn't accepted if its last byte is below its first
backwards : range_from_bytes 4096 4095 ≡ None
backwards = refl

-- the name of an owner must match entirely
longer_name : is_exactly (codes "crash") (codes "crash-low") ≡ false
unfolding is_exactly rest_after
longer_name = refl

-- `DMA32` is one name, although it begins like `DMA`
zone_32 : zone_in (codes "DMA32 o") ≡ Some (zones.Dma32, codes " o")
unfolding zone_in rest_after
zone_32 = refl

-- a text is split at its newlines; what follows the last newline is left
two_lines : split_lines (codes "a\n\nb") ≡ (codes "a" ∷ [] ∷ [], codes "b")
unfolding split_lines
two_lines = refl

-- A form of line for the next examples: one byte, which is the line's address. In "ba" the second
-- line begins below the first.
abbrev letter : ℕ → List ℕ → Option RangeView
letter index [] = None
letter index (b ∷ []) = Some (record { base = b; size = 1 })
letter index (b ∷ c ∷ cs) = None

in_letters : report_of letter (λ r. r) (codes "a\nb\n") ≡ Ok (record { base = 97; size = 1 } ∷ record { base = 98; size = 1 } ∷ [])
unfolding split_lines
in_letters = refl

out_of_order : report_of letter (λ r. r) (codes "b\na\n") ≡ Err (faults.Order 2)
unfolding split_lines
out_of_order = refl

-- the form is checked before the order, and of several faults the lowest line's counts
form_first : report_of letter (λ r. r) (codes "b\n\na\n") ≡ Err (faults.Form 2)
unfolding split_lines
form_first = refl

no_newline : report_of letter (λ r. r) (codes "a\nb") ≡ Err (faults.Form 2)
unfolding split_lines
no_newline = refl

-- ranges that touch are disjoint; ranges that share a byte aren't
touching : AscendApart (record { base = 0; size = 4 } ∷ record { base = 4; size = 4 } ∷ [])
touching = (omega arith, (tt, tt))

sharing : AscendApart (record { base = 0; size = 5 } ∷ record { base = 4; size = 4 } ∷ []) → ⊥
sharing order = let first : 5 ≤ 4 = order.0 in omega arith
