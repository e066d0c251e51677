-- Lemmas: what was read from a text is printed as the same text.
use Rattle.std.proofs.Common.{◌≡◌, ℕ, ◌*◌, ◌/◌, List, ◌++◌, ◌∷◌, [], map, Ok, refl, arith}
use Rattle.std.specs.List.{All}
use Rattle.audit_lines.specs.Blocks.{BlockLineView, bytes_of_block}
use Rattle.audit_lines.specs.Forms.{block_in, map_line_in}
use Rattle.audit_lines.specs.Reports.{report_of}
use Rattle.audit_lines.specs.declared.lines.MapLine.{MapLine}
use Rattle.report_memory.specs.Lines.{indexed_lines}
use Rattle.report_memory.specs.MapText.{map_line, map_text}
use Rattle.report_stages.specs.BlocksText.{block_line}
use Rattle.audit_roundtrip.specs.PrintedLines.{BeginsAtFrame, block_of_line, run_of_line}
use Rattle.audit_roundtrip.proofs.FormLaws.{block_words, map_words}
use Rattle.audit_roundtrip.proofs.LineReadLaws.{block_is, map_is}
use Rattle.audit_roundtrip.proofs.ReportReadLaws.{report_is}
use Rattle.audit_roundtrip.proofs.ToldLaws.{same_name}

map_lined : (n : ℕ) (l : MapLine) → Unit {0} → map_line n (run_of_line l) ≡ map_words l ++ (10 ∷ [])
map_lined n l any = rw (same_name l.kind) refl

pub map_printed : (bytes : List ℕ) (lines : List MapLine) → report_of map_line_in (λ l. l.range) bytes ≡ Ok lines
    → bytes ≡ map_text (map run_of_line lines)
map_printed bytes lines is =
    report_is map_line_in (λ l. l.range) map_words map_line run_of_line (λ l. Unit {0}) map_is map_lined bytes lines is (λ k d inside. tt)

block_lined : (n : ℕ) (b : BlockLineView) → BeginsAtFrame b → block_line n (block_of_line b) ≡ block_words b ++ (10 ∷ [])
block_lined n b at_frame =
    let at : 4096 * (b.at / 4096) ≡ b.at = omega (arith, at_frame) in rw at refl

pub blocks_printed : (bytes : List ℕ) (blocks : List BlockLineView) → report_of block_in bytes_of_block bytes ≡ Ok blocks
    → All BeginsAtFrame blocks → bytes ≡ indexed_lines block_line 0 (map block_of_line blocks)
blocks_printed bytes blocks is all =
    report_is block_in bytes_of_block block_words block_line block_of_line BeginsAtFrame block_is block_lined bytes blocks is all
