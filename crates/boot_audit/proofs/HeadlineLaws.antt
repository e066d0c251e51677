-- The outcome is `Sound` exactly if the texts are well-formed and their lines show that memory was
-- conserved.
use Rattle.std.proofs.Common.{◌≡◌, ℕ, ◌+◌, ◌-◌, ◌^◌, ◌&&◌, Bool, true, false, nat_le, nat_lt, if◌then◌else◌, List, [], ◌∷◌, length, map, codes, Option, Some, None, Result, Ok, Err, refl, ap, ◌∙◌, arith}
use Rattle.std.specs.List.{All}
use Rattle.std.proofs.lemmas.Bool.{and_parts}
use Rattle.std.proofs.lemmas.Bool.Decides.{nat_tests}
use Rattle.std.proofs.lemmas.List.Elements.{All-cons, All-nil}
use Rattle.bm_base.specs.Range.{RangeView, end_of}
use Rattle.bm_base.specs.ResultSteps.{◌>>=◌, map_error}
use Rattle.bm_base.specs.OptionSteps.{◌>>=◌ as ◌and_then◌}
use Rattle.bm_base.specs.Width.{address_limit_of}
use Rattle.audit_lines.specs.Blocks.{BlockLineView, IsBlockLine, bytes_of_block}
use Rattle.audit_lines.specs.Fields.{rest_after, is_at_end, number_in, address_in}
use Rattle.audit_lines.specs.Forms.{block_in, map_line_in, owner_line_in, zone_in}
use Rattle.audit_lines.specs.Lines.{AscendApart}
use Rattle.audit_lines.specs.Reports.{line_if_in_order, report_line_at, line_or_fault, report_from, report_of, split_lines}
use Rattle.audit_lines.specs.declared.lines.MapLine.{MapLine}
use Rattle.audit_lines.specs.declared.report.LineFault.{LineFault}
use Rattle.audit_lines.specs.declared.report.LineFault.TheVariants as line_faults
use Rattle.audit_lines.proofs.ReportLaws.{report_ascends}
use Rattle.boot_audit.specs.declared.failure.ReportFault.TheVariants as faults
use Rattle.program_end.specs.Program.{FileContents}
use Rattle.program_end.specs.declared.failure.Reason.TheVariants as reasons
use Rattle.boot_audit.specs.declared.failure.SavedReport.{SavedReport}
use Rattle.boot_audit.specs.declared.failure.SavedReport.TheVariants as reports
use Rattle.boot_audit.specs.declared.judgement.Verdict.TheVariants as verdicts
use Rattle.boot_audit.specs.Headline.{FilesConserveMemory}
use Rattle.boot_audit.specs.Outcome.{SavedView, lines_in_file, saved_in_files, audit_outcome, verdict_for_args}
use Rattle.boot_audit.specs.Reason.{AuditReason}
use Rattle.boot_audit.specs.Args.{AuditArgsView}
use Rattle.boot_audit.proofs.ConservedLaws.{conserved_says, reach_near, sound_says}
use Rattle.boot_audit.proofs.OrderLaws.{frames_ascend}

-- if a sequence of two steps returns a value, its first step did
step_some : {A B : Type 0} (first : Option A) (next : A → Option B) (b : B) (P : Type 0)
    → ((a : A) → next a ≡ Some b → P) → (first and_then next) ≡ Some b → P
step_some None next b P each is = cc
step_some (Some a) next b P each is = each a is

within : (c b : BlockLineView) (small : Bool) → (nat_le c.order 10 && nat_le (end_of (bytes_of_block c)) (2 ^ 52)) ≡ small
    → (if small then Some c else None) ≡ Some b → IsBlockLine b
within c b false tests is = cc
within c b true tests is =
    let same : c ≡ b = cc in
    let parts = and_parts (nat_le c.order 10) (nat_le (end_of (bytes_of_block c)) (2 ^ 52)) tests in
    rw (← same) (grind (arith, nat_tests, parts.0), grind (arith, nat_tests, parts.1))

-- a block that is read from a line of `blocks` has the bounds of `IsBlockLine`
block_fits : (index : ℕ) (text : List ℕ) (b : BlockLineView) → block_in index text ≡ Some b → IsBlockLine b
unfolding block_in
block_fits index text b is =
    step_some (rest_after (codes "node ") text) _ b (IsBlockLine b) (λ node_text.
    step_some (number_in (2 ^ 32 - 1) node_text) _ b (IsBlockLine b) (λ node.
    step_some (rest_after (codes " zone ") node.1) _ b (IsBlockLine b) (λ zone_text.
    step_some (zone_in zone_text) _ b (IsBlockLine b) (λ zone.
    step_some (rest_after (codes " order ") zone.1) _ b (IsBlockLine b) (λ order_text.
    step_some (number_in 10 order_text) _ b (IsBlockLine b) (λ order.
    step_some (rest_after (codes " ") order.1) _ b (IsBlockLine b) (λ at_text.
    step_some (address_in at_text) _ b (IsBlockLine b) (λ at.
    step_some (is_at_end at.1) _ b (IsBlockLine b) (λ nothing.
    within (record { node = node.0; zone = zone.0; order = order.0; at = at.0 }) b _ refl))))))))) is

module _ {L : Type 0} (form : ℕ → List ℕ → Option L) (extent : L → RangeView) (P : L → Type 0)
    (fits : (index : ℕ) (text : List ℕ) (line : L) → form index text ≡ Some line → P line) where
  ordered : (index : ℕ) (below : Bool) (other line : L)
      → ◌≡◌ {A = Result L LineFault} (if below then Err (line_faults.Order (index + 1)) else Ok other) (Ok line) → other ≡ line
  ordered index true other line is = cc
  ordered index false other line is = cc

  -- if every line that can be read has a property, all lines of a report have it
  line_fits : (index at : ℕ) (text : List ℕ) (read : Option L) (line : L) → form index text ≡ read
      → (line_or_fault form extent index read >>= line_if_in_order form extent index at) ≡ Ok line → P line
  line_fits index at text None line reads is = cc
  line_fits index at text (Some other) line reads is =
      let same : other ≡ line = ordered index (nat_lt (extent other).base at) other line is in
      fits index text line (reads ∙ ap (λ (l : L). Some l) same)

  lines_more : (first : Result L LineFault) (rest : L → Result (List L) LineFault) (lines : List L)
      → ((line : L) → first ≡ Ok line → P line) → ((line : L) (others : List L) → rest line ≡ Ok others → All P others)
      → (first >>= λ line. rest line >>= λ others. Ok (line ∷ others)) ≡ Ok lines → All P lines
  lines_more (Err fault) rest lines one others is = cc
  lines_more (Ok line) rest lines one others is = by_rest (rest line) refl is
    where
      by_rest : (read : Result (List L) LineFault) → rest line ≡ read → (read >>= λ others. Ok (line ∷ others)) ≡ Ok lines → All P lines
      by_rest (Err fault) reads is = cc
      by_rest (Ok rest_after) reads is =
          let same : line ∷ rest_after ≡ lines =
          cc in rw (← same) (All-cons P line rest_after (one line refl) (others line rest_after reads))

  lines_fit : (index at : ℕ) (texts : List (List ℕ)) (left : List ℕ) (lines : List L)
      → report_from form extent index at texts left ≡ Ok lines → All P lines
  lines_fit index at [] [] lines is = let none : [] ≡ lines = cc in rw (← none) (All-nil P)
  lines_fit index at [] (b ∷ bs) lines is = cc
  lines_fit index at (text ∷ texts) left lines is =
      lines_more (report_line_at form extent index at text)
      (λ line. report_from form extent (index + 1) (end_of (extent line)) texts left) lines
      (λ line. line_fits index at text (form index text) line refl)
      (λ line. lines_fit (index + 1) (end_of (extent line)) texts left) is

-- lines that were read are those of some bytes
read_of : {L : Type 0} (form : ℕ → List ℕ → Option L) (extent : L
    → RangeView) (report : SavedReport) (held : Option (List ℕ)) (lines : List L)
    → lines_in_file form extent report held ≡ Ok lines → (bytes : List ℕ) × (report_of form extent bytes ≡ Ok lines)
read_of form extent report None lines is = cc
read_of form extent report (Some bytes) lines is = (bytes, by_length (nat_lt 536870912 (length bytes)) (report_of form extent bytes) is)
  where
    by_length : (long : Bool) (said : Result (List _) LineFault)
        → ◌≡◌ {A = Result (List _) AuditReason} (if long then Err (reasons.Faulty report faults.TooLong)
        else map_error (λ fault. reasons.Faulty report (faults.Line fault)) said) (Ok lines) → said ≡ Ok lines
    by_length true said is = cc
    by_length false (Ok some) is = let same : some ≡ lines = cc in rw same refl
    by_length false (Err fault) is = cc

-- the blocks are ascending, disjoint, and within the bounds of `IsBlockLine`
abbrev AreGood : List BlockLineView → Type 0
AreGood blocks = AscendApart (map bytes_of_block blocks) × All IsBlockLine blocks

good_blocks : (held : Option (List ℕ)) (blocks : List BlockLineView) → lines_in_file block_in bytes_of_block reports.Blocks held ≡ Ok blocks
    → AreGood blocks
good_blocks held blocks is =
    let read = read_of block_in bytes_of_block reports.Blocks held blocks is in
    let split = split_lines read.0 in (
      (report_ascends block_in bytes_of_block 0 0 split.0 split.1 blocks read.1).1,
      lines_fit block_in bytes_of_block IsBlockLine block_fits 0 0 split.0 split.1 blocks read.1,
    )

good_lines : (held : FileContents) (args : AuditArgsView) (lines : SavedView) → saved_in_files held args ≡ Ok lines
    → AreGood lines.blocks
good_lines held args lines is =
    by_map (lines_in_file map_line_in (λ l. l.range) reports.Map (held args.map_name))
    (lines_in_file owner_line_in (λ r. r) reports.Owners (held args.owners_name))
    (lines_in_file block_in bytes_of_block reports.Blocks (held args.blocks_name)) refl is
  where
    by_map : (m : Result (List MapLine) AuditReason) (o : Result (List RangeView) AuditReason) (b : Result (List BlockLineView) AuditReason)
        → lines_in_file block_in bytes_of_block reports.Blocks (held args.blocks_name) ≡ b
        → (m >>= λ map_lines. o >>= λ owners. b >>= λ blocks.
        Ok (record { map_lines = map_lines; owners = owners; blocks = blocks })) ≡ Ok lines
        → AreGood lines.blocks
    by_map (Err reason) o b reads is = cc
    by_map (Ok m) (Err reason) b reads is = cc
    by_map (Ok m) (Ok o) (Err reason) reads is = cc
    by_map (Ok m) (Ok o) (Ok b) reads is =
        let blocks : b ≡ lines.blocks = cc in
        rw (← blocks) (good_blocks (held args.blocks_name) b reads)

pub sound_conserved : (accepted : Option AuditArgsView) (held : FileContents) → audit_outcome accepted held ≡ Ok verdicts.Sound
    → FilesConserveMemory accepted held
sound_conserved None held is = cc
sound_conserved (Some args) held is = by_lines (saved_in_files held args) refl is
  where
    by_lines : (said : Result SavedView AuditReason) → saved_in_files held args ≡ said
        → (said >>= λ lines. Ok (verdict_for_args args lines)) ≡ Ok verdicts.Sound → FilesConserveMemory (Some args) held
    by_lines (Err reason) reads is = cc
    by_lines (Ok lines) reads is =
        let good = good_lines held args lines reads in
        let sound : verdict_for_args args lines ≡ verdicts.Sound = cc in
        record {
          args = args;
          lines = lines;
          args_read = refl;
          texts = reads;
          conserved = sound_says (address_limit_of args.width) lines.map_lines lines.owners lines.blocks (reach_near args.width)
              (frames_ascend lines.blocks good.0) good.1 sound;
        }

pub conserved_sound : (accepted : Option AuditArgsView) (held : FileContents) → FilesConserveMemory accepted held
    → audit_outcome accepted held ≡ Ok verdicts.Sound
conserved_sound accepted held kept =
    let good = good_lines held kept.args kept.lines kept.texts in
    let sound : verdict_for_args kept.args kept.lines ≡ verdicts.Sound =
    conserved_says (address_limit_of kept.args.width) kept.lines.map_lines kept.lines.owners kept.lines.blocks
    (reach_near kept.args.width)
    (frames_ascend kept.lines.blocks good.0) good.1 kept.conserved in
    rw (kept.args_read, kept.texts, sound) refl
