-- The reports of a boot are read back as its lines, and pass the audit.
use Rattle.std.proofs.Common.{◌≡◌, ℕ, nat_lt, false, List, length, map, Option, Some, Ok, refl, sym, subst, arith}
use Rattle.std.proofs.lemmas.Bool.Decides.{nat_tests}
use Rattle.bm_base.specs.Range.{RangeView}
use Rattle.bm_base.specs.Width.{address_limit_of}
use Rattle.bm_base.specs.declared.width.Width.{Width}
use Rattle.address_runs.specs.Runs.{AreRuns, RunOf, range_of_run}
use Rattle.audit_lines.specs.Blocks.{bytes_of_block}
use Rattle.audit_lines.specs.Forms.{block_in, map_line_in, owner_line_in}
use Rattle.audit_lines.specs.Lines.{AscendApart}
use Rattle.audit_lines.specs.Reports.{report_of}
use Rattle.audit_roundtrip.specs.PrintedLines.{line_of_block, line_of_run}
use Rattle.audit_roundtrip.proofs.ToldLaws.{blocks_back, map_back, owners_back}
use Rattle.boot_audit.specs.Conserved.{LinesConserveMemory}
use Rattle.boot_audit.specs.Headline.{FilesConserveMemory}
use Rattle.boot_audit.specs.Outcome.{SavedView, lines_in_file, saved_in_files}
use Rattle.program_end.specs.Program.{FileContents}
use Rattle.boot_audit.specs.Args.{AuditArgsView}
use Rattle.boot_audit.specs.declared.failure.SavedReport.{SavedReport as Saved}
use Rattle.boot_audit.specs.declared.failure.SavedReport.TheVariants as saved
use Rattle.boot_model.specs.Boot.{InputsView, BootedView, claims, whole_boot, no_extra}
use Rattle.boot_model.proofs.BootLaws.{goes_on, map_between}
use Rattle.conservation.specs.Headline.{booted_blocks}
use Rattle.conservation.proofs.HeadlineLaws.{below}
use Rattle.conservation.proofs.ToldLaws.{IsReportOfBoot, is_told_of, own_told}
use Rattle.debugfs_reports.specs.Report.{report_text}
use Rattle.debugfs_reports.specs.declared.report.Report.TheVariants as reports
use Rattle.memblock_model.specs.Items.{owner_runs_of}
use Rattle.memblock_model.specs.declared.owner.Owner.{Owner}
use Rattle.audit_soundness.specs.Saved.{AreSaved, IsSaved}
use Rattle.audit_soundness.specs.PrintableBoots.{IsPrintableBoot}
use Rattle.audit_soundness.proofs.OrderLaws.{blocks_ascend, blocks_few, blocks_told, few_runs, runs_ascend}
use Rattle.audit_soundness.proofs.ValueLaws.{lines_conserved, owner_runs}

-- a file that contains a whole text gives the lines of that text
read_saved : {L : Type 0} (form : ℕ → List ℕ → Option L) (extent : L → RangeView) (report : Saved) (held : Option (List ℕ)) (text : List ℕ)
    (lines : List L) → IsSaved held text → report_of form extent text ≡ Ok lines → lines_in_file form extent report held ≡ Ok lines
read_saved form extent report held text lines is read =
    let short : nat_lt 536870912 (length text) ≡ false = (let few = is.short in grind (arith, nat_tests)) in
    rw (is.holds, short, read) refl

pub map_runs : (inputs : InputsView) (booted : BootedView) → whole_boot inputs ≡ Ok booted → AreRuns booted.map
map_runs inputs booted ends =
    let of : IsReportOfBoot no_extra inputs booted = is_told_of no_extra inputs booted (own_told booted inputs ends) in
    subst (λ (t : BootedView). AreRuns t.map) of.tells
    (subst (λ (rs : List (RunOf ℕ)). AreRuns rs) (sym (goes_on no_extra inputs of.made of.boots).map) (map_between (claims inputs)).runs)

module _ (inputs : InputsView) (booted : BootedView) (ends : whole_boot inputs ≡ Ok booted) (can : IsPrintableBoot booted) where
  pub map_read : report_of map_line_in (λ l. l.range) (report_text reports.Map booted) ≡ Ok (map line_of_run booted.map)
  map_read =
      let order : AscendApart (map range_of_run booted.map) = runs_ascend booted.map (map_runs inputs booted ends) in
      map_back booted.map (few_runs booted.map order (λ k d inside. (can.map k d inside).0)) can.map order

  pub owners_read : report_of owner_line_in (λ r. r) (report_text reports.Owners booted)
      ≡ Ok (map range_of_run (owner_runs_of booted.items))
  owners_read =
      let rs : List (RunOf Owner) = owner_runs_of booted.items in
      let order : AscendApart (map range_of_run rs) = runs_ascend rs (owner_runs booted.items can.within).runs in
      owners_back rs (few_runs rs order (λ k d inside. (can.owners k d inside).0)) can.owners order

  pub blocks_read : report_of block_in bytes_of_block (report_text reports.Blocks booted) ≡ Ok (map line_of_block (booted_blocks booted))
  blocks_read =
      blocks_back (booted_blocks booted) (blocks_few booted.free (below no_extra inputs booted (own_told booted inputs ends)))
      (blocks_told inputs booted ends)
      (blocks_ascend booted.free)

  module _ (held : FileContents) (args : AuditArgsView) (is : AreSaved held args booted) where
    abbrev told_lines : SavedView
    told_lines = record {
      map_lines = map line_of_run booted.map;
      owners = map range_of_run (owner_runs_of booted.items);
      blocks = map line_of_block (booted_blocks booted);
    }

    lines_told : saved_in_files held args ≡ Ok told_lines
    lines_told =
        rw (
          read_saved map_line_in (λ l. l.range) saved.Map (held args.map_name) (report_text reports.Map booted)
              (map line_of_run booted.map) is.map map_read,
          read_saved owner_line_in (λ r. r) saved.Owners (held args.owners_name) (report_text reports.Owners booted)
              (map range_of_run (owner_runs_of booted.items)) is.owners owners_read,
          read_saved block_in bytes_of_block saved.Blocks (held args.blocks_name) (report_text reports.Blocks booted)
              (map line_of_block (booted_blocks booted)) is.blocks blocks_read,
        ) refl

    pub saved_conserved : FilesConserveMemory (Some args) held
    saved_conserved = record {
      args = args;
      lines = told_lines;
      args_read = refl;
      texts = lines_told;
      conserved = subst (λ (w : Width). LinesConserveMemory (address_limit_of w) told_lines.map_lines told_lines.owners told_lines.blocks)
          (sym is.width)
          (lines_conserved inputs booted ends can.within);
    }
