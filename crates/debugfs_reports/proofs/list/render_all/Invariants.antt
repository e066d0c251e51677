-- The texts so far are those of the reports so far. Joined together, they are the whole text of
-- these reports.
use Rattle.std.proofs.Common.{◌≡◌, map, take}
use Rattle.std.specs.List.{flat_map}
use Rattle.boot_model.specs.View.{booted_view}
use Rattle.debugfs_reports.specs.ReportList.{render_part}
use Rattle.debugfs_reports.specs.TableHeads.{records_at_heads}
use Rattle.debugfs_reports.proofs.list.render_all.Given as goal

abbrev pub invariant-loop-report : goal.invariant-loop-report
invariant-loop-report l = record {
  each : map (λ text. text.items) l.texts.items
      ≡ map (render_part l.several (booted_view l.booted) (records_at_heads l.booted)) (take l.report-index l.reports);
  whole : flat_map (λ text. text.items) l.texts.items
      ≡ flat_map (render_part l.several (booted_view l.booted) (records_at_heads l.booted)) (take l.report-index l.reports);
}
