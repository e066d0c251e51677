-- A stop is that of the boot. Otherwise the texts are the reports on the boot.
use Rattle.std.proofs.Common.{◌∙◌, refl}
use Rattle.address_runs.proofs.RunsLaws.{runs_ascend}
use Rattle.program_run.proofs.BootedLaws.{items_shown, items_stand, told_is}
use Rattle.program_run.proofs.program.reports_on_boot.Goals as goal

pub render_all-requires-clause-tables : goal.render_all-requires-clause-tables
render_all-requires-clause-tables c =
    items_stand c.in-Ok.booted c.in-Ok.ensures.memory c.in-Ok.ensures.reserved

pub render_all-requires-clause-map : goal.render_all-requires-clause-map
render_all-requires-clause-map c = runs_ascend c.in-Ok.booted.map.items c.in-Ok.ensures.runs

pub returns-clause-fetches : goal.returns-clause-fetches
returns-clause-fetches c =
    let whole = c.in_ok-render_all.ensures.whole
    ∙ items_shown c.in-Ok.booted c.deref.result.now c.in-Ok.ensures.memory c.in-Ok.ensures.reserved in
    rw (told_is _ _ c.in-Ok.ensures.boots, whole, c.deref.ensures.value, c.in_ok-reports.ensures, c.as_bytes.ensures.value) refl
