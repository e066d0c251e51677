-- A stop is that of the boot. Otherwise the texts are the reports on the boot.
use Rattle.std.proofs.Common.{◌≡◌, ◌∙◌, Ok, refl}
use Rattle.boot_model.specs.Boot.{whole_boot_with}
use Rattle.boot_model.specs.View.{booted_view, inputs_view}
use Rattle.program_run.specs.Outcome.{linux_extra}
use Rattle.address_runs.proofs.RunsLaws.{runs_ascend}
use Rattle.program_run.proofs.BootedLaws.{items_shown, items_stand, told_is}
use Rattle.program_run.proofs.program61.reports_on_boot61.Goals as goal

pub render_all-requires-clause-tables : goal.render_all-requires-clause-tables
render_all-requires-clause-tables c =
    items_stand c.in-Ok.booted c.in-Ok.ensures.memory c.in-Ok.ensures.reserved

pub render_all-requires-clause-map : goal.render_all-requires-clause-map
render_all-requires-clause-map c = runs_ascend c.in-Ok.booted.map.items c.in-Ok.ensures.runs

pub returns-clause-fetches : goal.returns-clause-fetches
returns-clause-fetches c =
    let booted = c.in-Ok.booted in
    let boots : whole_boot_with (record { profile = c.linux_6_1.result; claims = c.args.claims.items }) (inputs_view c.args.inputs)
    ≡ Ok (booted_view booted) = told_is _ _ c.in-Ok.ensures.boots in
    let by_linux : whole_boot_with (linux_extra c.args.claims.items) (inputs_view c.args.inputs) ≡ Ok (booted_view booted) =
    rw c.linux_6_1.ensures at boots in
    let whole = c.in_ok-render_all.ensures.whole
    ∙ items_shown c.in-Ok.booted c.deref.result.now c.in-Ok.ensures.memory c.in-Ok.ensures.reserved in
    rw (by_linux, whole, c.deref.ensures.value, c.in_ok-reports.ensures, c.as_bytes.ensures.value) refl
