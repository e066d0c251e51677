-- What the e820 table returns, accepted or refused by the boot, decides how the first stages end.
use Rattle.boot_model.specs.Boot.{InputsView}
use Rattle.boot_model.specs.View.{inputs_view}
use Rattle.boot_stages.proofs.MapLaws.{claims-told, map_answers}
use Rattle.boot_stages.proofs.stages.make_map.Goals as goal

pub returns-clause-answers : goal.returns-clause-answers
returns-clause-answers c =
    let inputs : InputsView = inputs_view c.args.inputs.now in
    let same = claims-told inputs _ _ _ _ _ c.in_ok-table.ensures c.deref.ensures.0 c.deref-2.ensures.value
    c.deref-3.ensures.value c.added_entries.ensures.value in
    map_answers inputs c.runs.result (rw same c.runs.ensures.answers) (rw same c.runs.ensures.relation) c.accept_table_result.result
    (rw (← c.reach.ensures) c.accept_table_result.ensures.answers)
