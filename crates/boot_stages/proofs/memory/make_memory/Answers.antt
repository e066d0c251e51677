-- The three parts of the items. After the second part, the memory table gives the limit that the
-- third part sets.
use Rattle.std.proofs.Common.{◌≡◌, [], ◌++◌, Ok, ap, sym, ◌∙◌}
use Rattle.address_runs.specs.Runs.{value_at}
use Rattle.memblock_ranges.specs.Tables.{TableView}
use Rattle.growth_model.specs.Requests.{carry_out_items}
use Rattle.memblock_grow.proofs.GoingLaws.{goes-then}
use Rattle.early_memory.specs.EarlyInputs.{EarlyInputs}
use Rattle.early_memory.specs.Memory.{end_of_last_run, memory_end}
use Rattle.boot_model.specs.Boot.{early_inputs}
use Rattle.boot_model.specs.View.{inputs_view}
use Rattle.boot_stages.specs.Parts.{items_before_memory, items_for_memory_of_map}
use Rattle.boot_stages.proofs.ItemsLaws.{carried-by, carries-exit, carries-second}
use Rattle.boot_stages.proofs.ExitLaws.{exit}
use Rattle.boot_stages.proofs.MemoryLaws.{in_parts, table_end}
use Rattle.boot_stages.proofs.memory.make_memory.Goals as goal

pub returns-in_err-claim_before_memory-clause-ends : goal.returns-in_err-claim_before_memory-clause-ends
returns-in_err-claim_before_memory-clause-ends c =
    let e : EarlyInputs = early_inputs (inputs_view c.args.inputs.now) in
    rw (← in_parts e c.args.map.now) (carries-exit c.in_err-claim_before_memory.field-0.0 _ (items_before_memory e) _ _ _
    (exit _ _ c.from_residual.ensures.1) c.in_err-claim_before_memory.ensures.ends)

pub returns-in_err-add_memory_of_map-clause-ends : goal.returns-in_err-add_memory_of_map-clause-ends
returns-in_err-add_memory_of_map-clause-ends c =
    let e : EarlyInputs = early_inputs (inputs_view c.args.inputs.now) in
    rw (← in_parts e c.args.map.now) (carries-second _ (items_before_memory e) _ _ _ _ c.in_ok-claim_before_memory.ensures.ends
    (carries-exit c.in_err-add_memory_of_map.field-0.0 _ (items_for_memory_of_map e c.args.map.now) _ _ _
    (exit _ _ c.from_residual-in_err-add_memory_of_map.ensures.1) c.in_err-add_memory_of_map.ensures.ends))

pub returns-in_err-add_memory_of_map-clause-goes_on : goal.returns-in_err-add_memory_of_map-clause-goes_on
returns-in_err-add_memory_of_map-clause-goes_on c =
    goes-then _ _ _ c.in_ok-claim_before_memory.ensures.goes_on c.in_err-add_memory_of_map.ensures.goes_on

pub returns-clause-ends : goal.returns-clause-ends
returns-clause-ends c =
    let e : EarlyInputs = early_inputs (inputs_view c.args.inputs.now) in
    let mid = c.add_memory_of_map.new.memblock.journal.items in
    let map = c.args.map.now in
    let first : carry_out_items (items_before_memory e ++ items_for_memory_of_map e map) [] ≡ Ok mid =
    ap (carry_out_items (items_before_memory e ++ items_for_memory_of_map e map)) (sym c.requires.first)
    ∙ carried-by (items_before_memory e ++ items_for_memory_of_map e map) _ mid
    (carries-second (Ok tt) (items_before_memory e) (items_for_memory_of_map e map) _ _ mid
    c.in_ok-claim_before_memory.ensures.ends c.in_ok-add_memory_of_map.ensures.ends) in
    let end : c.end_of_memory-end.result ≡ memory_end e.limit (value_at map) =
    c.end_of_memory-end.ensures ∙ ap (λ (t : TableView). end_of_last_run t.records) c.tables.ensures.memory
    ∙ table_end e map mid c.requires.runs first c.tables.ensures.within in
    rw (← in_parts e map) (carries-second _ (items_before_memory e) _ _ _ _ c.in_ok-claim_before_memory.ensures.ends
    (carries-second _ (items_for_memory_of_map e map) _ _ mid _ c.in_ok-add_memory_of_map.ensures.ends
    (rw end at c.limit_and_claim_first_mib.ensures.ends)))

pub returns-clause-goes_on : goal.returns-clause-goes_on
returns-clause-goes_on c =
    goes-then _ _ _ (goes-then _ _ _ c.in_ok-claim_before_memory.ensures.goes_on c.in_ok-add_memory_of_map.ensures.goes_on)
    c.limit_and_claim_first_mib.ensures.goes_on
