-- What the boot decides for the map and what the stages then make. The facts of `conservation`,
-- which are proved for each frame of the definition, hold for the result.
use Rattle.std.proofs.Common.{◌≡◌, ℕ, List, [], ◌^◌, Ok, ap, subst, sym, ◌∙◌}
use Rattle.address_runs.specs.Runs.{RunOf}
use Rattle.boot_journal.specs.JournalView.{JournalView}
use Rattle.bm_base.specs.Range.{RangeView}
use Rattle.address_runs.specs.Edits.{IsEmptyFrom}
use Rattle.memblock_model.specs.declared.owner.Which.TheVariants as which
use Rattle.memblock_model.specs.Items.{memory_of, owner_of}
use Rattle.memblock_model.specs.Tables.{reserved_labels}
use Rattle.memblock_ranges.specs.Tables.{table_in}
use Rattle.growth_model.specs.Bytes.{byte_from_history, table_from_items}
use Rattle.phys_store.specs.Bytes.{ExtentView, byte_of}
use Rattle.memblock_grow.specs.MemblockView.{MemblockView as Memblock}
use Rattle.bm_base.specs.ResultSteps.{map_error}
use Rattle.stage_steps.specs.Nodes.{IsMemoryWithNodes}
use Rattle.boot_model.specs.Boot.{ExtraView, InputsView, BootSoFar, BootedView, boot_with, judge_map, reach}
use Rattle.boot_model.specs.Stop.{stop_of}
use Rattle.boot_model.specs.View.{extra_view, inputs_view}
use Rattle.boot_model.proofs.NodedLaws.{noded_told}
use Rattle.boot_model.proofs.ReachLaws.{reach-small}
use Rattle.conservation.proofs.HeadlineLaws.{all_touched_or_in_one, blocks_maximal, blocks_whole, no_other_in_a_block}
use Rattle.conservation.proofs.PagedLaws.{all_in_one_or_held, no_other_in_one_or_held}
use Rattle.boot_stages.specs.declared.later.LaterResults.{LaterResults}
use Rattle.boot_stages.specs.Boots.{StagesEndWith, made_after_stages}
use Rattle.boot_stages.proofs.ExitLaws.{exit}
use Rattle.boot_stages.proofs.MapLaws.{boot_is_later_stages, boot_stops, boot_told, made_of, ok_without_error_change, boot_stop_is_reported}
use Rattle.boot_stages.proofs.HandoverLaws.{tables-kept}
use Rattle.boot_stages.proofs.StagesLaws.{noded-within}
use Rattle.boot_stages.proofs.stages.boot_with.Goals as goal
use Rattle.boot_stages.proofs.stages.boot_with.Goals.{In_ok-later}

pub returns-in_err-map-clause-boots : goal.returns-in_err-map-clause-boots
returns-in_err-map-clause-boots c =
    let extra : ExtraView = extra_view c.args.extra.now in
    let inputs : InputsView = inputs_view c.args.inputs in
    boot_stop_is_reported _ extra inputs _ c.in_err-map.field-0.0 (exit _ _ c.from_residual.ensures.1)
    (boot_stops extra inputs c.in_err-map.field-0.0 c.in_err-map.ensures.answers)

-- the map that the boot goes on with, as the stages get it
pub run_stages-requires-clause-judged : goal.run_stages-requires-clause-judged
run_stages-requires-clause-judged c =
    let extra : ExtraView = extra_view c.args.extra.now in
    let inputs : InputsView = inputs_view c.args.inputs in
    rw c.deref.ensures.value
    (ok_without_error_change stop_of (judge_map inputs) (made_of inputs c.in_ok-map.map) c.in_ok-map.ensures.answers)

pub run_stages-requires-clause-bytes : goal.run_stages-requires-clause-bytes
run_stages-requires-clause-bytes c =
    let m : Memblock = c.in_ok-memblock.memblock in
    record {
      made = tt;
      each = λ x. c.in_ok-memblock.ensures.bytes x
          ∙ ap (λ (k : RangeView). byte_from_history k [] [] x) (sym c.in_ok-memblock.ensures.kernel)
          ∙ ap (λ (j : JournalView). byte_from_history m.kernel j.items [] x) (sym c.in_ok-memblock.ensures.journal);
    }

pub returns-in_err-later-clause-boots : goal.returns-in_err-later-clause-boots
returns-in_err-later-clause-boots c =
    let extra : ExtraView = extra_view c.args.extra.now in
    let inputs : InputsView = inputs_view c.args.inputs in
    let left = boot_is_later_stages extra inputs (made_of inputs c.in_ok-map.map) c.in_ok-map.ensures.answers in
    boot_stop_is_reported _ extra inputs _ c.in_err-later.field-0.0 (exit _ _ c.from_residual-in_err-later.ensures.1)
    (λ other. ap (map_error stop_of) left ∙ (rw c.deref.ensures.value at c.in_err-later.ensures.stopped) other)

-- what is known after all stages have run
record Made (extra : ExtraView) (inputs : InputsView) (map : List (RunOf ℕ)) (m : Memblock) (later : LaterResults) : Type 0 where
  run : StagesEndWith extra inputs map m later
  boots : boot_with extra inputs ≡ Ok (made_after_stages inputs map m later run.ids run.fills)
  noded : IsMemoryWithNodes (2 ^ 52) (memory_of m.journal.items)

made : (c : In_ok-later) → Made (extra_view c.args.extra.now)
    (inputs_view c.args.inputs) c.in_ok-map.map.items c.run_stages.new.memblock c.in_ok-later.later
made c =
    let extra : ExtraView = extra_view c.args.extra.now in
    let inputs : InputsView = inputs_view c.args.inputs in
    let run : StagesEndWith extra inputs c.in_ok-map.map.items c.run_stages.new.memblock c.in_ok-later.later =
    rw c.deref.ensures.value at c.in_ok-later.ensures.run in
    let boots = boot_is_later_stages extra inputs (made_of inputs c.in_ok-map.map) c.in_ok-map.ensures.answers ∙ run.come in
    record {
      run = run;
      boots = boots;
      noded = noded-within (reach inputs) (2 ^ 52) _ (noded_told extra inputs _ boots) (reach-small inputs);
    }

pub hand_over_memory-requires-clause-noded : goal.hand_over_memory-requires-clause-noded
hand_over_memory-requires-clause-noded c = (made (goal.at.hand_over_memory-requires-clause-noded c).In_ok-later).noded

pub hand_over_memory-requires-clause-kernel : goal.hand_over_memory-requires-clause-kernel
hand_over_memory-requires-clause-kernel c = (made (goal.at.hand_over_memory-requires-clause-kernel c).In_ok-later).run.kernel

-- what the type of memblock guarantees
pub hand_over_memory-requires-clause-tables : goal.hand_over_memory-requires-clause-tables
hand_over_memory-requires-clause-tables c = λ w.
    subst (λ (m : Memblock). table_in w m.tables ≡ table_from_items w m.kernel m.journal.items) c.memblock.view_is
    (tables-kept w _ _ _ _ c.memblock.invariant.kept)

pub hand_over_memory-requires-clause-within : goal.hand_over_memory-requires-clause-within
hand_over_memory-requires-clause-within c =
    subst (λ (m : Memblock). IsEmptyFrom (2 ^ 64) (reserved_labels (owner_of m.journal.items))) c.memblock.view_is
    (c.memblock.invariant.kept.ends which.Reserved)

pub returns-clause-boots : goal.returns-clause-boots
returns-clause-boots c =
    let extra : ExtraView = extra_view c.args.extra.now in
    let inputs : InputsView = inputs_view c.args.inputs in
    let known = made (goal.at.returns-clause-boots c).In_ok-later in
    ap (map_error stop_of) (boot_told extra inputs _ known.boots)
    ∙ ap (λ (t : BootedView). Ok t) (sym (c.in_ok-hand_over_memory.ensures.view known.run.ids known.run.fills))

pub returns-clause-bytes : goal.returns-clause-bytes
returns-clause-bytes c = λ final ends x. (
    let extra : ExtraView = extra_view c.args.extra.now in
    let inputs : InputsView = inputs_view c.args.inputs in
    let last : Memblock = c.run_stages.new.memblock in
    let known = made (goal.at.returns-clause-bytes c).In_ok-later in
    let after : BootSoFar = made_after_stages inputs c.in_ok-map.map.items last c.in_ok-later.later known.run.ids known.run.fills in
    let both : Ok after ≡ Ok final = sym known.boots ∙ ends in
    let is : after ≡ final = cc in
    ap (λ (s : List ExtentView). byte_of s x) c.in_ok-hand_over_memory.ensures.store ∙ known.run.holds.each x
    ∙ ap (λ (k : RangeView). byte_from_history k last.journal.items known.run.fills x) known.run.kernel
    ∙ ap (λ (n : BootSoFar). byte_from_history inputs.kernel n.items n.fills x) is)

pub returns-clause-each : goal.returns-clause-each
returns-clause-each c = all_touched_or_in_one (extra_view c.args.extra.now) (inputs_view c.args.inputs) _
    (ok_without_error_change stop_of _ _ (returns-clause-boots c))

pub returns-clause-others : goal.returns-clause-others
returns-clause-others c = no_other_in_a_block (extra_view c.args.extra.now) (inputs_view c.args.inputs) _
    (ok_without_error_change stop_of _ _ (returns-clause-boots c))

pub returns-clause-whole : goal.returns-clause-whole
returns-clause-whole c =
    blocks_whole (extra_view c.args.extra.now) (inputs_view c.args.inputs) _ (ok_without_error_change stop_of _ _ (returns-clause-boots c))

pub returns-clause-maximal : goal.returns-clause-maximal
returns-clause-maximal c = blocks_maximal (extra_view c.args.extra.now) (inputs_view c.args.inputs) _
    (ok_without_error_change stop_of _ _ (returns-clause-boots c))

pub returns-clause-paged : goal.returns-clause-paged
returns-clause-paged c =
    all_in_one_or_held (extra_view c.args.extra.now) (inputs_view c.args.inputs) _
    (ok_without_error_change stop_of _ _ (returns-clause-boots c)) c.args.inputs.orders_fit

pub returns-clause-none_paged : goal.returns-clause-none_paged
returns-clause-none_paged c =
    no_other_in_one_or_held (extra_view c.args.extra.now) (inputs_view c.args.inputs) _
    (ok_without_error_change stop_of _ _ (returns-clause-boots c)) c.args.inputs.orders_fit

-- One of the inputs' facts is named wherever the inputs are dropped. The others are found.
pub invariant_of-inputs-clause-entries_end : goal.invariant_of-inputs-clause-entries_end
invariant_of-inputs-clause-entries_end c = c.args.inputs.entries_end

pub invariant_of-inputs-in_err-memblock-clause-entries_end : goal.invariant_of-inputs-in_err-memblock-clause-entries_end
invariant_of-inputs-in_err-memblock-clause-entries_end c = c.args.inputs.entries_end

pub invariant_of-inputs-in_err-later-clause-entries_end : goal.invariant_of-inputs-in_err-later-clause-entries_end
invariant_of-inputs-in_err-later-clause-entries_end c = c.args.inputs.entries_end
