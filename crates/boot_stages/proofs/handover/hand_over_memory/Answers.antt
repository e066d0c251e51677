-- Both tables lie in the bytes. After the nodes are assigned, the memory table covers whole
-- frames.
use Rattle.std.proofs.Common.{◌≡◌, ◌∙◌, ℕ, List, ap, sym, arith}
use Rattle.boot_journal.specs.JournalView.{JournalView}
use Rattle.memblock_model.specs.declared.owner.Which.TheVariants as which
use Rattle.memblock_model.specs.Tables.{records_of}
use Rattle.memblock_ranges.specs.declared.region.Heads.{Heads}
use Rattle.memblock_ranges.specs.Tables.{head_of}
use Rattle.growth_model.specs.Bytes.{table_from_items}
use Rattle.memblock_grow.specs.MemblockView.{MemblockView as Memblock}
use Rattle.address_runs.specs.Runs.{RunOf, value_at}
use Rattle.buddy_handover.specs.BuddyView.{node_of_free_frame}
use Rattle.page_alloc.specs.PagesView.{page_state_of}
use Rattle.page_alloc.specs.Pages.{first_page_state}
use Rattle.boot_model.specs.View.{inputs_view}
use Rattle.memblock_frames.proofs.RecordLaws.{records_higher}
use Rattle.boot_stages.proofs.HandoverLaws.{Stand, free-told, memory-records, memory-whole, reserved-records, rule-told, spans-told, stand-by, finish_boot-by}
use Rattle.boot_stages.proofs.handover.hand_over_memory.Goals as goal
use Rattle.boot_stages.proofs.handover.hand_over_memory.Goals.{After-into_parts-store}

stood : (c : After-into_parts-store)
    → Stand c.args.memblock.journal.items c.into_parts-store.result.0 c.into_parts-store.result.1.memory
    c.into_parts-store.result.1.reserved
stood c =
    stand-by c.args.memblock _ _ c.into_parts-store.ensures.heads (c.requires.tables which.Memory) (c.requires.tables which.Reserved)
    c.into_parts-store.ensures.memory c.into_parts-store.ensures.reserved c.requires.noded c.requires.within

pub spans-requires-clause-memory : goal.spans-requires-clause-memory
spans-requires-clause-memory c =
    records_higher c.into_parts-store.result.0 c.into_parts-store.result.1.memory _ _ (omega arith)
    (memory-records (stood (goal.at.spans-requires-clause-memory c).After-into_parts-store))

pub spans-requires-clause-whole : goal.spans-requires-clause-whole
spans-requires-clause-whole c = memory-whole (stood (goal.at.spans-requires-clause-whole c).After-into_parts-store)

pub spans_by-requires-clause-memory : goal.spans_by-requires-clause-memory
spans_by-requires-clause-memory c =
    records_higher c.into_parts-store.result.0 c.into_parts-store.result.1.memory _ _ (omega arith)
    (memory-records (stood (goal.at.spans_by-requires-clause-memory c).After-into_parts-store))

pub spans_by-requires-clause-whole : goal.spans_by-requires-clause-whole
spans_by-requires-clause-whole c = memory-whole (stood (goal.at.spans_by-requires-clause-whole c).After-into_parts-store)

pub hand_over-requires-clause-memory : goal.hand_over-requires-clause-memory
hand_over-requires-clause-memory c = memory-records (stood (goal.at.hand_over-requires-clause-memory c).After-into_parts-store)

pub hand_over-requires-clause-whole : goal.hand_over-requires-clause-whole
hand_over-requires-clause-whole c = memory-whole (stood (goal.at.hand_over-requires-clause-whole c).After-into_parts-store)

pub hand_over-requires-clause-reserved : goal.hand_over-requires-clause-reserved
hand_over-requires-clause-reserved c = reserved-records (stood (goal.at.hand_over-requires-clause-reserved c).After-into_parts-store)

pub returns-clause-view : goal.returns-clause-view
returns-clause-view c = λ ids fills. (
    let stands = stood (goal.at.returns-clause-view c).After-into_parts-store in
    let heads = c.into_parts-store.ensures.heads in
    let memory = c.requires.tables which.Memory in
    let reserved = c.requires.tables which.Reserved in
    let begins : page_state_of c.new-after.result ≡ first_page_state (node_of_free_frame c.in_ok-buddy.buddy) =
    c.new-after.ensures ∙ ap (λ (rs : List (RunOf ℕ)). first_page_state (value_at rs)) c.in_ok-copy.ensures in
    finish_boot-by c.args.profile (inputs_view c.args.inputs) c.args.map.items c.args.memblock c.args.later ids fills _ _ _ _ _ _ _ _
    c.requires.kernel
    (ap (λ (j : JournalView). j.items) c.into_parts-store.ensures.journal) (cc)
    (c.in_ok-spans.ensures ∙ rule-told stands c.args.profile.zones) (c.in_ok-with_memory.ensures ∙ spans-told stands)
    (λ i frame. (c.in_ok-buddy.ensures frame ∙ free-told stands frame) i)
    (rw (c.as_ref.ensures.value, c.deref.ensures.value, c.deref-2.ensures.value) at c.in_ok-lists.ensures)
    (rw (begins, c.deref-3.ensures.value) at c.in_ok-page_answers.ensures.answers)
    (rw (begins, c.deref-3.ensures.value) at c.in_ok-page_answers.ensures.after))

pub returns-clause-reserved : goal.returns-clause-reserved
returns-clause-reserved c =
    let m : Memblock = c.args.memblock in
    record {
      table = table_from_items which.Reserved m.kernel m.journal.items;
      stands = c.into_parts-store.ensures.reserved;
      head_is = ap (λ (h : Heads). h.reserved) c.into_parts-store.ensures.heads ∙ ap head_of (c.requires.tables which.Reserved);
      records = ap (λ (j : JournalView). records_of which.Reserved j.items) (sym c.into_parts-store.ensures.journal);
    }

-- The prover needs one of the facts of the inputs by name where the inputs are dropped. It finds
-- the others.
pub invariant_of-inputs-clause-entries_end : goal.invariant_of-inputs-clause-entries_end
invariant_of-inputs-clause-entries_end c = c.args.inputs.entries_end

pub invariant_of-inputs-in_err-buddy-clause-entries_end : goal.invariant_of-inputs-in_err-buddy-clause-entries_end
invariant_of-inputs-in_err-buddy-clause-entries_end c = c.args.inputs.entries_end

pub invariant_of-inputs-in_err-lists-clause-entries_end : goal.invariant_of-inputs-in_err-lists-clause-entries_end
invariant_of-inputs-in_err-lists-clause-entries_end c = c.args.inputs.entries_end

pub invariant_of-inputs-in_err-page_answers-clause-entries_end : goal.invariant_of-inputs-in_err-page_answers-clause-entries_end
invariant_of-inputs-in_err-page_answers-clause-entries_end c = c.args.inputs.entries_end

pub invariant_of-inputs-2-clause-entries_end : goal.invariant_of-inputs-2-clause-entries_end
invariant_of-inputs-2-clause-entries_end c = c.args.inputs.entries_end
