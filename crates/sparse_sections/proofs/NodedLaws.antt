-- If memory is whole frames and each of its bytes has a node, each of its records is whole frames
-- with a node.
use Rattle.std.proofs.Common.{◌≡◌, ℕ, zero, suc, ◌-◌, ◌*◌, ◌/◌, ◌^◌, ◌<◌, ◌≤◌, Some, List, [], ◌∷◌, length, get_or, refl, sym, ◌∙◌, arith, inl, inr, inl, inr}
use Rattle.std.specs.List.{All}
use Rattle.address_runs.specs.Runs.{RunOf, run_end, value_at, IsRunsOf, AreRuns}
use Rattle.address_runs.specs.Edits.{IsEmptyFrom}
use Rattle.address_runs.proofs.RunsLaws.{inside, past_end, rest_from}
use Rattle.memblock_model.specs.declared.owner.Which.TheVariants as which
use Rattle.memblock_model.specs.declared.item.Item.{Item}
use Rattle.memblock_model.specs.Labels.{LabelView, Labels}
use Rattle.memblock_model.specs.Items.{memory_of}
use Rattle.memblock_model.specs.Tables.{records_of}
use Rattle.memblock_model.proofs.TableLaws.{records_for-runs, value_at-records}
use Rattle.memblock_frames.specs.HeadRecords.{AreWholeFrames}
use Rattle.memblock_frames.proofs.WholeLaws.{whole_at, whole_by_value}
use Rattle.stage_steps.specs.Nodes.{IsMemoryWithNodes}
use Rattle.sparse_sections.specs.Present.{IsWholeFramesWithNode}
use Rattle.std.proofs.lemmas.Bool.{cases_lt}
use Rattle.address_runs.specs.Sweep.{StartAtOrPast}

-- in a sorted list, each record isn't empty, the list gives its addresses its label, and no record
-- begins below the first
told-at : (rs : List (RunOf LabelView)) (k : ℕ) (d : RunOf LabelView) → AreRuns rs → k < length rs → (0 < (get_or rs k d).size)
    × ((at : ℕ) → StartAtOrPast at rs → at ≤ (get_or rs k d).base)
    × ((x : ℕ) → (get_or rs k d).base ≤ x → x < run_end (get_or rs k d) → value_at rs x ≡ Some (get_or rs k d).value)
told-at [] k d runs few = absurd (omega arith)
told-at (r ∷ rs) zero d runs few = (runs.0, λ at start. start, λ x above under. rw (inside r x above under) refl)
told-at (r ∷ rs) (suc k) d runs few =
    let rest = told-at rs k d runs.2 (omega arith) in
    let next : run_end r ≤ (get_or rs k d).base = rest.1 (run_end r) (rest_from r rs runs) in
    (rest.0, λ at start. omega arith, λ x above under. rw (past_end r x (omega arith)) (rest.2 x above under))

pub noded-frames : (limit : ℕ) (f : Labels) (rs : List (RunOf LabelView)) → IsRunsOf f rs → IsMemoryWithNodes limit f → AreWholeFrames rs
noded-frames limit f rs is noded =
    whole_by_value rs is.runs (λ x. is.each x ∙ noded.frames x ∙ sym (is.each (4096 * (x / 4096))))

pub noded-records : (f : Labels) (rs : List (RunOf LabelView)) → IsRunsOf f rs → IsMemoryWithNodes (2 ^ 52) f → All IsWholeFramesWithNode rs
noded-records f rs is noded k d few =
    let r : RunOf LabelView = get_or rs k d in
    let at = told-at rs k d is.runs few in
    let some = at.0 in
    let whole = whole_at rs k d (noded-frames (2 ^ 52) f rs is noded) few in
    let told = noded.nodes r.base r.value (sym (is.each r.base) ∙ at.2 r.base (omega arith) (omega arith)) in
    let last : ℕ = run_end r - 1 in
    record {
      node = told.0;
      has = told.1;
      base = whole.0;
      end = omega arith;
      reach = elim (cases_lt (2 ^ 52) (run_end r)) [
        | inl lt ↦ absurd (cc (at.2 last (omega arith) (omega arith), is.each last, noded.within last (omega arith)))
        | inr ge ↦ ge
      ];
    }

-- the records of memory whose bytes have nodes
far : (limit : ℕ) (f : Labels) → limit ≤ 2 ^ 64 → IsEmptyFrom limit f → IsEmptyFrom (2 ^ 64) f
far limit f less none x above = none x (omega arith)

pub noded-runs : (limit : ℕ) (items : List Item) → limit ≤ 2 ^ 64 → IsMemoryWithNodes limit (memory_of items)
    → IsRunsOf (memory_of items) (records_of which.Memory items)
unfolding records_of
noded-runs limit items less noded = records_for-runs (memory_of items) (far limit (memory_of items) less noded.within)

pub noded-told : (limit : ℕ) (items : List Item) → limit ≤ 2 ^ 64 → IsMemoryWithNodes limit (memory_of items)
    → value_at (records_of which.Memory items) ≡ memory_of items
unfolding records_of
noded-told limit items less noded = value_at-records (memory_of items) (far limit (memory_of items) less noded.within)
