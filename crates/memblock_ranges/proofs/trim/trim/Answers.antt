use Rattle.std.proofs.Common.{◌≡◌, ℕ, ◌+◌, ◌-◌, ◌%◌, ◌^◌, ◌<◌, ◌≤◌, Option, Some, List, [], ◌∷◌, ◌++◌, length, take, drop, sym, ◌∙◌, ap, subst, arith, append-nil}
use Rattle.std.proofs.lemmas.List.{drop_more, drop_all}
use Rattle.address_runs.specs.Runs.{RunOf, run_end, value_at, IsRunsOf}
use Rattle.address_runs.specs.Edits.{IsEmptyFrom}
use Rattle.address_runs.specs.Sweep.{IsSweptTo}
use Rattle.run_edits.specs.Records.{run_or_none}
use Rattle.memblock_model.specs.Labels.{LabelView}
use Rattle.memblock_model.specs.Items.{trim_frames}
use Rattle.memblock_model.specs.Tables.{records_for}
use Rattle.memblock_model.proofs.TableLaws.{records_for-is, nothing-trimmed}
use Rattle.memblock_ranges.specs.Tables.{AreRecords}
use Rattle.memblock_ranges.proofs.TrimLaws.{Turns, turns_next, trim_step, trim_all}
use Rattle.memblock_ranges.proofs.trim.trim.Goals as goal

pub loop-read-preserved : goal.loop-read-preserved
loop-read-preserved g c =
    let f : ℕ → Option LabelView = value_at (g.T.Rows.list c.args.table.now) in
    let i = c.loop-read.invariant in
    let t = g.T.Rows.list c.loop-read.table in
    let read : ℕ = c.loop-read.read in
    let r : RunOf LabelView = c.get-record.result in
    let rest = drop (read + 1) t in
    let count : read < length t = omega (arith, c.loop-read-test.true, c.count.ensures) in
    let left : drop read t ≡ r ∷ rest =
    drop_more t read r count ∙ ap (λ (q : RunOf LabelView). q ∷ rest) (sym c.get-record.ensures) in
    let at : ℕ = i.swept.0 in
    let turns : Turns f at (r ∷ rest) = subst (λ rs. Turns f at rs) left i.swept.2 in
    let base = c.range.ensures.base in
    let size = c.range.ensures.size in
    let b : ℕ = c.range.result.base in
    let e : ℕ = c.range.result.base + c.range.result.size in
    let ends : e ≡ run_end r = omega (arith, base, size) in
    let up : ℕ = b + (4096 - b % 4096) % 4096 in
    let down : ℕ = e - e % 4096 in
    let step = trim_step f at r rest turns up down (ap (λ n. n + (4096 - n % 4096) % 4096) base) (ap (λ n. n - n % 4096) ends)
    c.whole_frame_bounds-start.result.0 c.whole_frame_bounds-start.result.1 (take c.loop-read.write t) i.swept.1
    c.whole_frame_bounds-start.ensures.start c.whole_frame_bounds-start.ensures.until c.whole_frame_bounds-start.ensures.none in
    let with_value : LabelView → List (RunOf LabelView) =
    λ v. take c.loop-read.write t ++ run_or_none c.whole_frame_bounds-start.result.0 c.whole_frame_bounds-start.result.1
    (Some v) in
    let written : take c.write_run.result.0 (g.T.Rows.list c.write_run.new.table) ≡ with_value r.value =
    c.write_run.ensures.written ∙ ap with_value c.value.ensures in
    record {
      order = c.write_run.ensures.order;
      within = c.write_run.ensures.within;
      keeps = g.met.T.Slots.keeps_on c.args.table.now c.loop-read.table c.write_run.new.table i.keeps c.write_run.ensures.keeps;
      swept = (
        run_end r,
        subst (λ xs. IsSweptTo (trim_frames f) (run_end r) xs) (sym written) step,
        subst (λ rs. Turns f (run_end r) rs) (sym c.write_run.ensures.rest) (turns_next f at r rest turns),
      );
    }

-- all records have been read
all_cut : (f : ℕ → Option LabelView) (at write read : ℕ) (t new : List (RunOf LabelView)) → IsEmptyFrom (2 ^ 64) f →
    IsSweptTo (trim_frames f) at (take write t) →
    Turns f at (drop read t) →
    length t ≤ read → new ≡ take write t ++ drop (write + (read - write)) t → write ≤ read →
    (new ≡ records_for (trim_frames f)) × AreRecords new
all_cut f at write read t new within swept turns done is order =
    let none : drop read t ≡ [] = drop_all read t done in
    let same : write + (read - write) ≡ read = omega arith in
    let whole : new ≡ take write t = is ∙ ap (λ n. take write t ++ drop n t) same
    ∙ ap (λ (l : List (RunOf LabelView)). take write t ++ l) none ∙ append-nil (take write t) in
    let runs : IsRunsOf (trim_frames f) new = subst (λ xs. IsRunsOf (trim_frames f) xs) (sym whole)
    (trim_all f at (take write t) swept (subst (λ rs. Turns f at rs) none turns)) in
    let blank = nothing-trimmed (2 ^ 64) f within in
    (records_for-is (trim_frames f) new blank runs, record { runs = runs.runs; within = λ x le. runs.each x ∙ blank x le })

pub returns-clause-list : goal.returns-clause-list
returns-clause-list g c =
    let i = c.loop-read.invariant in
    (all_cut _ _ c.loop-read.write c.loop-read.read _ _ c.requires.within i.swept.1 i.swept.2
    (omega (arith, c.loop-read-test.false, c.count.ensures)) c.close.ensures.list i.order).0

pub returns-clause-records : goal.returns-clause-records
returns-clause-records g c =
    let i = c.loop-read.invariant in
    (all_cut _ _ c.loop-read.write c.loop-read.read _ _ c.requires.within i.swept.1 i.swept.2
    (omega (arith, c.loop-read-test.false, c.count.ensures)) c.close.ensures.list i.order).1
