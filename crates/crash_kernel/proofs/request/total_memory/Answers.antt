use Rattle.std.proofs.Common.{List, sym, ◌∙◌, ap, arith}
use Rattle.std.proofs.lemmas.List.{take_all}
use Rattle.std.proofs.lemmas.List.Sums.{sum_by_more}
use Rattle.address_runs.specs.Runs.{RunOf, value_at}
use Rattle.memblock_model.specs.Labels.{LabelView, plain_label}
use Rattle.memblock_ranges.specs.declared.region.Region.{Region}
use Rattle.crash_kernel.specs.Total.{memory_bytes}
use Rattle.crash_kernel.proofs.TotalLaws.{sizes-before, runs-bytes}
use Rattle.crash_kernel.proofs.request.total_memory.Goals as goal

-- any value, for an index past the last record
nothing : RunOf LabelView
nothing = record { base = 0; size = 0; value = plain_label }

pub overflow_add-total : goal.overflow_add-total
overflow_add-total c =
    let rs = c.records-records.result in
    let size = ap (λ (r : Region). r.size) (c.get-total.ensures.region nothing) in
    let small = (c.get-total.ensures.fits nothing).small in
    let before = sizes-before c.loop-i.i rs nothing c.count-i-end.ensures.records.runs (omega arith) in
    omega (arith, size, small, before)

pub loop-i-preserved : goal.loop-i-preserved
loop-i-preserved c =
    let size = ap (λ (r : Region). r.size) (c.get-total.ensures.region nothing) in
    let next = sum_by_more (λ (r : RunOf LabelView). r.size) c.records-records.result c.loop-i.i nothing (omega arith) in
    omega (arith, size, next)

pub returns : goal.returns
returns c =
    let rs = c.records-records.result in
    let so_far = rw (take_all c.loop-i.i rs (omega arith)) at c.loop-i.invariant in
    so_far ∙ sym (runs-bytes rs c.count-i-end.ensures.records.runs c.count-i-end.ensures.records.within)
    ∙ ap (λ (t : List (RunOf LabelView)). memory_bytes (value_at t)) c.records-records.ensures
