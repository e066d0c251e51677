-- The last record of the memory table ends where memory ends.
use Rattle.std.proofs.Common.{◌≡◌, ◌+◌, ◌-◌, List, length, get_or, ap, sym, ◌∙◌, arith}
use Rattle.address_runs.specs.Runs.{RunOf, run_end}
use Rattle.memblock_model.specs.Labels.{LabelView, plain_label}
use Rattle.memblock_ranges.specs.declared.region.Region.{Region}
use Rattle.memblock_ranges.specs.declared.region.Head.{Head}
use Rattle.boot_stages.proofs.MemoryLaws.{end_at}
use Rattle.boot_stages.proofs.memory.end_of_memory.Goals as goal

pub overflow_add-result : goal.overflow_add-result
overflow_add-result c =
    let none : RunOf LabelView = record { base = 0; size = 0; value = plain_label } in
    let same : c.region-last.result.base + c.region-last.result.size
    ≡ run_end (get_or c.args.tables.now.memory.records (c.head-count.result.count - 1) none) =
    ap (λ (r : Region). r.base + r.size) (c.region-last.ensures.region none) in
    let small = (c.region-last.ensures.fits none).small in
    omega (arith, same, small)

pub returns : goal.returns
returns c =
    let records : List (RunOf LabelView) = c.args.tables.now.memory.records in
    let none : RunOf LabelView = record { base = 0; size = 0; value = plain_label } in
    let count : c.head-count.result.count ≡ length records = ap (λ (h : Head). h.count) c.head-count.ensures.head in
    let long : length records ≡ c.head-count.result.count - 1 + 1 = omega (arith, count, c.if-count-eq0.false) in
    ap (λ (r : Region). r.base + r.size) (c.region-last.ensures.region none)
    ∙ sym (end_at records (c.head-count.result.count - 1) none long)
