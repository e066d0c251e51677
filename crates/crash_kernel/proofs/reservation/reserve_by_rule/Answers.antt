use Rattle.std.proofs.Common.{◌≡◌, ◌≢◌, true, false, if◌then◌else◌, Some, None, Ok, refl, sym, ◌∙◌, ap}
use Rattle.std.proofs.lemmas.Result.{err_from_is_err_and}
use Rattle.memblock_model.specs.declared.owner.Owner.TheVariants as owner
use Rattle.memblock_model.specs.Items.{memory_of}
use Rattle.memblock_ranges.specs.Tables.{TableView}
use Rattle.stage_steps.specs.Steps.{return_value}
use Rattle.memblock_grow.proofs.GoingLaws.{goes-then}
use Rattle.boot_options.specs.Crash.{crash_option_view}
use Rattle.crash_kernel.specs.declared.crash.Crash.{Crash}
use Rattle.crash_kernel.specs.declared.crash.Crash.TheVariants as crash
use Rattle.crash_kernel.specs.Total.{memory_bytes}
use Rattle.crash_kernel.specs.Places.{low_size, needs_low_part}
use Rattle.crash_kernel.specs.Reservation.{reserve_low_part, reserve_crash_area_by, claim_area}
use Rattle.crash_kernel.proofs.TotalLaws.{records-bytes}
use Rattle.crash_kernel.proofs.ReservedLaws.{area-at, claim-writes, idle-ok, main-at, main-fails, main-then}
use Rattle.crash_kernel.proofs.reservation.reserve_by_rule.Goals as goal
use Rattle.crash_kernel.proofs.reservation.reserve_by_rule.Goals.{After-total_memory-total, In-Some-main_range}

-- the total of the memory table is that of the items
total_is : (c : After-total_memory-total) → c.total_memory-total.result ≡ memory_bytes (memory_of c.args.memblock.now.journal.items)
total_is c =
    c.total_memory-total.ensures
    ∙ records-bytes c.args.memblock.now.journal.items c.tables.result.now.memory.records c.tables.ensures.within
    (ap (λ (m : TableView). m.records) c.tables.ensures.memory)

-- the rest of the stage, by the range of the area
by_main : (c : In-Some-main_range) → c.total_memory-total.result ≡ memory_bytes (memory_of c.args.memblock.now.journal.items)
    → reserve_crash_area_by c.args.rule c.args.added (crash_option_view c.args.option.now) c.args.memblock.now.journal.items
    ≡ claim_area c.in-Some.area (low_size (crash_option_view c.args.option.now))
    (Some c.in-Some-main_range.main) c.args.memblock.now.journal.items
by_main c total =
    main-at c.args.rule c.args.added c.args.memblock.now.journal.items
    (crash_option_view c.args.option.now) c.total_memory-total.result c.in-Some.area
    (Some c.in-Some-main_range.main) total c.in-Some.ensures.area c.in-Some-main_range.ensures.range

-- so it has a step
is_no_answer : (c : In-Some-main_range) → c.total_memory-total.result ≡ memory_bytes (memory_of c.args.memblock.now.journal.items)
    → (told : Crash)
    → reserve_crash_area_by c.args.rule c.args.added (crash_option_view c.args.option.now) c.args.memblock.now.journal.items
    ≢ return_value told c.args.memblock.now.journal.items
is_no_answer c total told = λ idle.
    let main = c.in-Some-main_range.main in
    let low = low_size (crash_option_view c.args.option.now) in
    claim-writes told c.args.memblock.now.journal.items main owner.Crash
    (λ done. if needs_low_part main low then reserve_low_part main low else return_value (crash.At main None)) (sym (by_main c total)
    ∙ idle)

pub returns-in_default-clause-ends : goal.returns-in_default-clause-ends
returns-in_default-clause-ends c =
    let total = total_is (goal.at.returns-in_default-clause-ends c).After-total_memory-total in
    rw (area-at c.args.rule c.args.added c.args.memblock.now.journal.items
    (crash_option_view c.args.option.now) c.total_memory-total.result None total
    c.in_default.ensures.area) (refl, refl)

pub returns-in_default-clause-idle : goal.returns-in_default-clause-idle
returns-in_default-clause-idle c = λ told idle.
    let items = c.args.memblock.now.journal.items in
    idle-ok crash.Nothing told items items (reserve_crash_area_by c.args.rule c.args.added (crash_option_view c.args.option.now))
    (returns-in_default-clause-ends c) idle

pub returns-in_default-main_range-clause-ends : goal.returns-in_default-main_range-clause-ends
returns-in_default-main_range-clause-ends c =
    let total = total_is (goal.at.returns-in_default-main_range-clause-ends c).After-total_memory-total in
    rw (
      main-at c.args.rule c.args.added c.args.memblock.now.journal.items
          (crash_option_view c.args.option.now) c.total_memory-total.result c.in-Some.area None total
          c.in-Some.ensures.area c.in_default-main_range.ensures.range,
      c.search_failure.ensures,
    ) (refl, refl)

pub returns-in_default-main_range-clause-idle : goal.returns-in_default-main_range-clause-idle
returns-in_default-main_range-clause-idle c = λ told idle.
    let items = c.args.memblock.now.journal.items in
    idle-ok c.search_failure.result told items items (reserve_crash_area_by c.args.rule c.args.added (crash_option_view c.args.option.now))
    (returns-in_default-main_range-clause-ends c) idle

pub returns-in_err-claim-clause-ends : goal.returns-in_err-claim-clause-ends
returns-in_err-claim-clause-ends c =
    let at = goal.at.returns-in_err-claim-clause-ends c in
    let p = err_from_is_err_and c.from_residual.result c.from_residual.ensures.1 in
    rw (p.1, p.2, by_main at.In-Some-main_range (total_is at.After-total_memory-total))
    (main-fails c.in_err-claim.field-0.0 c.args.memblock.now.journal.items c.claim.new.self.journal.items
    (low_size (crash_option_view c.args.option.now)) c.in-Some.area c.in-Some-main_range.main c.in_err-claim.ensures.ends)

pub returns-in_err-claim-clause-idle : goal.returns-in_err-claim-clause-idle
returns-in_err-claim-clause-idle c = λ told idle.
    let at = goal.at.returns-in_err-claim-clause-idle c in
    absurd (is_no_answer at.In-Some-main_range (total_is at.After-total_memory-total) told idle)

pub reserve_low_part-requires-clause-away : goal.reserve_low_part-requires-clause-away
reserve_low_part-requires-clause-away c = c.in_ok-claim.ensures.away c.requires.begun c.in-Some-main_range.ensures.away

pub returns-then-needs_low_part-clause-ends : goal.returns-then-needs_low_part-clause-ends
returns-then-needs_low_part-clause-ends c =
    let at = goal.at.returns-then-needs_low_part-clause-ends c in
    let low = c.unwrap_or-low.result in
    rw (by_main at.In-Some-main_range (total_is at.After-total_memory-total), ← c.unwrap_or-low.ensures)
    (main-then c.reserve_low_part.result c.args.memblock.now.journal.items c.claim.new.self.journal.items
    c.reserve_low_part.new.memblock.journal.items low c.in-Some.area c.in-Some-main_range.main true c.if-needs_low_part.ensures
    c.in_ok-claim.ensures.ends c.reserve_low_part.ensures.ends)

pub returns-then-needs_low_part-clause-idle : goal.returns-then-needs_low_part-clause-idle
returns-then-needs_low_part-clause-idle c = λ told idle.
    let at = goal.at.returns-then-needs_low_part-clause-idle c in
    absurd (is_no_answer at.In-Some-main_range (total_is at.After-total_memory-total) told idle)

pub returns-then-needs_low_part-clause-goes_on : goal.returns-then-needs_low_part-clause-goes_on
returns-then-needs_low_part-clause-goes_on c =
    goes-then c.args.memblock.now c.claim.new.self c.reserve_low_part.new.memblock
    c.claim.ensures.goes_on c.reserve_low_part.ensures.goes_on

pub returns-else-needs_low_part-clause-ends : goal.returns-else-needs_low_part-clause-ends
returns-else-needs_low_part-clause-ends c =
    let at = goal.at.returns-else-needs_low_part-clause-ends c in
    let new = c.claim.new.self.journal.items in
    let main = c.in-Some-main_range.main in
    rw (by_main at.In-Some-main_range (total_is at.After-total_memory-total), ← c.unwrap_or-low.ensures)
    (main-then (Ok (crash.At main None)) c.args.memblock.now.journal.items new new c.unwrap_or-low.result c.in-Some.area main false
    c.if-needs_low_part.ensures c.in_ok-claim.ensures.ends (refl, refl))

pub returns-else-needs_low_part-clause-idle : goal.returns-else-needs_low_part-clause-idle
returns-else-needs_low_part-clause-idle c = λ told idle.
    let at = goal.at.returns-else-needs_low_part-clause-idle c in
    absurd (is_no_answer at.In-Some-main_range (total_is at.After-total_memory-total) told idle)
