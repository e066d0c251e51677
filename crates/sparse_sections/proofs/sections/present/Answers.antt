-- A record's sections follow those below it, and from the next section on the record has no byte.
use Rattle.std.proofs.Common.{◌≡◌, ◌+◌, ◌-◌, ◌/◌, drop, get_or, sym, ◌∙◌, arith}
use Rattle.std.proofs.lemmas.List.{drop_all}
use Rattle.address_runs.specs.Runs.{RunOf, run_end, value_at}
use Rattle.memblock_model.specs.Labels.{LabelView}
use Rattle.sparse_sections.proofs.PresentLaws.{IsNext, nobody, left-all, left-next, next-record, sections-record, present-none, present-end}
use Rattle.sparse_sections.proofs.sections.present.Goals as goal
use Rattle.sparse_sections.proofs.sections.present.Goals.{After-get-region}

next : (c : After-get-region) → IsNext (value_at c.args.tables.now.memory.records) c.loop-i.next c.args.tables.now.memory.records c.loop-i.i
    c.get-region.result
next c =
    let many = rw c.records-records.ensures at c.count-i-end.ensures.count in
    next-record (value_at c.args.tables.now.memory.records) c.loop-i.next c.args.tables.now.memory.records c.loop-i.i c.get-region.result
    (omega (arith, many, c.loop-i-test.true)) c.requires c.loop-i.invariant.left
    (rw c.records-records.ensures at (c.get-region.ensures.region nobody))

pub loop-i-init : goal.loop-i-init
loop-i-init c =
    let rs = c.args.tables.now.memory.records in
    record {
      put = c.new-sections.ensures.items ∙ sym (present-none (value_at rs));
      left = left-all rs (rw c.records-records.ensures at c.count-i-end.ensures.records.runs);
      reach = omega arith;
    }

pub section_numbers-first-requires : goal.section_numbers-first-requires
section_numbers-first-requires c =
    let n = next (goal.at.section_numbers-first-requires c).After-get-region in record { some = n.some; reach = n.reach }

pub push_sections-requires : goal.push_sections-requires
push_sections-requires c =
    let n = next (goal.at.push_sections-requires c).After-get-region in
    omega (arith, n.from, n.some, c.section_numbers-first.ensures.first, c.section_numbers-first.ensures.until)

pub loop-i-preserved : goal.loop-i-preserved
loop-i-preserved c =
    let rs = c.args.tables.now.memory.records in
    let n = next (goal.at.loop-i-preserved c).After-get-region in
    let r : RunOf LabelView = get_or rs c.loop-i.i nobody in
    let until : c.section_numbers-first.result.1 ≡ (run_end r - 1) / 0x8000000 + 1 =
    rw (n.base, n.size) at c.section_numbers-first.ensures.until in
    record {
      put = rw (c.in_ok-push_sections.ensures, c.loop-i.invariant.put) (sym (sections-record (value_at rs) c.loop-i.next r
          (drop (c.loop-i.i + 1) rs) c.section_numbers-first.result.0 c.section_numbers-first.result.1 c.get-region.result.node n.left
          n.whole.base
          n.node (rw n.base at c.section_numbers-first.ensures.first) until));
      left = rw until (left-next (value_at rs) c.loop-i.next r (drop (c.loop-i.i + 1) rs) n.left);
      reach = omega (arith, until, n.base, n.size, n.reach);
    }

pub returns : goal.returns
returns c =
    let rs = c.args.tables.now.memory.records in
    let many = rw c.records-records.ensures at c.count-i-end.ensures.count in
    let none = drop_all c.loop-i.i rs (omega (arith, many, c.loop-i-test.false)) in
    c.loop-i.invariant.put ∙ present-end (value_at rs) c.loop-i.next (rw none at c.loop-i.invariant.left) c.loop-i.invariant.reach
