-- The sections at the front with the node of the first one are the next group.
use Rattle.std.proofs.Common.{Ok, take, get_or, arith}
use Rattle.std.proofs.lemmas.List.Sums.{prefix_len-le-length}
use Rattle.std.proofs.lemmas.Result.{err_from_is_err_and}
use Rattle.stage_steps.specs.Causes.{error_of_stage_cause}
use Rattle.stage_steps.proofs.DoingLaws.{ends-begun}
use Rattle.memblock_grow.proofs.GoingLaws.{goes-then}
use Rattle.section_maps.specs.Maps.{place_group}
use Rattle.section_maps.proofs.MapLaws.{no_section}
use Rattle.section_maps.proofs.GroupLaws.{is_of, own_part, goes-first, goes-next, goes-stops, goes-all, place_maps-wanting}
use Rattle.section_maps.proofs.maps.place_maps.Goals as goal

pub loop-rest-init : goal.loop-rest-init
loop-rest-init c = record {
  goes = goes-first c.args.memblock.now.journal.items c.args.sections.now c.in_ok-placed.placed.items c.in_ok-placed.ensures.empty;
  few = c.count_sections.ensures.few;
  room = omega (arith, c.in_ok-placed.ensures.room);
  begun = c.requires.begun;
  goes_on = c.no_items_no_change.ensures;
}

pub returns-in_err-placed-clause-ends : goal.returns-in_err-placed-clause-ends
returns-in_err-placed-clause-ends c =
    let p = err_from_is_err_and c.from_residual.result c.from_residual.ensures.1 in
    rw (p.1, p.2) (place_maps-wanting c.args.memblock.now.journal.items c.args.sections.now)

pub split_at-requires : goal.split_at-requires
split_at-requires c =
    let rest = c.loop-rest.rest.now in
    rw c.count_same_node.ensures (prefix_len-le-length (is_of (get_or rest 0 no_section).node) rest)

pub returns-in_err-place_group-clause-ends : goal.returns-in_err-place_group-clause-ends
returns-in_err-place_group-clause-ends c =
    let p = err_from_is_err_and c.from_residual-in_err-place_group.result c.from_residual-in_err-place_group.ensures.1 in
    rw (p.1, p.2) (goes-stops c.in_err-place_group.field-0.0 c.place_group.new.memblock.journal.items c.loop-rest.rest.now no_section
    c.in-len1-up.len_at_least (rw (c.split_at.ensures.front, c.count_same_node.ensures) at c.in_err-place_group.ensures.ends)
    c.loop-rest.invariant.goes)

pub returns-in_err-place_group-clause-goes_on : goal.returns-in_err-place_group-clause-goes_on
returns-in_err-place_group-clause-goes_on c =
    goes-then c.args.memblock.now c.loop-rest.memblock c.place_group.new.memblock c.loop-rest.invariant.goes_on
    c.in_err-place_group.ensures.goes_on

pub loop-rest-preserved : goal.loop-rest-preserved
loop-rest-preserved c =
    let rest = c.loop-rest.rest.now in
    let now = c.loop-rest.memblock.journal.items in
    let mid = c.place_group.new.memblock.journal.items in
    let longer = c.place_group.new.placed.items in
    let was = rw (c.split_at.ensures.front, c.count_same_node.ensures) at c.in_ok-place_group.ensures.ends in
    record {
      goes = rw (c.split_at.ensures.back, c.count_same_node.ensures) (goes-next mid longer rest no_section c.in-len1-up.len_at_least was
          c.loop-rest.invariant.goes);
      few = omega arith;
      room = omega arith;
      begun = ends-begun (Ok longer) error_of_stage_cause now mid
          (place_group c.loop-rest.placed.items (get_or rest 0 no_section) (take (own_part no_section rest) rest))
          c.loop-rest.invariant.begun was;
      goes_on = goes-then c.args.memblock.now c.loop-rest.memblock c.place_group.new.memblock c.loop-rest.invariant.goes_on
          c.in_ok-place_group.ensures.goes_on;
    }

pub returns-clause-ends : goal.returns-clause-ends
returns-clause-ends c = goes-all c.loop-rest.rest.now (omega arith) c.loop-rest.invariant.goes
