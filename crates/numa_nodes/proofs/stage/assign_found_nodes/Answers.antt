-- The ranges get their nodes, and then the data of the nodes is placed.
use Rattle.std.proofs.Common.{◌≡◌, Ok, Err, refl}
use Rattle.std.proofs.lemmas.Result.{err_from_is_err_and}
use Rattle.memblock_model.specs.Items.{limit_of, memory_of}
use Rattle.srat_nodes.specs.SratNodesView.{srat_nodes_view}
use Rattle.stage_steps.specs.Causes.{error_of_stage_cause}
use Rattle.stage_steps.specs.Steps.{fold_steps}
use Rattle.stage_steps.proofs.DoingLaws.{ends-begun}
use Rattle.numa_nodes.specs.Assignment.{set_block_node, nodes_with_memory, node_ranges}
use Rattle.numa_nodes.proofs.AssignLaws.{by-ranges, by-wanting, data-told, data-wanting, records-tell}
use Rattle.numa_nodes.proofs.stage.assign_found_nodes.Goals as goal
use Rattle.numa_nodes.proofs.stage.assign_found_nodes.Goals.{After-deref, After-deref-2}

-- the ranges are those of the judgement, below the limit of the journal
ranges : (c : After-deref) → c.deref.result.now ≡ node_ranges (limit_of c.args.memblock.now.journal.items) (srat_nodes_view c.args.found)
ranges c = rw (
  c.deref.ensures.value,
  c.in_ok-ranges.ensures,
  c.limit_of-limit.ensures,
  c.items.ensures.items,
  c.journal.ensures.journal,
) refl

-- the nodes are those of memory after the ranges
nodes : (c : After-deref-2) → c.deref-2.result.now ≡ nodes_with_memory (memory_of c.set_block_nodes.new.memblock.journal.items)
nodes c =
    let tells = records-tell c.set_block_nodes.new.memblock.kernel c.set_block_nodes.new.memblock.journal.items c.records.result
    c.tables.result.now.memory c.records.ensures c.tables.ensures.memory c.tables.ensures.within in
    rw (c.deref-2.ensures.value, c.in_ok-with_memory.ensures, tells) refl

pub returns-in_err-ranges-clause-ends : goal.returns-in_err-ranges-clause-ends
returns-in_err-ranges-clause-ends c =
    let p = err_from_is_err_and c.from_residual.result c.from_residual.ensures.1 in
    rw (p.1, p.2) (by-wanting c.args.memblock.now.journal.items (srat_nodes_view c.args.found))

pub returns-in_err-set_block_nodes-clause-ends : goal.returns-in_err-set_block_nodes-clause-ends
returns-in_err-set_block_nodes-clause-ends c =
    let p = err_from_is_err_and c.from_residual-in_err-set_block_nodes.result c.from_residual-in_err-set_block_nodes.ensures.1 in
    let are = ranges (goal.at.returns-in_err-set_block_nodes-clause-ends c).After-deref in
    rw (p.1, p.2) (by-ranges c.in_err-set_block_nodes.field-0.0 c.args.memblock.now.journal.items
    c.set_block_nodes.new.memblock.journal.items
    (srat_nodes_view c.args.found) (rw are at c.in_err-set_block_nodes.ensures.ends))

pub returns-in_err-with_memory-clause-ends : goal.returns-in_err-with_memory-clause-ends
returns-in_err-with_memory-clause-ends c =
    let p = err_from_is_err_and c.from_residual-in_err-with_memory.result c.from_residual-in_err-with_memory.ensures.1 in
    let are = ranges (goal.at.returns-in_err-with_memory-clause-ends c).After-deref in
    rw (p.1, p.2) (data-wanting c.args.memblock.now.journal.items c.set_block_nodes.new.memblock.journal.items
    (srat_nodes_view c.args.found)
    (rw are at c.in_ok-set_block_nodes.ensures.ends))

pub place_each_node_data-requires : goal.place_each_node_data-requires
place_each_node_data-requires c =
    let old = c.args.memblock.now.journal.items in
    record {
      begun = ends-begun (Ok tt) error_of_stage_cause old c.set_block_nodes.new.memblock.journal.items
          (fold_steps set_block_node tt c.deref.result.now)
          c.requires.begun c.in_ok-set_block_nodes.ensures.ends;
    }

pub returns-in_err-place_each_node_data-clause-ends : goal.returns-in_err-place_each_node_data-clause-ends
returns-in_err-place_each_node_data-clause-ends c =
    let p = err_from_is_err_and c.from_residual-in_err-place_each_node_data.result c.from_residual-in_err-place_each_node_data.ensures.1 in
    let at = goal.at.returns-in_err-place_each_node_data-clause-ends c in
    let are = ranges at.After-deref in
    let placed = rw (nodes at.After-deref-2) at c.in_err-place_each_node_data.ensures.ends in
    rw (p.1, p.2) (data-told c.args.memblock.now.journal.items c.set_block_nodes.new.memblock.journal.items (srat_nodes_view c.args.found)
    (rw are at c.in_ok-set_block_nodes.ensures.ends)
    (Err c.in_err-place_each_node_data.field-0.0) c.place_each_node_data.new.memblock.journal.items placed)

pub returns-in_err-place_each_node_data-clause-goes_on : goal.returns-in_err-place_each_node_data-clause-goes_on
returns-in_err-place_each_node_data-clause-goes_on c = λ start goes.
    c.in_err-place_each_node_data.ensures.goes_on start (c.in_ok-set_block_nodes.ensures.goes_on start goes)

pub returns-clause-ends : goal.returns-clause-ends
returns-clause-ends c =
    let at = goal.at.returns-clause-ends c in
    let are = ranges at.After-deref in
    let same = nodes at.After-deref-2 in
    rw (← c.deref-2.ensures.value, same) (data-told c.args.memblock.now.journal.items c.set_block_nodes.new.memblock.journal.items
    (srat_nodes_view c.args.found) (rw are at c.in_ok-set_block_nodes.ensures.ends)
    (Ok tt) c.place_each_node_data.new.memblock.journal.items
    (rw same at c.in_ok-place_each_node_data.ensures.ends))

pub returns-clause-goes_on : goal.returns-clause-goes_on
returns-clause-goes_on c = λ start goes.
    c.in_ok-place_each_node_data.ensures.goes_on start (c.in_ok-set_block_nodes.ensures.goes_on start goes)
