-- The table is judged against the memory that the memory table gives.
use Rattle.std.proofs.lemmas.Result.{err_from_is_err_and}
use Rattle.std.specs.Option.{option_map, option_copied}
use Rattle.memblock_model.specs.Items.{limit_of}
use Rattle.srat_reader.specs.Table.{srat_view}
use Rattle.srat_nodes.specs.SratNodesView.{judge_srat, srat_nodes_view}
use Rattle.srat_nodes.specs.Kept.{is_in_any_range}
use Rattle.numa_nodes.specs.Assignment.{is_memory_byte}
use Rattle.numa_nodes.proofs.AssignLaws.{assign_nodes-is, by-wanting, can-get, ranges-tell, records-tell}
use Rattle.numa_nodes.proofs.stage.assign.Goals as goal

pub returns-in_err-memory-clause-ends : goal.returns-in_err-memory-clause-ends
returns-in_err-memory-clause-ends c =
    let items = c.args.memblock.now.journal.items in
    let table = option_map srat_view (option_copied c.args.srat) in
    let p = err_from_is_err_and c.from_residual.result c.from_residual.ensures.1 in
    rw (p.1, p.2, assign_nodes-is table c.args.off items) (by-wanting items (judge_srat (is_memory_byte items) c.args.off table))

pub returns-in_err-found-clause-ends : goal.returns-in_err-found-clause-ends
returns-in_err-found-clause-ends c =
    let items = c.args.memblock.now.journal.items in
    let table = option_map srat_view (option_copied c.args.srat) in
    let p = err_from_is_err_and c.from_residual-in_err-found.result c.from_residual-in_err-found.ensures.1 in
    rw (p.1, p.2, assign_nodes-is table c.args.off items) (by-wanting items (judge_srat (is_memory_byte items) c.args.off table))

pub assign_found_nodes-requires-clause-ranges : goal.assign_found_nodes-requires-clause-ranges
assign_found_nodes-requires-clause-ranges c =
    can-get (limit_of c.args.memblock.now.journal.items) (srat_nodes_view c.in_ok-found.found)
    (is_in_any_range c.deref.result.now) c.args.off
    (option_map srat_view (option_copied c.args.srat)) c.requires.limit c.in_ok-found.ensures.value

pub returns-clause-ends : goal.returns-clause-ends
returns-clause-ends c =
    let m = c.args.memblock.now in
    let items = m.journal.items in
    let tells = records-tell m.kernel items c.records.result c.tables.result.now.memory c.records.ensures c.tables.ensures.memory
    c.tables.ensures.within in
    let memory = ranges-tell items c.in_ok-memory.memory.items c.records.result c.in_ok-memory.ensures.bytes tells in
    rw (
      assign_nodes-is (option_map srat_view (option_copied c.args.srat)) c.args.off items,
      ← memory,
      ← c.deref.ensures.value,
      ← c.in_ok-found.ensures.value,
    ) c.assign_found_nodes.ensures.ends

pub returns-clause-goes_on : goal.returns-clause-goes_on
returns-clause-goes_on c = c.assign_found_nodes.ensures.goes_on c.args.memblock.now c.tables.ensures.still
