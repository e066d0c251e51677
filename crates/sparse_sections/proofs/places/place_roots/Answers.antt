-- The table, and then the roots.
use Rattle.std.proofs.Common.{ap}
use Rattle.std.proofs.lemmas.Result.{err_from_is_err_and}
use Rattle.memblock_model.specs.declared.query.Request.{Request}
use Rattle.memblock_grow.proofs.GoingLaws.{goes-then}
use Rattle.sparse_sections.proofs.RootLaws.{place_roots-fail, place_roots-stop, place_roots-all}
use Rattle.sparse_sections.proofs.places.place_roots.Goals as goal

pub place_or_stop-requires-clause-aligned : goal.place_or_stop-requires-clause-aligned
place_or_stop-requires-clause-aligned c = (6, ap (λ (q : Request). q.align) c.table_request-request.ensures)

pub returns-in_err-table-clause-ends : goal.returns-in_err-table-clause-ends
returns-in_err-table-clause-ends c =
    let p = err_from_is_err_and c.from_residual.result c.from_residual.ensures.1 in
    rw (p.1, p.2) (place_roots-fail c.in_err-table.field-0.0 c.args.width c.table_request-request.result c.args.sections.now
    c.args.memblock.now.journal.items c.place_or_stop.new.memblock.journal.items c.table_request-request.ensures
    c.in_err-table.ensures.ends)

pub returns-in_err-roots : goal.returns-in_err-roots
returns-in_err-roots c =
    let p = err_from_is_err_and c.from_residual-in_err-roots.result c.from_residual-in_err-roots.ensures.1 in
    record {
      ends = rw (p.1, p.2) (place_roots-stop c.in_err-roots.field-0.0 c.in_ok-table.table c.args.width c.table_request-request.result
          c.args.sections.now c.args.memblock.now.journal.items c.place_or_stop.new.memblock.journal.items
          c.place_each_root.new.memblock.journal.items c.table_request-request.ensures c.in_ok-table.ensures.ends
          c.in_err-roots.ensures.ends);
      goes_on = goes-then c.args.memblock.now c.place_or_stop.new.memblock c.place_each_root.new.memblock c.in_ok-table.ensures.goes_on
          c.in_err-roots.ensures.goes_on;
    }

pub returns : goal.returns
returns c = record {
  ends = place_roots-all c.in_ok-table.table c.in_ok-roots.roots.items c.args.width c.table_request-request.result c.args.sections.now
      c.args.memblock.now.journal.items c.place_or_stop.new.memblock.journal.items c.place_each_root.new.memblock.journal.items
      c.table_request-request.ensures c.in_ok-table.ensures.ends c.in_ok-roots.ensures.ends;
  goes_on = goes-then c.args.memblock.now c.place_or_stop.new.memblock c.place_each_root.new.memblock c.in_ok-table.ensures.goes_on
      c.in_ok-roots.ensures.goes_on;
}
