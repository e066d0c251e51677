use Rattle.std.proofs.Common.{arith}
use Rattle.phys_store.proofs.Widening.{moved_up}
use Rattle.phys_store.proofs.prepare.move_up.Goals as goal

pub returns-in_ok-append_from-clause-moved : goal.returns-in_ok-append_from-clause-moved
returns-in_ok-append_from-clause-moved c =
    let v = c.args.bytes.now in
    let w = c.append_from.new.bytes in
    let n = c.copy_within-else-end-from.new.self in
    let by = c.copy_within-else-end-from.ensures.by_index in
    moved_up v.items w.items n.items c.args.from c.args.more c.len-end.result (omega (arith, c.len-end.ensures, v.ok.0))
    (omega (arith, c.if-end-from.false, c.requires, c.len-end.ensures, v.ok.0)) c.in_ok-append_from.ensures.ok
    (omega (arith, n.ok.0, w.ok.0, c.copy_within-else-end-from.ensures.len)) by.0 by.2
