use Rattle.std.proofs.Common.{ℕ, ◌+◌, ◌<◌, ◌≤◌, List, length, get_or, map, ◌∙◌, ap, arith}
use Rattle.phys_store.specs.Bytes.{byte_of}
use Rattle.phys_store.specs.Extents.{extent_view}
use Rattle.phys_store.proofs.Lookup.{prepared-small}
use Rattle.phys_store.proofs.ByteLists.{length-bytes_at, get-bytes_at}
use Rattle.phys_store.proofs.Writes.{wrote-like, copied-more}
use Rattle.phys_store.proofs.extents.copy_bytes.Goals as goal

pub overflow_add-from : goal.overflow_add-from
overflow_add-from c =
    let some : 0 < c.args.count = omega (arith, c.loop-done-test.true) in
    omega (arith, c.loop-done-test.true, prepared-small _ c.args.from c.args.count c.requires.apart c.requires.read some)

pub overflow_add-to : goal.overflow_add-to
overflow_add-to c =
    let some : 0 < c.args.count = omega (arith, c.loop-done-test.true) in
    omega (arith, c.loop-done-test.true, prepared-small _ c.args.to c.args.count c.requires.apart c.requires.written some)

pub loop-done-preserved : goal.loop-done-preserved
loop-done-preserved c =
    let i = c.loop-done.invariant in
    let n = c.min-n.result in
    let t = map extent_view c.loop-done.extents in
    let from = c.args.from + c.loop-done.done in
    let most : c.loop-done.done + n ≤ c.args.count = omega (arith, c.min-n.ensures, c.loop-done-test.true) in
    let is = c.copy_from_slice.ensures.after ∙ c.slice.ensures in
    record {
      most = most;
      apart = c.write.ensures.apart;
      wrote = copied-more (map extent_view c.args.extents.now) t (map extent_view c.write.new.extents) c.args.from c.args.to c.args.count
          c.loop-done.done n c.requires.disjoint most i.wrote
          (wrote-like t (map extent_view c.write.new.extents) (c.args.to + c.loop-done.done) (length c.copy_from_slice.new.self) n
          (λ k. get_or c.copy_from_slice.new.self k 0) (λ k. byte_of t (from + k)) c.write.ensures.wrote
          (ap length is ∙ length-bytes_at (byte_of t) from n)
          (λ k below. ap (λ (bs : List ℕ). get_or bs k 0) is ∙ get-bytes_at (byte_of t) from n k below));
    }
