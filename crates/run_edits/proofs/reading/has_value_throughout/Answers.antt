use Rattle.std.proofs.Common.{◌≡◌, ◌<◌, ◌≤◌, ◌^◌, ℕ, Option, Some, true, false, sym, ◌∙◌, arith}
use Rattle.std.proofs.lemmas.Bool.Decides.{nat_tests}
use Rattle.std.proofs.lemmas.Grind.{common_steps}
use Rattle.bm_base.specs.Range.{end_of}
use Rattle.address_runs.specs.Runs.{value_at}
use Rattle.run_edits.proofs.HoldLaws.{holds_so_far, holds_no_further}
use Rattle.run_edits.proofs.reading.has_value_throughout.Goals as goal

pub returns-then-agree : goal.returns-then-agree
returns-then-agree g c =
    let f : ℕ → Option g.row.S-Value.Denot = value_at (g.T.Rows.list c.args.table.now) in
    let from : ℕ = c.range.inside.base in
    let next : ℕ = c.value_and_end-here.result.1 in
    let base : from ≡ c.args.range.now.base = grind (arith, common_steps) in
    let end : c.end.result ≡ end_of c.args.range.now = c.end.ensures.value in
    let small : from < 2 ^ 64 = grind (arith, common_steps) in
    let first : f from ≡ Some c.args.value = sym (c.value_and_end-here.ensures.value f c.first_ending_above-read.ensures.rest)
    ∙ c.agree.ensures.0 c.if-agree.true in (
      λ far x above under.
          let until : end_of c.args.range.now ≤ next = grind (arith, nat_tests) in
          holds_so_far f from (end_of c.args.range.now) next c.args.value first
          (c.value_and_end-here.ensures.stays f c.first_ending_above-read.ensures.rest)
          until x (omega arith) under,
      λ each.
          let until : end_of c.args.range.now ≤ next = holds_no_further f from (end_of c.args.range.now) next c.args.value first
          (c.value_and_end-here.ensures.forward c.first_ending_above-read.ensures.rest.ends small)
          (c.value_and_end-here.ensures.another f c.first_ending_above-read.ensures.rest) (λ x above under. each x (omega arith) under) in
          grind (arith, nat_tests),
    )

pub returns-else-agree : goal.returns-else-agree
returns-else-agree g c =
    let f : ℕ → Option g.row.S-Value.Denot = value_at (g.T.Rows.list c.args.table.now) in
    let from : ℕ = c.range.inside.base in
    let base : from ≡ c.args.range.now.base = grind (arith, common_steps) in
    let some : from < end_of c.args.range.now = grind (arith, common_steps) in (
      λ equal. let clash : false ≡ true = rw c.if-agree.false at equal in cc,
      λ each. c.agree.ensures.1
          (c.value_and_end-here.ensures.value f c.first_ending_above-read.ensures.rest ∙ each from (omega arith) some),
    )
