use Rattle.std.proofs.Common.{◌≡◌, ℕ, ◌+◌, ◌-◌, ◌/◌, List, ap, arith}
use Rattle.address_runs.specs.Runs.{RunOf}
use Rattle.memblock_model.specs.Labels.{LabelView}
use Rattle.memblock_ranges.specs.declared.region.Region.{Region}
use Rattle.memblock_find.specs.Walk.{nth_record}
use Rattle.memblock_find.proofs.DownLaws.{all_begun, begun_so_far, not_begun_from}
use Rattle.memblock_find.proofs.down.count_beginning_among.Goals as goal
use Rattle.memblock_find.proofs.down.count_beginning_among.Goals.{then-count-eq0-via-then-count-eq0, then-count-eq0-via-else-count-eq0+then-get-at}

pub returns-then-count-eq0 : goal.returns-then-count-eq0
returns-then-count-eq0 c =
    let rs : List (RunOf LabelView) = c.args.records.now in
    all_begun rs c.args.at c.args.count c.requires
    (λ some. elim c.then-count-eq0.branch [
      | then-count-eq0-via-then-count-eq0 w ↦ absurd (omega (arith, w.if-count-eq0.true))
      | then-count-eq0-via-else-count-eq0+then-get-at w ↦
          let base : w.get.result.base ≡ (nth_record rs (c.args.count - 1)).base =
          ap (λ (g : Region). g.base) (w.get.ensures.region _) in
          let under = w.if-get-at.true in
          omega arith
    ])

pub loop-low-preserved-then-get-at-2 : goal.loop-low-preserved-then-get-at-2
loop-low-preserved-then-get-at-2 c =
    let rs : List (RunOf LabelView) = c.args.records.now in
    let middle : ℕ = c.loop-low.low + (c.loop-low.high - c.loop-low.low) / 2 in
    let base : c.get-in-loop-low.result.base ≡ (nth_record rs middle).base =
    ap (λ (g : Region). g.base) (c.get-in-loop-low.ensures.region _) in
    let within = c.loop-low.invariant.within in
    let test = c.loop-low-test.true in
    let under = c.if-get-at-2.true in
    record {
      order = omega arith;
      within = within;
      before = begun_so_far rs c.args.at middle c.requires.runs (omega arith) (omega arith);
      after = c.loop-low.invariant.after;
    }

pub loop-low-preserved : goal.loop-low-preserved
loop-low-preserved c =
    let rs : List (RunOf LabelView) = c.args.records.now in
    let middle : ℕ = c.loop-low.low + (c.loop-low.high - c.loop-low.low) / 2 in
    let base : c.get-in-loop-low.result.base ≡ (nth_record rs middle).base =
    ap (λ (g : Region). g.base) (c.get-in-loop-low.ensures.region _) in
    let within = c.loop-low.invariant.within in
    let test = c.loop-low-test.true in
    let after = c.if-get-at-2.false in
    record {
      order = omega arith;
      within = omega arith;
      before = c.loop-low.invariant.before;
      after = not_begun_from rs c.args.at middle c.requires.runs (omega arith);
    }
