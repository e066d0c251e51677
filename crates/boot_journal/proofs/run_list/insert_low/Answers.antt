use Rattle.std.proofs.Common.{List, ◌+◌, ◌-◌, set, drop, ◌∙◌, ap, arith}
use Rattle.address_runs.specs.Runs.{RunOf}
use Rattle.memblock_model.specs.declared.owner.Owner.{Owner}
use Rattle.boot_journal.proofs.RunListLaws.{drop-moved}
use Rattle.boot_journal.proofs.run_list.insert_low.Goals as goal

pub returns-clause-items : goal.returns-clause-items
returns-clause-items c =
    ap (λ (rs : List (RunOf Owner)). drop (c.args.front - 1) (set rs (c.args.front - 1 + c.args.i) c.args.run)) c.copy_within.ensures.items
    ∙ drop-moved (c.args.front - 1) c.args.front c.args.i c.args.run c.args.records.now.items (omega (arith, c.requires.some))
    (omega (arith, c.requires.within, c.args.records.now.ok.0))
