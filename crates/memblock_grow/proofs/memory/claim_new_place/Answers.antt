use Rattle.std.proofs.Common.{refl}
use Rattle.memblock_model.specs.declared.owner.Which.TheVariants as which
use Rattle.memblock_model.specs.declared.owner.Owner.{Owner}
use Rattle.memblock_model.specs.declared.owner.Owner.TheVariants as owner
use Rattle.growth_model.specs.declared.refusal.Refusal.TheVariants as refusal
use Rattle.growth_model.specs.Growth.{claim_range}
use Rattle.growth_model.proofs.EndLaws.{EndsAsChange-wanting}
use Rattle.memblock_grow.proofs.PreparedLaws.{prepares-with, none-on-err}
use Rattle.memblock_grow.proofs.ReservedLaws.{still-bytes}
use Rattle.memblock_grow.proofs.ChangeLaws.{handed}
use Rattle.memblock_grow.proofs.ClaimLaws.{claim-begins, claim-prepares}
use Rattle.memblock_grow.proofs.memory.claim_new_place.Goals as goal

pub returns-in_err-check_claim-clause-bytes : goal.returns-in_err-check_claim-clause-bytes
returns-in_err-check_claim-clause-bytes c = still-bytes c.args.tables.now refl (λ x. refl)

pub returns-in_err-prepare-clause-ends : goal.returns-in_err-prepare-clause-ends
returns-in_err-prepare-clause-ends c =
    let who : Owner = owner.Table which.Memory in
    rw (handed c.from_residual-in_err-prepare.result refusal.Memory c.from_residual-in_err-prepare.ensures.1)
    (EndsAsChange-wanting (Unit {0}) c.args.journal.now.items (claim_range c.args.place who)
    (claim-begins c.args.place who c.args.journal.now.items (c.in_ok-check_claim.ensures.ok who)))

pub returns-in_err-prepare-clause-bytes : goal.returns-in_err-prepare-clause-bytes
returns-in_err-prepare-clause-bytes c = still-bytes c.prepare.new.self refl c.prepare.ensures.bytes

pub returns-in_err-prepare-clause-err : goal.returns-in_err-prepare-clause-err
returns-in_err-prepare-clause-err c =
    none-on-err c.from_residual-in_err-prepare.result c.args.journal.now.items c.in_err-prepare.ensures.err

pub returns-clause-err : goal.returns-clause-err
returns-clause-err c =
    claim-prepares c.claim.result (owner.Table which.Memory)
    (c.in_ok-check_claim.ensures.ok (owner.Table which.Memory)) c.claim.ensures.ends
    (prepares-with c.in_ok-prepare.ensures.ready c.claim.ensures.prepared)
