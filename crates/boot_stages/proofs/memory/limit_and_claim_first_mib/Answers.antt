-- Two items: the limit, and then the claim of the first MiB.
use Rattle.std.proofs.Common.{[], ◌∷◌, refl, ap, arith}
use Rattle.memblock_model.specs.declared.owner.Owner.TheVariants as owner
use Rattle.memblock_model.specs.declared.item.Item.TheVariants as item
use Rattle.memblock_grow.specs.MemblockView.{MemblockView}
use Rattle.memblock_grow.proofs.GoingLaws.{goes-then}
use Rattle.boot_stages.proofs.ItemsLaws.{carries-change, carries-wanting, change_writing_item-second}
use Rattle.boot_stages.proofs.ExitLaws.{exit}
use Rattle.boot_stages.proofs.memory.limit_and_claim_first_mib.Goals as goal

pub returns-in_err-set_limit-clause-ends : goal.returns-in_err-set_limit-clause-ends
returns-in_err-set_limit-clause-ends c =
    carries-wanting _ (item.Limit c.args.end) _ _ _ (exit _ _ c.from_residual.ensures.1) (omega arith)
    (ap (λ (m : MemblockView). m.journal.items) c.in_err-set_limit.ensures.appends.0)

pub returns-clause-ends : goal.returns-clause-ends
returns-clause-ends c =
    rw (← c.range_below_address.ensures)
    (change_writing_item-second _ (item.Limit c.args.end) (item.Claim c.range_below_address.result owner.Low1M ∷ []) _ _ _
    (refl, c.in_ok-set_limit.ensures.appends.0)
    (carries-change _ (item.Claim c.range_below_address.result owner.Low1M) _ _ c.claim.ensures.ends))

pub returns-clause-goes_on : goal.returns-clause-goes_on
returns-clause-goes_on c =
    goes-then _ c.set_limit.new.self _ c.set_limit.ensures.goes_on
    c.claim.ensures.goes_on
