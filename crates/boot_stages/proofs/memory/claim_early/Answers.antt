-- Each claim is one item. After the first one, something has happened to memory.
use Rattle.std.proofs.Common.{Ok, refl}
use Rattle.memblock_model.specs.declared.owner.Owner.TheVariants as owner
use Rattle.memblock_model.specs.declared.item.Item.TheVariants as item
use Rattle.growth_model.specs.Growth.{claim_range}
use Rattle.growth_model.specs.Tables.{HasFirstItem}
use Rattle.memblock_grow.specs.Continues.{ContinuesMemblock}
use Rattle.growth_model.proofs.SoundLaws.{ends-begun, may-keep}
use Rattle.memblock_grow.proofs.GoingLaws.{goes-then}
use Rattle.boot_stages.proofs.ItemsLaws.{carries-change, change_writing_item-exit, change_writing_item-second, claim-begun, on_ok}
use Rattle.boot_stages.proofs.ExitLaws.{exit}
use Rattle.boot_stages.proofs.memory.claim_early.Goals as goal
use Rattle.boot_stages.proofs.memory.claim_early.Goals.{After-claim-2, In_ok-claim-2}

-- memblock continues after the second claim, and something has happened to memory
claimed_both : (c : After-claim-2) → ContinuesMemblock c.args.memblock.now c.claim-2.new.self
claimed_both c =
    goes-then _ c.claim.new.self _ c.claim.ensures.goes_on
    c.claim-2.ensures.goes_on

both_begun : (c : In_ok-claim-2) → HasFirstItem c.claim-2.new.self.journal.items
both_begun c = claim-begun _ _ _ c.range_below_address.result owner.Low64K c.in_ok-claim-2.ensures.ends

pub returns-in_err-claim-clause-ends : goal.returns-in_err-claim-clause-ends
returns-in_err-claim-clause-ends c =
    change_writing_item-exit c.in_err-claim.field-0.0 _ (item.Claim c.args.kernel owner.Kernel) _ _ _ (exit _ _ c.from_residual.ensures.1)
    c.in_err-claim.ensures.ends

pub claim-requires-2-clause-may : goal.claim-requires-2-clause-may
claim-requires-2-clause-may c =
    may-keep _ _ _ owner.Low64K (claim-begun _ _ _ c.args.kernel owner.Kernel c.in_ok-claim.ensures.ends) refl

pub returns-in_err-claim-2-clause-ends : goal.returns-in_err-claim-2-clause-ends
returns-in_err-claim-2-clause-ends c =
    rw (← c.range_below_address.ensures)
    (change_writing_item-second _ (item.Claim c.args.kernel owner.Kernel) _ _ _ _ c.in_ok-claim.ensures.ends
    (change_writing_item-exit c.in_err-claim-2.field-0.0 _ (item.Claim c.range_below_address.result owner.Low64K) _ _ _
    (exit _ _ c.from_residual-in_err-claim-2.ensures.1) c.in_err-claim-2.ensures.ends))

pub claim-requires-in-Some-clause-may : goal.claim-requires-in-Some-clause-may
claim-requires-in-Some-clause-may c =
    may-keep _ _ _ owner.Initrd (both_begun (goal.at.claim-requires-in-Some-clause-may c).In_ok-claim-2) refl

pub returns-in-Some-clause-ends : goal.returns-in-Some-clause-ends
returns-in-Some-clause-ends c =
    rw (c.in-Some.is, ← c.range_below_address.ensures)
    (change_writing_item-second _ (item.Claim c.args.kernel owner.Kernel) _ _ _ _ c.in_ok-claim.ensures.ends
    (change_writing_item-second _ (item.Claim c.range_below_address.result owner.Low64K) _ _ _ _ c.in_ok-claim-2.ensures.ends
    (carries-change _ (item.Claim c.in-Some.range owner.Initrd) _ _ c.claim-in-Some.ensures.ends)))

pub returns-in-Some-clause-begun : goal.returns-in-Some-clause-begun
returns-in-Some-clause-begun c =
    on_ok _ _ (ends-begun _ _ _ (claim_range c.in-Some.range owner.Initrd)
    (both_begun (goal.at.returns-in-Some-clause-begun c).In_ok-claim-2) c.claim-in-Some.ensures.ends)

pub returns-in-None-clause-ends : goal.returns-in-None-clause-ends
returns-in-None-clause-ends c =
    rw (c.in-None.is, ← c.range_below_address.ensures) (change_writing_item-second (Ok tt) (item.Claim c.args.kernel owner.Kernel) _ _ _ _
    c.in_ok-claim.ensures.ends
    (carries-change (Ok tt) (item.Claim c.range_below_address.result owner.Low64K) _ _ c.in_ok-claim-2.ensures.ends))

pub returns-in-None-clause-begun : goal.returns-in-None-clause-begun
returns-in-None-clause-begun c = both_begun (goal.at.returns-in-None-clause-begun c).In_ok-claim-2

pub returns-in_err-claim-2-clause-goes_on : goal.returns-in_err-claim-2-clause-goes_on
returns-in_err-claim-2-clause-goes_on c = claimed_both (goal.at.returns-in_err-claim-2-clause-goes_on c).After-claim-2

pub returns-in-Some-clause-goes_on : goal.returns-in-Some-clause-goes_on
returns-in-Some-clause-goes_on c =
    goes-then _ c.claim-2.new.self _ (claimed_both (goal.at.returns-in-Some-clause-goes_on c).After-claim-2)
    c.claim-in-Some.ensures.goes_on

pub returns-in-None-clause-goes_on : goal.returns-in-None-clause-goes_on
returns-in-None-clause-goes_on c = claimed_both (goal.at.returns-in-None-clause-goes_on c).After-claim-2
