-- The tables are those of the items with the new direction, which is the direction of the items.
use Rattle.std.proofs.Common.{refl, sym}
use Rattle.memblock_model.specs.declared.item.Item.TheVariants as item
use Rattle.growth_model.proofs.SoundLaws.{upward-stands}
use Rattle.memblock_grow.proofs.KeptLaws.{kept-upward}
use Rattle.memblock_grow.proofs.GoingLaws.{goes-none}
use Rattle.memblock_grow.proofs.MemblockLaws.{follows-one, whole-one}
use Rattle.memblock_grow.proofs.memblock.Memblock.set_upward.Goals as goal

pub returns-in_err-push-clause-goes_on : goal.returns-in_err-push-clause-goes_on
returns-in_err-push-clause-goes_on c =
    rw (sym c.self.view_is, c.in_err-push.ensures.err) (goes-none _ c.self.invariant.kept.memory c.self.invariant.kept.reserved
    c.self.invariant.spelled)

pub invariant_of-self-2 : goal.invariant_of-self-2
invariant_of-self-2 c =
    whole-one (item.Upward c.args.on) c.self.invariant c.in_ok-push.ensures.ok (kept-upward c.self.invariant.kept c.args.on) (λ x. refl)
    c.self.invariant.spelled
    (upward-stands _ _ _ c.args.on c.self.invariant.placed (rw (sym c.self.view_is) at c.requires) c.in_ok-push.ensures.ok)

pub returns-clause-goes_on : goal.returns-clause-goes_on
returns-clause-goes_on c =
    rw (sym c.self.view_is) (record {
      kernel = refl;
      bytes = follows-one (item.Upward c.args.on) c.self.invariant c.in_ok-push.ensures.ok (kept-upward c.self.invariant.kept c.args.on)
          (λ x. refl)
          c.self.invariant.spelled;
      ready = λ x h. h;
    })
