-- The tables are those of the items after the trim.
use Rattle.std.proofs.Common.{refl, sym}
use Rattle.memblock_model.specs.declared.item.Item.TheVariants as item
use Rattle.growth_model.proofs.SoundLaws.{trim-stands}
use Rattle.memblock_model.specs.declared.owner.Which.TheVariants as which
use Rattle.growth_model.proofs.ToldLaws.{edit-told}
use Rattle.memblock_grow.proofs.KeptLaws.{kept-trim}
use Rattle.memblock_grow.proofs.GoingLaws.{goes-none}
use Rattle.memblock_grow.proofs.MemblockLaws.{follows-one, whole-one}
use Rattle.memblock_grow.proofs.memblock.Memblock.trim.Goals as goal

pub returns-in_err-push-clause-goes_on : goal.returns-in_err-push-clause-goes_on
returns-in_err-push-clause-goes_on c =
    rw (sym c.self.view_is, c.in_err-push.ensures.err) (goes-none _ c.self.invariant.kept.memory c.self.invariant.kept.reserved
    c.self.invariant.spelled)

pub invariant_of-self-2 : goal.invariant_of-self-2
invariant_of-self-2 c =
    whole-one item.Trim c.self.invariant c.in_ok-push.ensures.ok
    (kept-trim c.self.invariant.kept c.trim.new.self c.trim.ensures.memory c.trim.ensures.reserved) (λ x.
    refl) (edit-told which.Memory c.self.inside.tables c.trim.new.self _ c.trim.ensures.memory c.trim.ensures.elsewhere
    c.tables_are_in_store.ensures.memory c.tables_are_in_store.ensures.reserved)
    (trim-stands _ _ _ c.self.invariant.placed (rw (sym c.self.view_is) at c.requires) c.in_ok-push.ensures.ok)

pub returns-clause-goes_on : goal.returns-clause-goes_on
returns-clause-goes_on c =
    rw (sym c.self.view_is) (record {
      kernel = refl;
      bytes = follows-one item.Trim c.self.invariant c.in_ok-push.ensures.ok
          (kept-trim c.self.invariant.kept c.trim.new.self c.trim.ensures.memory c.trim.ensures.reserved) (λ x. refl)
          (edit-told which.Memory c.self.inside.tables c.trim.new.self _ c.trim.ensures.memory c.trim.ensures.elsewhere
          c.tables_are_in_store.ensures.memory c.tables_are_in_store.ensures.reserved);
      ready = λ x h. rw (c.trim.ensures.ready x) h;
    })
