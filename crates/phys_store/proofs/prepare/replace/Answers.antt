use Rattle.std.proofs.Common.{◌≡◌, ℕ, suc, ◌+◌, ◌∙◌, ◌++◌, ◌∷◌, take, drop, ap, arith}
use Rattle.std.proofs.lemmas.List.{set_split}
use Rattle.phys_store.proofs.Joining.{removed_after}
use Rattle.phys_store.proofs.prepare.replace.Goals as goal

pub loop-gone-preserved : goal.loop-gone-preserved
loop-gone-preserved c =
    removed_after c.args.extents.now.items c.remove.new.self.items c.loop-gone.extents.items c.args.extent c.args.first c.loop-gone._gone
    (omega (arith, c.requires.most, c.requires.some)) c.loop-gone.invariant c.remove.ensures.items

pub loop-gone-init : goal.loop-gone-init
loop-gone-init c =
    let es = c.args.extents.now.items in
    let f : ℕ = c.args.first in
    let next : suc f ≡ f + 1 = omega arith in
    set_split es f c.args.extent (omega (arith, c.requires.some, c.requires.most))
    ∙ ap (λ n. take f es ++ c.args.extent ∷ drop n es) next
