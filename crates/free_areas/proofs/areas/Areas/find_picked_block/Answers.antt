use Rattle.std.proofs.Common.{◌≡◌, Option, Some, None, MatchOption, List, [], ◌∷◌, sym, subst}
use Rattle.std.specs.Option.{option_copied}
use Rattle.std.proofs.Common.{Bor}
use Rattle.buddy_blocks.specs.declared.block.Block.{Block}
use Rattle.free_areas.specs.Areas.{IndexesFreeBlocks}
use Rattle.free_areas.proofs.LeastLaws.{least_is}
use Rattle.free_areas.proofs.areas.Areas.find_picked_block.Goals as goal

-- a copy of the first key of the range
IsFront : List Block → Option Block → Type 0
IsFront r first = MatchOption first (r ≡ []) (λ b. (rest : List Block) × (r ≡ b ∷ rest))

front_copied : (o : Option (Bor Block)) (r rest : List Block) → MatchOption o ((r ≡ []) × (rest ≡ [])) (λ x. r ≡ x.now ∷ rest)
    → IsFront r (option_copied o)
unfolding IsFront
front_copied None r rest is = is.0
front_copied (Some x) r rest is = (rest, is)

pub returns : goal.returns
unfolding IsFront
returns c = λ f areas.
    least_is f c.self.inside.blocks c.args.node c.args.zone c.args.order c.range.result c.copied.result
    (subst (λ (bs : List Block). IndexesFreeBlocks f bs) (sym c.self.view_is) areas) (c.range.ensures.in_range tt)
    (subst (λ (o : Option Block). IsFront c.range.result o) (sym c.copied.ensures)
    (front_copied c.next.result c.range.result c.next.new.self c.next.ensures.steps))
