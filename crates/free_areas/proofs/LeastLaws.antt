-- Lemmas: the first key of the range from an order on is the block that is picked.
use Rattle.std.proofs.Common.{◌≡◌, ℕ, ◌<◌, ◌≤◌, Option, Some, None, MatchOption, List, [], ◌∷◌, refl, sym, ◌∙◌, subst, inl, inr, ⊎_elim, arith}
use Rattle.std.specs.declared.ops.Bound.TheVariants.{Included, Excluded}
use Rattle.std.specs.BTreeSet.{BTreeSet, IsKeyRangeOf}
use Rattle.bm_base.specs.declared.zone.Zone.{Zone}
use Rattle.buddy_blocks.specs.declared.block.Block.{Block}
use Rattle.buddy_blocks.specs.Frames.{Frames}
use Rattle.buddy_blocks.specs.PickedBlock.{IsPicked, NoneServes}
use Rattle.free_areas.specs.Areas.{IndexesFreeBlocks}
use Rattle.free_areas.proofs.AreaLaws.{led}
use Rattle.free_areas.proofs.OrderLaws.{block_cmp, has_key, key_has, between, from_first, before_last, least_of}

-- the keys of a node and a zone from an order on are between these two
abbrev pub low_key : ℕ → Zone → ℕ → Block
low_key n z o = record { node = n; zone = z; order = o; first = 0 }

pub picked_first : (f : Frames) (s : BTreeSet Block) (n : ℕ) (z : Zone) (o : ℕ) (r rest : List Block) (b : Block)
    → IndexesFreeBlocks f s.keys
    → IsKeyRangeOf block_cmp (Included (low_key n z o)) (Excluded (low_key n z 11)) s r → r ≡ b ∷ rest → IsPicked f n z o b
picked_first f s n z o r rest b areas range is =
    let at : IsKeyRangeOf block_cmp (Included (low_key n z o)) (Excluded (low_key n z 11)) s (b ∷ rest) =
    subst (λ (ks : List Block). IsKeyRangeOf block_cmp (Included (low_key n z o)) (Excluded (low_key n z 11)) s ks) is range in
    let here = at.1 in
    let area = between b (low_key n z o) (low_key n z 11) refl refl here.0.0 here.0.1 in
    record {
      block = areas.sound b (key_has b s here.1);
      serves = record { node = area.0; zone = area.1; enough = area.2 };
      least = λ c block serves.
          let it = led f s.keys c areas block in
          let d : Block = it.leader in
          let node_is : d.node ≡ n = it.node ∙ serves.node in
          let zone_is : d.zone ≡ z = it.zone ∙ serves.zone in
          let order_is = it.order in
          let enough = serves.enough in
          let small = block.small in
          let above = from_first d (low_key n z o) (sym node_is) (sym zone_is) (omega (arith, order_is, enough)) refl in
          let below = before_last d (low_key n z 11) node_is zone_is (omega (arith, order_is, small)) in
          let up_to = at.2 d (above, below) (has_key d s it.has) in
          let first = it.first in
          ⊎_elim
          (λ (less : b.order < d.order). inl (omega (arith, less, order_is)))
          (λ (same : (b.order ≡ d.order) × (b.first ≤ d.first)).
          let low = same.1 in inr (same.0 ∙ order_is, omega (arith, low, first)))
          (least_of b d (area.0 ∙ sym node_is) (area.1 ∙ sym zone_is) up_to);
    }

pub none_first : (f : Frames) (s : BTreeSet Block) (n : ℕ) (z : Zone) (o : ℕ) (r : List Block) → IndexesFreeBlocks f s.keys
    → IsKeyRangeOf block_cmp (Included (low_key n z o)) (Excluded (low_key n z 11)) s r → r ≡ [] → NoneServes f n z o
none_first f s n z o r areas range is b block serves =
    let it = led f s.keys b areas block in
    let d : Block = it.leader in
    let node_is : d.node ≡ n = it.node ∙ serves.node in
    let zone_is : d.zone ≡ z = it.zone ∙ serves.zone in
    let order_is = it.order in
    let enough = serves.enough in
    let small = block.small in
    let above = from_first d (low_key n z o) (sym node_is) (sym zone_is) (omega (arith, order_is, enough)) refl in
    let below = before_last d (low_key n z 11) node_is zone_is (omega (arith, order_is, small)) in
    cc (sym (has_key d s it.has) ∙ range.5 is d (above, below))

-- the result of the look-up, whether it finds a block or not
pub least_is : (f : Frames) (s : BTreeSet Block) (n : ℕ) (z : Zone) (o : ℕ) (r : List Block) (first : Option Block)
    → IndexesFreeBlocks f s.keys
    → IsKeyRangeOf block_cmp (Included (low_key n z o)) (Excluded (low_key n z 11)) s r
    → MatchOption first (r ≡ []) (λ b. (rest : List Block) × (r ≡ b ∷ rest))
    → MatchOption first (NoneServes f n z o) (λ b. IsPicked f n z o b)
least_is f s n z o r None areas range is = none_first f s n z o r areas range is
least_is f s n z o r (Some b) areas range is = picked_first f s n z o r is.0 b areas range is.1
