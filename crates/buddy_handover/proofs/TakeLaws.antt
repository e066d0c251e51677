-- Frames that are allocated, and frames that come back: what the index of blocks needs to know of
-- them.
use Rattle.std.proofs.Common.{◌≡◌, ℕ, suc, ◌+◌, ◌-◌, ◌<◌, ◌≤◌, Bool, is_some, Option, Some, None, IsSome, IfSome, List, [], ◌∷◌, length, refl, sym, ◌∙◌, ap, arith}
use Rattle.std.proofs.lemmas.List.Sums.{length-filter}
use Rattle.std.specs.List.{find, filter}
use Rattle.std.specs.Option.{option_map}
use Rattle.bm_base.specs.declared.zone.Zone.{Zone}
use Rattle.address_runs.specs.Runs.{RunOf, value_at, IsRunsOf}
use Rattle.address_runs.specs.Edits.{IsEmptyFrom}
use Rattle.buddy_blocks.specs.declared.block.Block.{Block}
use Rattle.buddy_blocks.specs.declared.run.TheConstants.{MAX_FRAMES}
use Rattle.buddy_blocks.specs.Frames.{Frames, IsInSet, AreFree, IsBlock, IsInBlock}
use Rattle.buddy_blocks.specs.BlockList.{block_of, blocks_of, is_block_of, count_blocks}
use Rattle.buddy_blocks.specs.PickedBlock.{IsPicked, NoneServes, picked_block_from, picked_block, picked_first_frame}
use Rattle.buddy_blocks.specs.Buddies.{without_set, with_set, RemovesFrameSet}
use Rattle.buddy_blocks.proofs.GoodLaws.{up_most}
use Rattle.buddy_blocks.proofs.BlockLaws.{block_found}
use Rattle.buddy_blocks.proofs.BuddyLaws.{set_covers, without_is, with_is}
use Rattle.buddy_blocks.proofs.PickLaws.{picked_is, picked_none}

-- the block that the index returns is the one that is picked
pub first_is : (f : Frames) (n : ℕ) (z : Zone) (o : ℕ) (b : Block) → IsEmptyFrom MAX_FRAMES f → IsPicked f n z o b
    → picked_first_frame f n z o ≡ Some b.first
first_is f n z o b low is = ap (option_map (λ (c : Block). c.first)) (picked_is f n z o b low is)

-- if no block serves, none is picked
pub first_none : (f : Frames) (n : ℕ) (z : Zone) (o : ℕ) → IsEmptyFrom MAX_FRAMES f → NoneServes f n z o → picked_first_frame f n z o ≡ None
first_none f n z o low none = ap (option_map (λ (c : Block). c.first)) (picked_none f n z o low none)

-- if no block passes the test, a search finds none
none_left : (p : Block → Bool) (bs : List Block) → length (filter p bs) ≡ 0 → find p bs ≡ None
none_left p [] is = refl
none_left p (b ∷ bs) is = grind (arith, none_left p bs)

-- if a block passes the test, a search finds one
some_left : (p : Block → Bool) (bs : List Block) → 0 < length (filter p bs) → IsSome (find p bs)
some_left p [] some = absurd (omega (arith, some))
some_left p (b ∷ bs) some = grind (arith, some_left p bs)

-- an order without a block is passed over
pub passed_by : (f : Frames) (n : ℕ) (z : Zone) (o k : ℕ) → count_blocks f n z o ≡ 0
    → picked_block_from f n z o (suc k) ≡ picked_block_from f n z (o + 1) k
unfolding count_blocks
passed_by f n z o k none = grind (arith, none_left (is_block_of n z o) (blocks_of f), length-filter (is_block_of n z o) (blocks_of f), none)

-- an order with a block serves
pub serves_at : (f : Frames) (n : ℕ) (z : Zone) (o k : ℕ) → 0 < count_blocks f n z o → IsSome (picked_block_from f n z o (suc k))
unfolding count_blocks
serves_at f n z o k some =
    let there = some_left (is_block_of n z o) (blocks_of f) (rw length-filter some) in
    grind (arith, there)

first_there : (o : Option Block) → is_some (option_map (λ (c : Block). c.first) o) ≡ is_some o
first_there o = grind arith

pub serves_is : (f : Frames) (n : ℕ) (z : Zone) (o : ℕ)
    → is_some (picked_first_frame f n z o) ≡ is_some (picked_block_from f n z o (11 - o))
unfolding picked_block
serves_is f n z o = first_there (picked_block_from f n z o (11 - o))

-- removing a set leaves the same frames, however they are written
same_without : (f g h : Frames) (o x : ℕ) → RemovesFrameSet f g o x → ((y : ℕ) → h y ≡ g y) → RemovesFrameSet f h o x
same_without f g h o x without same = record {
  gone = λ y in_it. same y ∙ without.gone y in_it;
  kept = λ y other. same y ∙ without.kept y other;
}

-- the runs without a set are those of the frames without it
pub runs_without : (f : Frames) (rs : List (RunOf ℕ)) (o x : ℕ) → IsRunsOf (without_set o x f) rs → RemovesFrameSet f (value_at rs) o x
runs_without f rs o x runs = same_without f (without_set o x f) (value_at rs) o x (without_is o x f) runs.each

-- if a set came back, the runs without it give the frames from before
pub runs_with : (g : Frames) (rs : List (RunOf ℕ)) (o x n : ℕ) → ((y : ℕ) → IsInSet o x y → g y ≡ None) → IsRunsOf (with_set o x n g) rs
    → RemovesFrameSet (value_at rs) g o x
runs_with g rs o x n held runs =
    let with = with_is o x n g held in
    record { gone = with.gone; kept = λ y other. with.kept y other ∙ sym (runs.each y) }

-- a block is at least as large as each free set around its frame
set_fits : (f : Frames) (x n o : ℕ) (b : Block) → f x ≡ Some n → o ≤ 10 → AreFree f o x n → block_of f x ≡ Some b → o ≤ b.order
set_fits f x n o b is small free found =
    let most = up_most f x n 10 o small free in
    grind (arith, most, is, found)

-- after a set has come back, one block has all of it
pub joined_block : (g : Frames) (rs : List (RunOf ℕ)) (o x n : ℕ) (b : Option Block) → o ≤ 10 → IsRunsOf (with_set o x n g) rs
    → b ≡ block_of (value_at rs) x
    → IfSome b (λ c. IsBlock (value_at rs) c × IsInBlock c x × (o ≤ c.order))
joined_block g rs o x n None small runs is = tt
joined_block g rs o x n (Some b) small runs is =
    let found = block_found (value_at rs) x b (sym is) in
    let free : AreFree (value_at rs) o x n = λ y same. runs.each y ∙ rw (set_covers o x y same) refl in
    (found.0, found.1, set_fits (value_at rs) x n o b (free x refl) small free (sym is))

pub block_small : (f : Frames) (x : ℕ) (b : Option Block) → b ≡ block_of f x → IfSome b (λ c. c.order ≤ 10)
block_small f x None is = tt
block_small f x (Some b) is = (block_found f x b (sym is)).0.small
