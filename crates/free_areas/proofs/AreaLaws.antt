-- Lemmas on the index of blocks when a set is taken from a block, when one is freed, and when the
-- index is made from rows.
use Rattle.std.proofs.Common.{◌≡◌, ◌≢◌, ◌⊎◌, ◌↔◌, ℕ, zero, suc, ◌+◌, ◌-◌, ◌/◌, ◌^◌, ◌<◌, ◌≤◌, Option, Some, List, [], ◌∷◌, ◌++◌, length, get_or, drop, drop-cons, refl, sym, ◌∙◌, ap, subst, inl, inr, ⊎_elim, arith}
use Rattle.std.proofs.lemmas.Bool.{cases_eq}
use Rattle.std.proofs.lemmas.List.{at_drop_all}
use Rattle.std.proofs.lemmas.Nat.{pow_pos}
use Rattle.bm_base.specs.declared.zone.Zone.{Zone}
use Rattle.address_runs.specs.Edits.{IsEmptyFrom}
use Rattle.buddy_blocks.specs.declared.block.Block.{Block}
use Rattle.buddy_blocks.specs.declared.block.BlockRow.{BlockRow}
use Rattle.buddy_blocks.specs.declared.run.TheConstants.{MAX_FRAMES}
use Rattle.buddy_blocks.specs.Frames.{Frames, IsBlock, IsInBlock}
use Rattle.buddy_blocks.specs.BlockList.{block_of, blocks_of, ListsBlock}
use Rattle.buddy_blocks.specs.Rows.{row_from, blocks_of_row, blocks_of_rows, AreCanonicalRows}
use Rattle.buddy_blocks.specs.Buddies.{RemovesFrameSet, IsBuddy}
use Rattle.buddy_blocks.proofs.SetLaws.{set_until}
use Rattle.buddy_blocks.proofs.BlockLaws.{found_block, block_found, listed_sound, listed_complete}
use Rattle.buddy_blocks.proofs.BuddyLaws.{in_set_or_not, others_stay, others_were, left_is_block, rest_is_left, buddy_inside, one_at}
use Rattle.free_areas.specs.Areas.{FollowsLargestBlock, IndexesFreeBlocks, first_block_of_row, AreLargestInSameZone, AddsBuddies, RemovesBuddies}

no_buddy : (b c : Block) (low x : ℕ) → IsBuddy b low low x c → ⊥
no_buddy b c low x it = let from = it.from in let below = it.below in absurd (omega (arith, from, below))

pub has_none : (b : Block) (low x : ℕ) (bs : List Block) → AddsBuddies b low low x bs bs
has_none b low x bs c = (
  λ has. inr has,
  λ either. ⊎_elim (λ (it : IsBuddy b low low x c). absurd (no_buddy b c low x it))
      (λ (has : ListsBlock bs c). has) either,
)

pub lacks_none : (b : Block) (low x : ℕ) (bs : List Block) → RemovesBuddies b low low x bs bs
lacks_none b low x bs c = (λ has. (λ it. no_buddy b c low x it, has), λ both. both.1)

-- a block that begins outside b isn't b
away : (b c : Block) → (IsInBlock b c.first → ⊥) → c ≢ b
away b c outside same = outside (subst (λ (d : Block). IsInBlock b d.first) (sym same) refl)

-- the block of the largest order right before this one
abbrev front : Block → Block
front c = record c { first = c.first - 1024 }

-- the frame after a block of the largest order isn't in that block
after_differs : (f : Frames) (b c : Block) → IsBlock f b → AreLargestInSameZone b c → IsInBlock c (b.first + 2 ^ b.order) → c ≡ b → ⊥
after_differs f b c block like inner same =
    let there : (b.first + 2 ^ b.order) / 2 ^ b.order ≡ b.first / 2 ^ b.order =
    subst (λ (d : Block). IsInBlock d (b.first + 2 ^ b.order)) same inner in
    let high = set_until (2 ^ b.order) b.first (b.first + 2 ^ b.order) (pow_pos b.order) there in
    let aligned = block.aligned in
    absurd (omega (arith, high, aligned))

-- the list is an index after a set has been taken from block `b`
pub split_areas : (f g : Frames) (low x : ℕ) (b : Block) (after : Option Block) (bs ms cs : List Block) → IndexesFreeBlocks f bs
    → RemovesFrameSet f g low x → IsBlock f b → IsInBlock b x → low ≤ b.order → after ≡ block_of f (b.first + 2 ^ b.order)
    → ((c : Block) → ListsBlock ms c → ((c ≢ b) × ListsBlock bs c) ⊎ ((after ≡ Some c) × AreLargestInSameZone b c))
    → ((c : Block) → c ≢ b → ListsBlock bs c → ListsBlock ms c)
    → ((c : Block) → after ≡ Some c → AreLargestInSameZone b c → ListsBlock ms c)
    → AddsBuddies b low b.order x ms cs → IndexesFreeBlocks g cs
split_areas f g low x b after bs ms cs areas without block inner order next sound kept back buddies = record {
  sound = λ c has. ⊎_elim
      (λ (it : IsBuddy b low b.order x c).
      subst (λ (d : Block). IsBlock g d) (sym it.is) (left_is_block f g low it.order x b without block inner it.from it.below))
      (λ (was : ListsBlock ms c). ⊎_elim
      (λ (had : (c ≢ b) × ListsBlock bs c). others_stay f g low x b c without block inner order (areas.sound c had.1) had.0)
      (λ (goes : (after ≡ Some c) × AreLargestInSameZone b c).
      let found = block_found f (b.first + 2 ^ b.order) c (sym next ∙ goes.0) in
      let other : c ≢ b = λ same. after_differs f b c block goes.1 found.1 same in
      others_stay f g low x b c without block inner order found.0 other)
      (sound c was))
      ((buddies c).0 has);
  complete = λ c is. elim (in_set_or_not b.order b.first c.first) as (λ _. ListsBlock cs c ⊎ FollowsLargestBlock g c) [
    | inl within ↦ inl ((buddies c).1 (inl (rest_is_left f g low x b c without block inner order is within)))
    | inr outside ↦
        let was = others_were f g low x b c without block inner order is outside in ⊎_elim
        (λ (has : ListsBlock bs c). inl ((buddies c).1 (inr (kept c (away b c outside) has))))
        (λ (follows : FollowsLargestBlock f c). elim (cases_eq (front c).first b.first) as (λ _.
        ListsBlock cs c ⊎ FollowsLargestBlock g c) [
          | inl same ↦
              let one = one_at f (front c) b follows.before block same in
              let order_is : b.order ≡ 10 = sym (ap (λ (d : Block). d.order) one) ∙ follows.great in
              let room = follows.room in
              let size : b.first + 2 ^ b.order ≡ c.first =
              let there : b.first + 2 ^ b.order ≡ b.first + 1024 = ap (λ o. b.first + 2 ^ o) order_is in
              omega (arith, there, same, room) in
              let found : after ≡ Some c = next ∙ ap (block_of f) size ∙ found_block f c.first c was refl in
              inl ((buddies c).1 (inr (back c found (record {
                great = order_is;
                order = follows.great;
                node = ap (λ (d : Block). d.node) one;
                zone = ap (λ (d : Block). d.zone) one;
              }))))
          | inr other ↦
              let differs : front c ≢ b = λ is_b. other (ap (λ (d : Block). d.first) is_b) in
              inr (record {
                great = follows.great;
                room = follows.room;
                before = others_stay f g low x b (front c) without block inner order follows.before differs;
              })
        ])
        (areas.complete c was)
  ];
}

-- the list is an index after a set has been freed, if `b` is the block that has it then
pub join_areas : (f g : Frames) (low x : ℕ) (b : Block) (bs ms cs : List Block) → IndexesFreeBlocks g bs
    → RemovesFrameSet f g low x → IsBlock f b → IsInBlock b x → low ≤ b.order → RemovesBuddies b low b.order x bs ms
    → ((c : Block) → ListsBlock cs c ↔ ((c ≡ b) ⊎ ListsBlock ms c)) → IndexesFreeBlocks f cs
join_areas f g low x b bs ms cs areas without block inner order lacks put = record {
  sound = λ c has. ⊎_elim
      (λ (is : c ≡ b). subst (λ (d : Block). IsBlock f d) (sym is) block)
      (λ (was : ListsBlock ms c).
      let both = (lacks c).0 was in
      let in_g = areas.sound c both.1 in
      others_were f g low x b c without block inner order in_g
      (λ within. both.0 (rest_is_left f g low x b c without block inner order in_g within)))
      ((put c).0 has);
  complete = λ c is. elim (in_set_or_not b.order b.first c.first) as (λ _. ListsBlock cs c ⊎ FollowsLargestBlock f c) [
    | inl within ↦
        let here = found_block f c.first b block within in
        let there = found_block f c.first c is refl in
        let same : c ≡ b = let both : Some c ≡ Some b = sym there ∙ here in cc in
        inl ((put c).1 (inl same))
    | inr outside ↦
        let stays = others_stay f g low x b c without block inner order is (away b c outside) in ⊎_elim
        (λ (has : ListsBlock bs c).
        inl ((put c).1 (inr ((lacks c).1
        (λ it. outside (buddy_inside b low b.order x c (omega arith) inner it), has)))))
        (λ (follows : FollowsLargestBlock g c). elim (in_set_or_not b.order b.first (front c).first) as (λ _.
        ListsBlock cs c ⊎ FollowsLargestBlock f c) [
          | inl within ↦
              let it = rest_is_left f g low x b (front c) without block inner order follows.before within in
              let below = it.below in
              let small = block.small in
              let great = follows.great in
              let order_is : c.order ≡ it.order = ap (λ (d : Block). d.order) it.is in
              absurd (omega (arith, below, small, great, order_is))
          | inr outer ↦ inr (record {
            great = follows.great;
            room = follows.room;
            before = others_were f g low x b (front c) without block inner order follows.before outer;
          })
        ])
        (areas.complete c stays)
  ];
}

-- going back from each block leads to a block of its order, node and zone that the list has
pub record IsLed (bs : List Block) (c : Block) : Type 0 where
  pub leader : Block
  pub has : ListsBlock bs leader
  pub node : leader.node ≡ c.node
  pub zone : leader.zone ≡ c.zone
  pub order : leader.order ≡ c.order
  pub first : leader.first ≤ c.first

led_itself : (bs : List Block) (c : Block) → ListsBlock bs c → IsLed bs c
led_itself bs c has = record { leader = c; has = has; node = refl; zone = refl; order = refl; first = omega arith }

led_by : (k : ℕ) (f : Frames) (bs : List Block) (c : Block) → IndexesFreeBlocks f bs → IsBlock f c → c.first ≤ k → IsLed bs c
led_by zero f bs c areas is low = ⊎_elim
    (λ (has : ListsBlock bs c). led_itself bs c has)
    (λ (follows : FollowsLargestBlock f c). let room = follows.room in absurd (omega (arith, room, low)))
    (areas.complete c is)
led_by (suc k) f bs c areas is low = ⊎_elim
    (λ (has : ListsBlock bs c). led_itself bs c has)
    (λ (follows : FollowsLargestBlock f c).
    let room = follows.room in
    let less : (front c).first ≤ k = omega (arith, room, low) in
    let rest = led_by k f bs (front c) areas follows.before less in
    let first = rest.first in
    let led : IsLed bs c = record {
      leader = rest.leader;
      has = rest.has;
      node = rest.node;
      zone = rest.zone;
      order = rest.order;
      first = omega (arith, first);
    } in led)
    (areas.complete c is)

pub led : (f : Frames) (bs : List Block) (c : Block) → IndexesFreeBlocks f bs → IsBlock f c → IsLed bs c
led f bs c areas is = led_by c.first f bs c areas is (omega arith)

-- the first block of each row
pub leads : List BlockRow → List Block
leads [] = []
leads (r ∷ rs) = first_block_of_row r ∷ leads rs

lists_append : (bs cs : List Block) (b : Block) → ListsBlock (bs ++ cs) b → ListsBlock bs b ⊎ ListsBlock cs b
lists_append [] cs b has = inr has
lists_append (d ∷ bs) cs b has = ⊎_elim
    (λ (is : d ≡ b). inl (inl is))
    (λ (rest : ListsBlock (bs ++ cs) b). ⊎_elim (λ (one : ListsBlock bs b). inl (inr one)) (λ (two : ListsBlock cs b). inr two)
    (lists_append bs cs b rest))
    has

lists_left : (bs cs : List Block) (b : Block) → ListsBlock bs b → ListsBlock (bs ++ cs) b
lists_left [] cs b has = absurd has
lists_left (d ∷ bs) cs b has = ⊎_elim (λ (is : d ≡ b). inl is) (λ (rest : ListsBlock bs b). inr (lists_left bs cs b rest)) has

lists_right : (bs cs : List Block) (b : Block) → ListsBlock cs b → ListsBlock (bs ++ cs) b
lists_right [] cs b has = has
lists_right (d ∷ bs) cs b has = inr (lists_right bs cs b has)

-- a block of a row is its first, or begins where another one ends
in_row : (k o x n : ℕ) (z : Zone) (b : Block) → ListsBlock (row_from o x n z k) b
    → ((record { order = o; first = x; node = n; zone = z } ≡ b) ⊎ ((2 ^ o ≤ b.first) × (b.order ≡ o)
    × ListsBlock (row_from o x n z k) (record b { first = b.first - 2 ^ o })))
unfolding row_from
in_row zero o x n z b has = absurd has
in_row (suc k) o x n z b has = ⊎_elim
    (λ (is : record { order = o; first = x; node = n; zone = z } ≡ b). inl is)
    (λ (rest : ListsBlock (row_from o (x + 2 ^ o) n z k) b). inr (⊎_elim
    (λ (is : record { order = o; first = x + 2 ^ o; node = n; zone = z } ≡ b).
    let first = ap (λ (d : Block). d.first) is in
    let order = ap (λ (d : Block). d.order) is in
    let before : x ≡ b.first - 2 ^ o = omega (arith, first) in
    let here : record { order = o; first = x; node = n; zone = z } ≡ record b { first = b.first - 2 ^ o } =
    ap (λ y. let d : Block = record { order = o; first = y; node = n; zone = z } in d) before
    ∙ ap (λ (e : Block). let d : Block = record e { first = b.first - 2 ^ o } in d) is in
    (omega (arith, first), sym order, inl here))
    (λ (inner : (2 ^ o ≤ b.first) × (b.order ≡ o) × ListsBlock (row_from o (x + 2 ^ o) n z k) (record b { first = b.first - 2 ^ o })).
    (inner.0, inner.1, inr inner.2))
    (in_row k o (x + 2 ^ o) n z b rest)))
    has

lead_in_row : (r : BlockRow) → 0 < r.count → ListsBlock (blocks_of_row r) (first_block_of_row r)
lead_in_row r some =
    let more : r.count ≡ suc (r.count - 1) = omega arith in
    let here : ListsBlock (row_from r.order r.first r.node r.zone (suc (r.count - 1))) (first_block_of_row r) = unfold row_from
    in inl refl in
    subst (λ (k : ℕ). ListsBlock (row_from r.order r.first r.node r.zone k) (first_block_of_row r)) (sym more) here

lead_listed : (rs : List BlockRow) (b : Block) → AreCanonicalRows rs → ListsBlock (leads rs) b → ListsBlock (blocks_of_rows rs) b
unfolding leads
lead_listed [] b rows has = absurd has
lead_listed (r ∷ rs) b rows has = ⊎_elim
    (λ (is : first_block_of_row r ≡ b). subst (λ (d : Block). ListsBlock (blocks_of_rows (r ∷ rs)) d) is
    (lists_left (blocks_of_row r) (blocks_of_rows rs) (first_block_of_row r) (lead_in_row r rows.0)))
    (λ (rest : ListsBlock (leads rs) b). lists_right (blocks_of_row r) (blocks_of_rows rs) b (lead_listed rs b rows.3 rest))
    has

only_lead : (r : BlockRow) (b : Block) (rs : List BlockRow) → ListsBlock (row_from r.order r.first r.node r.zone 1) b
    → ListsBlock (leads (r ∷ rs)) b
unfolding leads
only_lead r b rs only =
    let one : ListsBlock (first_block_of_row r ∷ row_from r.order (r.first + 2 ^ r.order) r.node r.zone 0) b = unfold row_from in only in
    ⊎_elim (λ (is : first_block_of_row r ≡ b). inl is)
    (λ (none : ListsBlock (row_from r.order (r.first + 2 ^ r.order) r.node r.zone 0) b). absurd
    (let no_more : ⊥ = unfold row_from in none in no_more)) one

-- a block of rows is the first of one, or begins where another of the largest order ends
in_rows : (rs : List BlockRow) (b : Block) → AreCanonicalRows rs → ListsBlock (blocks_of_rows rs) b
    → ListsBlock (leads rs) b ⊎ ((b.order ≡ 10) × (1024 ≤ b.first) × ListsBlock (blocks_of_rows rs) (record b { first = b.first - 1024 }))
unfolding leads
in_rows [] b rows has = absurd has
in_rows (r ∷ rs) b rows has = ⊎_elim
    (λ (one : ListsBlock (blocks_of_row r) b). ⊎_elim
    (λ (is : first_block_of_row r ≡ b). inl (inl is))
    (λ (after : (2 ^ r.order ≤ b.first) × (b.order ≡ r.order) × ListsBlock (blocks_of_row r) (record b { first = b.first - 2 ^ r.order })).
    ⊎_elim
    (λ (ten : r.order ≡ 10).
    let size : 2 ^ r.order ≡ 1024 = ap (λ o. 2 ^ o) ten in
    let before : ListsBlock (blocks_of_row r) (record b { first = b.first - 1024 }) =
    subst (λ (s : ℕ). ListsBlock (blocks_of_row r) (record b { first = b.first - s })) size after.2 in
    let room = after.0 in
    inr (after.1 ∙ ten, omega (arith, room, size), lists_left (blocks_of_row r) (blocks_of_rows rs) _ before))
    (λ (single : r.count ≡ 1).
    let only : ListsBlock (row_from r.order r.first r.node r.zone 1) b =
    subst (λ (k : ℕ). ListsBlock (row_from r.order r.first r.node r.zone k) b) single one in
    inl (only_lead r b rs only))
    rows.1)
    (in_row r.count r.order r.first r.node r.zone b one))
    (λ (two : ListsBlock (blocks_of_rows rs) b). ⊎_elim
    (λ (leading : ListsBlock (leads rs) b). inl (inr leading))
    (λ (after : (b.order ≡ 10) × (1024 ≤ b.first) × ListsBlock (blocks_of_rows rs) (record b { first = b.first - 1024 })).
    inr (after.0, after.1, lists_right (blocks_of_row r) (blocks_of_rows rs) _ after.2))
    (in_rows rs b rows.3 two))
    (lists_append (blocks_of_row r) (blocks_of_rows rs) b has)

-- the first blocks of all rows are an index
pub leads_done : (f : Frames) (rs : List BlockRow) (bs : List Block) → IsEmptyFrom MAX_FRAMES f → AreCanonicalRows rs
    → blocks_of_rows rs ≡ blocks_of f
    → ((b : Block) → ListsBlock bs b → ListsBlock (leads rs) b) → ((b : Block) → ListsBlock (leads rs) b → ListsBlock bs b)
    → IndexesFreeBlocks f bs
leads_done f rs bs low rows all sound complete = record {
  sound = λ b has. listed_sound f b (subst (λ (cs : List Block). ListsBlock cs b) all (lead_listed rs b rows (sound b has)));
  complete = λ b is.
      let listed : ListsBlock (blocks_of_rows rs) b =
      subst (λ (cs : List Block). ListsBlock cs b) (sym all) (listed_complete f b low is) in ⊎_elim
      (λ (leading : ListsBlock (leads rs) b). inl (complete b leading))
      (λ (after : (b.order ≡ 10) × (1024 ≤ b.first) × ListsBlock (blocks_of_rows rs) (record b { first = b.first - 1024 })).
      let before = listed_sound f (front b) (subst (λ (cs : List Block). ListsBlock cs (front b)) all after.2) in
      inr (record { great = after.0; room = after.1; before = before }))
      (in_rows rs b rows listed);
}

pub lead_at : (rs : List BlockRow) (i : ℕ) (d : BlockRow) → i < length rs → ListsBlock (leads rs) (first_block_of_row (get_or rs i d))
unfolding leads
lead_at [] i d few = absurd (omega arith)
lead_at (r ∷ rs) zero d few = inl refl
lead_at (r ∷ rs) (suc i) d few = inr (lead_at rs i d (omega arith))

pub lead_dropped : (rs : List BlockRow) (i : ℕ) (d : BlockRow) (b : Block) → i < length rs → ListsBlock (leads (drop i rs)) b
    → (first_block_of_row (get_or rs i d) ≡ b) ⊎ ListsBlock (leads (drop (i + 1) rs)) b
unfolding leads
lead_dropped rs i d b few has =
    let next : i + 1 ≡ suc i = omega arith in
    let here : ListsBlock (leads (get_or rs i d ∷ drop (suc i) rs)) b =
    subst (λ (qs : List BlockRow). ListsBlock (leads qs) b) (drop-cons rs i d few) has in
    ⊎_elim (λ (is : first_block_of_row (get_or rs i d) ≡ b). inl is)
    (λ (rest : ListsBlock (leads (drop (suc i) rs)) b). inr (subst (λ (j : ℕ). ListsBlock (leads (drop j rs)) b) (sym next) rest)) here

pub lead_none : (rs : List BlockRow) (i : ℕ) (b : Block) → length rs ≤ i → ListsBlock (leads (drop i rs)) b → ⊥
unfolding leads
lead_none rs i b all has =
    let none : drop i rs ≡ [] = at_drop_all (λ (qs : List BlockRow). qs) rs i all in
    subst (λ (qs : List BlockRow). ListsBlock (leads qs) b) none has

-- the first blocks of the rows so far are in the list
pub record HasLeads (rs : List BlockRow) (i : ℕ) (bs : List Block) : Type 0 where
  pub sound : (b : Block) → ListsBlock bs b → ListsBlock (leads rs) b
  pub complete : (b : Block) → ListsBlock (leads rs) b → ListsBlock bs b ⊎ ListsBlock (leads (drop i rs)) b

pub leads_more : (rs : List BlockRow) (i : ℕ) (d : BlockRow) (k : Block) (now next : List Block) → i < length rs
    → k ≡ first_block_of_row (get_or rs i d) → HasLeads rs i now → ((b : Block) → ListsBlock next b ↔ ((b ≡ k) ⊎ ListsBlock now b))
    → HasLeads rs (i + 1) next
leads_more rs i d k now next few key_is has put =
    record {
      sound = λ b in_next. ⊎_elim
          (λ (here : b ≡ k). subst (λ (e : Block). ListsBlock (leads rs) e) (sym (here ∙ key_is)) (lead_at rs i d few))
          (λ (was : ListsBlock now b). has.sound b was)
          ((put b).0 in_next);
      complete = λ b leading. ⊎_elim
          (λ (was : ListsBlock now b). inl ((put b).1 (inr was)))
          (λ (left : ListsBlock (leads (drop i rs)) b). ⊎_elim
          (λ (here : first_block_of_row (get_or rs i d) ≡ b). inl ((put b).1 (inl (sym here ∙ sym key_is))))
          (λ (rest : ListsBlock (leads (drop (i + 1) rs)) b). inr rest)
          (lead_dropped rs i d b few left))
          (has.complete b leading);
    }

pub leads_all : (f : Frames) (rs : List BlockRow) (i : ℕ) (bs : List Block) → IsEmptyFrom MAX_FRAMES f → AreCanonicalRows rs
    → blocks_of_rows rs ≡ blocks_of f → length rs ≤ i → HasLeads rs i bs → IndexesFreeBlocks f bs
leads_all f rs i bs low rows all end has =
    leads_done f rs bs low rows all has.sound
    (λ b leading. ⊎_elim (λ (was : ListsBlock bs b). was) (λ (left : ListsBlock (leads (drop i rs)) b). absurd (lead_none rs i b end left))
    (has.complete b leading))
