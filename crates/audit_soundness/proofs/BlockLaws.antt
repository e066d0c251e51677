-- A block that is whole and maximal has a line that passes the audit.
use Rattle.std.proofs.Common.{◌≡◌, ℕ, ◌+◌, ◌-◌, ◌*◌, ◌/◌, ◌%◌, ◌^◌, ◌<◌, ◌≤◌, ◌==◌, Bool, true, false, ◌&&◌, ◌||◌, nat_lt, List, [], ◌∷◌, map, Some, refl, sym, ◌∙◌, ap, subst, inl, inr, arith}
use Rattle.std.specs.List.{All}
use Rattle.std.proofs.Math.Nat.{mul_assoc, div-add-mod, mul-mod_right}
use Rattle.std.proofs.lemmas.Bool.{and_parts, cases_Bool, eq-eqb, eqb-true}
use Rattle.std.proofs.lemmas.Bool.Decides.{nat_tests}
use Rattle.std.proofs.lemmas.List.Elements.{All-cons, All-nil}
use Rattle.bm_base.specs.Range.{covers}
use Rattle.bm_base.specs.Zones.{zone_of}
use Rattle.bm_base.specs.declared.zone.Zone.{Zone}
use Rattle.bm_base.specs.declared.zone.Zone.TheVariants as zones
use Rattle.bm_base.proofs.EachLaws.{each_in-all, each_in-each}
use Rattle.memblock_frames.proofs.TakeLaws.{both_tests, tests_both}
use Rattle.buddy_blocks.specs.declared.block.Block.{Block}
use Rattle.buddy_blocks.specs.BlockList.{ListsBlock}
use Rattle.buddy_blocks.proofs.CountLaws.{zone_is}
use Rattle.memblock_model.specs.declared.item.Item.{Item}
use Rattle.boot_model.specs.Boot.{InputsView}
use Rattle.conservation.specs.Headline.{AreAllFree, IsFreeFor, IsMaximal, IsWhole, has_frame, block_with_buddy}
use Rattle.audit_roundtrip.specs.PrintedLines.{line_of_block}
use Rattle.boot_audit.specs.Conserved.{IsSoundBlock}
use Rattle.boot_audit.specs.Frames.{are_of_one_zone, could_merge, frames_of_block, is_in_same_zone_block, is_aligned, is_in_zone, parent_of, same_zone}
use Rattle.audit_soundness.proofs.FrameLaws.{frame_told}

zone_same : (z : Zone) → same_zone z z ≡ true
zone_same zones.Dma = refl
zone_same zones.Dma32 = refl
zone_same zones.Normal = refl

-- this and the next: if a frame's number is a multiple of s, its address is a multiple of the size
-- of s frames, so an aligned block has an aligned line
by_frames : (n s : ℕ) → n % s ≡ 0 → (4096 * n) % (4096 * s) ≡ 0
by_frames n s whole =
    let parts : s * (n / s) + n % s ≡ n = div-add-mod n s in
    let number : n ≡ s * (n / s) = omega (arith, parts, whole) in
    ap (λ (m : ℕ). (4096 * m) % (4096 * s)) number ∙ ap (λ (m : ℕ). m % (4096 * s)) (sym (mul_assoc 4096 s (n / s)))
    ∙ mul-mod_right (4096 * s) (n / s)

pub aligned_told : (b : Block) → b.first % 2 ^ b.order ≡ 0 → is_aligned (line_of_block b) ≡ true
aligned_told b whole = eq-eqb ((4096 * b.first) % (4096 * 2 ^ b.order)) 0 (by_frames b.first (2 ^ b.order) whole)

-- the list has a block with the frame, of the same node and zone as `b`
record HasKin (b : Block) (bs : List Block) (frame : ℕ) : Type 0 where
  pub block : Block
  pub listed : ListsBlock bs block
  pub node : block.node ≡ b.node
  pub zone : block.zone ≡ b.zone
  pub inside : has_frame block frame ≡ true

kin_found : (b : Block) (bs : List Block) (frame : ℕ) → is_in_same_zone_block (line_of_block b) (map line_of_block bs) frame ≡ true
    → HasKin b bs frame
kin_found b [] frame found = cc
kin_found b (c ∷ cs) frame found =
    by_first (are_of_one_zone (line_of_block b) (line_of_block c) && covers (frames_of_block (line_of_block c)) frame) refl found
    (kin_found b cs frame)
  where
    by_first : (first : Bool)
        → (are_of_one_zone (line_of_block b) (line_of_block c) && covers (frames_of_block (line_of_block c)) frame) ≡ first
        → (first || is_in_same_zone_block (line_of_block b) (map line_of_block cs) frame) ≡ true
        → (is_in_same_zone_block (line_of_block b) (map line_of_block cs) frame ≡ true → HasKin b cs frame) → HasKin b (c ∷ cs) frame
    by_first true is some rest =
        let parts = and_parts (are_of_one_zone (line_of_block b) (line_of_block c)) (covers (frames_of_block (line_of_block c)) frame) is in
        let kin = and_parts (b.node == c.node) (same_zone b.zone c.zone) parts.0 in
        record {
          block = c;
          listed = inl refl;
          node = sym (eqb-true b.node c.node kin.0);
          zone = sym (zone_is b.zone c.zone kin.1);
          inside = sym (frame_told c frame) ∙ parts.1;
        }
    by_first false is some rest =
        let other : HasKin b cs frame = rest some in
        record { block = other.block; listed = inr other.listed; node = other.node; zone = other.zone; inside = other.inside }

module _ (inputs : InputsView) (items : List Item) (bs : List Block) (whole : (b : Block) → ListsBlock bs b → IsWhole inputs items b)
    (maximal : (b : Block) → ListsBlock bs b → IsMaximal inputs items b) where
  -- a frame of a block with the node and zone of `b` is free for `b`
  kin_free : (b : Block) (frame : ℕ) → HasKin b bs frame → IsFreeFor inputs items b frame
  kin_free b frame kin =
      let free : IsFreeFor inputs items kin.block frame = (whole kin.block kin.listed).frames frame kin.inside in
      record {
        usable = free.usable;
        untouched = free.untouched;
        node = λ x inside. free.node x inside ∙ ap (λ (n : ℕ). Some n) kin.node;
        zone = free.zone ∙ kin.zone;
      }

  in_zone_told : (b : Block) → ListsBlock bs b → is_in_zone (line_of_block b) ≡ true
  unfolding is_in_zone
  in_zone_told b listed =
      each_in-all (frames_of_block (line_of_block b)) (λ frame. same_zone (zone_of frame) b.zone) (λ frame above below.
      let inside : has_frame b frame ≡ true =
      both_tests b.first frame (b.first + 2 ^ b.order) (omega (arith, above)) (omega (arith, below)) in
      ap (λ (z : Zone). same_zone z b.zone) ((whole b listed).frames frame inside).zone ∙ zone_same b.zone)

  -- the frames of the parent are those of the block and its buddy
  parent_frame : (b : Block) (frame : ℕ) → has_frame (block_with_buddy b) frame ≡ true
      → ((parent_of (line_of_block b)).base ≤ frame) × (frame < (parent_of (line_of_block b)).base + 2 ^ (b.order + 1))
  parent_frame b frame inside =
      let s : ℕ = 2 ^ (b.order + 1) in
      let ends = tests_both (b.first - b.first % s) frame (b.first - b.first % s + s) inside in
      let first : (4096 * b.first) / 4096 ≡ b.first = omega arith in
      subst (λ (n : ℕ). (n - n % s ≤ frame) × (frame < n - n % s + s)) (sym first) (ends.0, ends.1)

  joined_free : (b : Block) → could_merge (map line_of_block bs) (line_of_block b) ≡ true
      → (nat_lt b.order 10 ≡ true) × AreAllFree inputs items (block_with_buddy b)
  unfolding could_merge
  joined_free b joins = (
    (and_parts (nat_lt b.order 10) _ joins).0,
    λ frame inside.
        (let ends = parent_frame b frame inside in
        let free : IsFreeFor inputs items b frame = kin_free b frame (kin_found b bs frame
        (each_in-each (parent_of (line_of_block b)) (is_in_same_zone_block (line_of_block b) (map line_of_block bs))
        (and_parts (nat_lt b.order 10) _ joins).1
        frame ends.0 ends.1)) in
        record { usable = free.usable; untouched = free.untouched; node = free.node; zone = free.zone }),
  )

  maximal_told : (b : Block) → ListsBlock bs b → could_merge (map line_of_block bs) (line_of_block b) ≡ false
  maximal_told b listed =
      elim (cases_Bool (could_merge (map line_of_block bs) (line_of_block b))) as
      (λ _. could_merge (map line_of_block bs) (line_of_block b) ≡ false) [
        | inl joins ↦
            (let free = joined_free b joins in
            let small : nat_lt b.order 10 ≡ true = free.0 in
            let less : b.order < 10 = grind (arith, nat_tests) in
            absurd (maximal b listed less free.1))
        | inr apart ↦ apart
      ]

  each_told : (cs : List Block) → ((b : Block) → ListsBlock cs b → ListsBlock bs b)
      → All (IsSoundBlock (map line_of_block bs)) (map line_of_block cs)
  each_told [] among = All-nil (IsSoundBlock (map line_of_block bs))
  each_told (c ∷ cs) among =
      All-cons (IsSoundBlock (map line_of_block bs)) (line_of_block c) (map line_of_block cs) (record {
        aligned = aligned_told c (whole c (among c (inl refl))).aligned;
        in_zone = in_zone_told c (among c (inl refl));
        maximal = maximal_told c (among c (inl refl));
      }) (each_told cs (λ b listed. among b (inr listed)))

  pub blocks_sound : All (IsSoundBlock (map line_of_block bs)) (map line_of_block bs)
  blocks_sound = each_told bs (λ b listed. listed)
