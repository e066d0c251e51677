-- The frames that a boot hands over are the usable ones that no claim touches, each with the node
-- of its memory.
use Rattle.std.proofs.Common.{◌≡◌, ℕ, ◌*◌, ◌/◌, nat_lt, Bool, true, false, ◌&&◌, is_some, is_none, if◌then◌else◌, Option, Some, None, refl, sym, ◌∙◌, ap, arith}
use Rattle.std.proofs.lemmas.Bool.Decides.{nat_tests}
use Rattle.std.proofs.lemmas.Bool.{and_from, and_parts}
use Rattle.bm_base.specs.Range.{covers}
use Rattle.bm_base.specs.Each.{each_in}
use Rattle.bm_base.specs.Zones.{zone_of}
use Rattle.bm_base.specs.Frames.{bytes_of_frame}
use Rattle.bm_base.proofs.EachLaws.{each_in-all, each_in-each}
use Rattle.address_runs.specs.Edits.{IsEmptyFrom}
use Rattle.e820_model.specs.Usable.{is_usable_frame}
use Rattle.memblock_model.specs.Labels.{LabelView, tag_for, node_of_tag}
use Rattle.memblock_model.specs.Items.{memory_of, owner_of}
use Rattle.memblock_model.specs.Tables.{reserved_labels, without_owner}
use Rattle.memblock_model.specs.declared.owner.Owner.{Owner}
use Rattle.stage_steps.specs.Nodes.{IsMemoryWithNodes}
use Rattle.memblock_frames.specs.Frames.{free_node_in, valid_node, node_of_frame, node_of_label}
use Rattle.bm_base.specs.declared.zone.TheConstants.{MAX_NODES}
use Rattle.buddy_blocks.specs.declared.run.TheConstants.{MAX_FRAMES}
use Rattle.buddy_blocks.specs.declared.block.Block.{Block}
use Rattle.buddy_blocks.specs.Frames.{Frames}
use Rattle.page_alloc.specs.Pages.{first_page_state}
use Rattle.slit_zonelists.specs.Near.{page_state_after}
use Rattle.boot_model.specs.Boot.{InputsView, BootedView, handover_frames, reach, types_in_reach}
use Rattle.boot_model.proofs.ReachLaws.{reach-small}
use Rattle.conservation.specs.RecordedClaims.{IsUntouched}
use Rattle.conservation.specs.Headline.{IsFreeFor, IsUsable}
use Rattle.conservation.proofs.ClaimedLaws.{covers_frame, frame_covers}

-- What is known of the results of a boot. The bytes of memory are those of the usable frames, and
-- all bytes of a frame have one label with a node. The free frames are those that are handed over,
-- and the page script ran on them.
pub record HasUsableMemory (inputs : InputsView) (t : BootedView) : Type 0 where
  pub memory : (x : ℕ) → is_some (memory_of t.items x) ≡ is_usable_frame (types_in_reach inputs) (x / 4096)
  pub noded : IsMemoryWithNodes (reach inputs) (memory_of t.items)
  pub free : t.free ≡ handover_frames t.items
  pub after : t.after ≡ page_state_after t.lists (first_page_state t.free) inputs.page_lines

-- each byte of a frame, divided by the frame size, gives the frame's number
number : (frame x : ℕ) → covers (bytes_of_frame frame) x ≡ true → x / 4096 ≡ frame
number frame x inside = let ends = covers_frame frame x inside in omega (arith, ends.0, ends.1)

first_byte : (frame : ℕ) → covers (bytes_of_frame frame) (4096 * frame) ≡ true
first_byte frame = frame_covers frame (4096 * frame) (omega arith) (omega arith)

-- if a guarded value is there, the test passed and the value was there
if_some : (b : Bool) (o : Option ℕ) (n : ℕ) → (if b then o else None) ≡ Some n → (b ≡ true) × (o ≡ Some n)
if_some true o n is = (refl, is)
if_some false o n is = absurd (cc is)

unowned : (o : Option Owner) → is_none (without_owner o) ≡ true → o ≡ None
unowned None is = refl
unowned (Some who) is = absurd (cc is)

some_label : (o : Option LabelView) → is_some o ≡ true → (label : LabelView) × (o ≡ Some label)
some_label None is = absurd (cc is)
some_label (Some label) is = (label, refl)

-- the block of order 0 that has only this frame
abbrev pub alone : ℕ → ℕ → Block
alone frame node = record { order = 0; first = frame; node = node; zone = zone_of frame }

module _ (inputs : InputsView) (t : BootedView) (known : HasUsableMemory inputs t) where
  -- the bytes of a usable frame are memory
  held : (frame x : ℕ) → IsUsable inputs frame → covers (bytes_of_frame frame) x ≡ true → is_some (memory_of t.items x) ≡ true
  held frame x usable inside =
      known.memory x ∙ ap (λ k. is_usable_frame (types_in_reach inputs) k) (number frame x inside) ∙ usable

  -- all bytes of a frame have the label of its first byte
  same_labels : (frame x : ℕ) → covers (bytes_of_frame frame) x ≡ true → memory_of t.items x ≡ memory_of t.items (4096 * frame)
  same_labels frame x inside = known.noded.frames x ∙ ap (λ k. memory_of t.items (4096 * k)) (number frame x inside)

  -- the node that memory has for a byte is the node of the byte's tag
  same_node : (x : ℕ) (o : Option LabelView) → memory_of t.items x ≡ o → node_of_label o ≡ node_of_tag (tag_for o)
  same_node x None is = refl
  same_node x (Some label) is =
      let one = known.noded.nodes x label is in
      let low : nat_lt one.0 MAX_NODES ≡ true = grind (arith, nat_tests, one.2) in
      ap valid_node one.1 ∙ rw low (sym one.1)

  -- a frame that is reported as free is usable, and no claim touches it
  pub reported_frame_is_free : (b : Block) (frame : ℕ) → t.free frame ≡ Some b.node → zone_of frame ≡ b.zone
      → IsFreeFor inputs t.items b frame
  unfolding free_node_in
  reported_frame_is_free b frame booted zone =
      let both : ℕ → Bool = λ x. is_some (memory_of t.items x) && is_none (reserved_labels (owner_of t.items) x) in
      let parts = if_some (each_in (bytes_of_frame frame) both) (node_of_frame (memory_of t.items) frame) b.node
      (ap (λ (f : Frames). f frame) (sym known.free) ∙ booted) in
      let each = λ (x : ℕ) (inside : covers (bytes_of_frame frame) x ≡ true).
      (let ends = covers_frame frame x inside in
      and_parts (is_some (memory_of t.items x)) (is_none (reserved_labels (owner_of t.items) x))
      (each_in-each (bytes_of_frame frame) both parts.0 x ends.0 ends.1)) in
      record {
        usable = ap (λ k. is_usable_frame (types_in_reach inputs) k) (sym (number frame (4096 * frame) (first_byte frame)))
            ∙ sym (known.memory (4096 * frame)) ∙ (each (4096 * frame) (first_byte frame)).0;
        untouched = λ x inside. unowned (owner_of t.items x) (each x inside).1;
        node = λ x inside. ap (λ o. node_of_tag (tag_for o)) (same_labels frame x inside)
            ∙ sym (same_node (4096 * frame) (memory_of t.items (4096 * frame)) refl) ∙ parts.1;
        zone = zone;
      }

  -- a frame that is usable and untouched is reported as free
  pub free_frame_is_reported : (b : Block) (frame : ℕ) → IsFreeFor inputs t.items b frame → t.free frame ≡ Some b.node
  unfolding free_node_in
  free_frame_is_reported b frame free =
      let both : ℕ → Bool = λ x. is_some (memory_of t.items x) && is_none (reserved_labels (owner_of t.items) x) in
      let each = each_in-all (bytes_of_frame frame) both (λ x above below.
      (let inside = frame_covers frame x above below in
      and_from (is_some (memory_of t.items x)) (is_none (reserved_labels (owner_of t.items) x)) (held frame x free.usable inside)
      (ap (λ o. is_none (without_owner o)) (free.untouched x inside)))) in
      ap (λ (f : Frames). f frame) known.free
      ∙ rw each (same_node (4096 * frame) (memory_of t.items (4096 * frame)) refl ∙ free.node (4096 * frame) (first_byte frame))

  -- each usable frame that no claim touches is free, with some node
  pub free_of_some : (frame : ℕ) → IsUsable inputs frame → IsUntouched t.items frame → (node : ℕ) × (t.free frame ≡ Some node)
  free_of_some frame usable untouched =
      let there = some_label (memory_of t.items (4096 * frame)) (held frame (4096 * frame) usable (first_byte frame)) in
      let one = known.noded.nodes (4096 * frame) there.0 there.1 in (
        one.0,
        free_frame_is_reported (alone frame one.0) frame (record {
          usable = usable;
          untouched = untouched;
          node = λ x inside. ap (λ o. node_of_tag (tag_for o)) (same_labels frame x inside ∙ there.1) ∙ one.1;
          zone = refl;
        }),
      )

  -- no frame from `MAX_FRAMES` on is reported as free
  pub told_below : IsEmptyFrom MAX_FRAMES t.free
  unfolding free_node_in
  told_below frame far =
      let small = reach-small inputs in
      let none = known.noded.within (4096 * frame) (omega (arith, far, small)) in
      ap (λ (f : Frames). f frame) known.free ∙ grind (arith, ap node_of_label none)
