-- What lines say of a frame, compared with what the runs and blocks say from which they were
-- printed.
use Rattle.std.proofs.Common.{◌≡◌, ℕ, ◌+◌, ◌*◌, ◌/◌, ◌^◌, ◌≤◌, ◌<◌, ◌==◌, Bool, true, false, ◌&&◌, ◌||◌, not, nat_lt, is_some, cond, List, [], ◌∷◌, map, refl, sym, ◌∙◌, ap, inl, inr, arith}
use Rattle.std.proofs.Math.Bool.{and_comm}
use Rattle.std.proofs.lemmas.Bool.{and_from, and_parts, cases_Bool}
use Rattle.std.proofs.lemmas.Bool.Decides.{nat_tests}
use Rattle.std.proofs.lemmas.List.Sums.{sum_by-cons}
use Rattle.bm_base.specs.Range.{RangeView, covers}
use Rattle.bm_base.specs.Frames.{bytes_of_frame}
use Rattle.bm_base.proofs.EachLaws.{each_in-all, each_in-each, each_in-fails}
use Rattle.address_runs.specs.Runs.{IsRunsOf, RunOf, range_of_run, lies_in, value_at}
use Rattle.memblock_model.specs.Items.{owner_of}
use Rattle.memblock_model.specs.declared.item.Item.{Item}
use Rattle.memblock_model.specs.declared.owner.Owner.{Owner}
use Rattle.buddy_blocks.specs.declared.block.Block.{Block}
use Rattle.boot_model.specs.Boot.{lies_in_memory}
use Rattle.conservation.specs.ByMap.{IsUsableByMap}
use Rattle.conservation.specs.RecordedClaims.{IsTouched, IsUntouched}
use Rattle.conservation.specs.Headline.{count_blocks_with, has_frame}
use Rattle.conservation.proofs.ClaimedLaws.{covers_frame, frame_covers}
use Rattle.audit_roundtrip.specs.PrintedLines.{line_of_block, line_of_run}
use Rattle.boot_audit.specs.Conserved.{count_blocks_of_frame}
use Rattle.boot_audit.specs.Frames.{frames_of_block, is_in_memory, has_owner, is_untouched, is_usable}

abbrev or_of : Bool → Bool → Bool
or_of a b = a || b

-- a byte is in memory by the lines exactly if it is in memory by the runs
memory_told : (runs : List (RunOf ℕ)) (x : ℕ) → is_in_memory (map line_of_run runs) x ≡ lies_in_memory runs x
memory_told [] x = refl
memory_told (r ∷ rs) x =
    ap (λ (b : Bool). or_of b (is_in_memory (map line_of_run rs) x)) (and_comm (r.value == 1 || r.value == 128) (lies_in r x))
    ∙ ap (or_of (lies_in r x && (r.value == 1 || r.value == 128))) (memory_told rs x)

-- a frame is usable by the lines exactly if it is usable by the runs
pub told_usable : (limit : ℕ) (runs : List (RunOf ℕ)) (frame : ℕ) → is_usable limit (map line_of_run runs) frame ≡ true
    → IsUsableByMap limit runs frame
unfolding is_usable
told_usable limit runs frame usable =
    let each : (x : ℕ) → 4096 * frame ≤ x → x < 4096 * frame + 4096
    → (nat_lt x limit ≡ true) × (is_in_memory (map line_of_run runs) x ≡ true) = λ x above below.
    and_parts (nat_lt x limit) (is_in_memory (map line_of_run runs) x)
    (each_in-each (bytes_of_frame frame) (λ y. nat_lt y limit && is_in_memory (map line_of_run runs) y) usable x above below) in
    let last : nat_lt (4096 * frame + 4095) limit ≡ true = (each (4096 * frame + 4095) (omega arith) (omega arith)).0 in
    let low : 4096 * frame + 4095 < limit = grind (arith, nat_tests) in (
      omega (arith, low),
      λ x inside. (let ends = covers_frame frame x inside in sym (memory_told runs x) ∙ (each x ends.0 ends.1).1),
    )

pub usable_told : (limit : ℕ) (runs : List (RunOf ℕ)) (frame : ℕ) → IsUsableByMap limit runs frame
    → is_usable limit (map line_of_run runs) frame ≡ true
unfolding is_usable
usable_told limit runs frame usable =
    each_in-all (bytes_of_frame frame) (λ x. nat_lt x limit && is_in_memory (map line_of_run runs) x) (λ x above below.
    let near = usable.0 in
    let low : nat_lt x limit ≡ true = grind (arith, nat_tests) in
    and_from (nat_lt x limit) (is_in_memory (map line_of_run runs) x) low
    (memory_told runs x ∙ usable.1 x (frame_covers frame x above below)))

-- a byte has an owner by the lines exactly if a run gives it one
owned_told : (rs : List (RunOf Owner)) (x : ℕ) → has_owner (map range_of_run rs) x ≡ is_some (value_at rs x)
owned_told [] x = refl
owned_told (r ∷ rs) x =
    elim (cases_Bool (lies_in r x)) as (λ _. has_owner (map range_of_run (r ∷ rs)) x ≡ is_some (value_at (r ∷ rs) x)) [
      | inl inside ↦ rw inside refl
      | inr outside ↦ rw outside (owned_told rs x)
    ]

module _ (items : List Item) (rs : List (RunOf Owner)) (runs : IsRunsOf (owner_of items) rs) where
  owned_by : (x : ℕ) → has_owner (map range_of_run rs) x ≡ is_some (owner_of items x)
  owned_by x = owned_told rs x ∙ ap is_some (runs.each x)

  -- a frame is untouched by the lines exactly if it is untouched by the runs
  pub untouched_told : (frame : ℕ) → IsUntouched items frame → is_untouched (map range_of_run rs) frame ≡ true
  unfolding is_untouched
  untouched_told frame bare =
      each_in-all (bytes_of_frame frame) (λ x. not (has_owner (map range_of_run rs) x)) (λ x above below.
      ap not (owned_by x ∙ ap is_some (bare x (frame_covers frame x above below))))

  pub touched_told : (frame : ℕ) → IsTouched items frame → is_untouched (map range_of_run rs) frame ≡ false
  unfolding is_untouched
  touched_told frame touched =
      let ends = covers_frame frame touched.byte touched.inside in
      each_in-fails (bytes_of_frame frame) (λ x. not (has_owner (map range_of_run rs) x)) touched.byte ends.0 ends.1
      (ap not (owned_by touched.byte ∙ ap is_some touched.owned))

-- this and the next: the line of a block has a frame exactly if the block has it
at_first : (first : ℕ) → (4096 * first) / 4096 ≡ first
at_first first = omega arith

pub frames_told : (b : Block) → frames_of_block (line_of_block b) ≡ record { base = b.first; size = 2 ^ b.order }
frames_told b = ap (λ (n : ℕ). let e : RangeView = record { base = n; size = 2 ^ b.order } in e) (at_first b.first)

pub frame_told : (b : Block) (frame : ℕ) → covers (frames_of_block (line_of_block b)) frame ≡ has_frame b frame
frame_told b frame = ap (λ (e : RangeView). covers e frame) (frames_told b)

-- as many lines as blocks have the frame
pub counted_told : (bs : List Block) (frame : ℕ) → count_blocks_of_frame (map line_of_block bs) frame ≡ count_blocks_with bs frame
counted_told [] frame = refl
counted_told (b ∷ bs) frame =
    let counts : count_blocks_with (b ∷ bs) frame ≡ cond (has_frame b frame) 1 0 + count_blocks_with bs frame =
    sum_by-cons (λ (c : Block). cond (has_frame c frame) 1 0) b bs in
    let rest : count_blocks_of_frame (map line_of_block bs) frame ≡ count_blocks_with bs frame = counted_told bs frame in
    elim (cases_Bool (has_frame b frame)) as (λ _.
    count_blocks_of_frame (map line_of_block (b ∷ bs)) frame ≡ count_blocks_with (b ∷ bs) frame) [
      | inl inside ↦
          (let here : covers (frames_of_block (line_of_block b)) frame ≡ true = frame_told b frame ∙ inside in
          let one : count_blocks_with (b ∷ bs) frame ≡ 1 + count_blocks_with bs frame =
          counts ∙ ap (λ (t : Bool). cond t 1 0 + count_blocks_with bs frame) inside in
          rw here (omega (arith, rest, one)))
      | inr outside ↦
          (let away : covers (frames_of_block (line_of_block b)) frame ≡ false = frame_told b frame ∙ outside in
          let none : count_blocks_with (b ∷ bs) frame ≡ 0 + count_blocks_with bs frame =
          counts ∙ ap (λ (t : Bool). cond t 1 0 + count_blocks_with bs frame) outside in
          rw away (omega (arith, rest, none)))
    ]
