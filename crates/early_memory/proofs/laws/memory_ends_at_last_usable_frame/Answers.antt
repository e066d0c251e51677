use Rattle.std.proofs.Common.{◌≡◌, ℕ, ◌+◌, ◌-◌, ◌*◌, ◌/◌, true, subst, arith}
use Rattle.e820_model.specs.Usable.{is_usable_frame, types_below}
use Rattle.early_memory.specs.Memory.{memory_end}
use Rattle.early_memory.proofs.EndLaws.{end_reached, memory_end-is, mirrored_below}
use Rattle.early_memory.proofs.laws.memory_ends_at_last_usable_frame.Goals as goal

pub returns : goal.returns
returns c = record {
  below = mirrored_below;
  reached = λ limit f. (end_reached limit f (memory_end limit f) (memory_end-is limit f)).0;
  whole = λ limit f. (end_reached limit f (memory_end limit f) (memory_end-is limit f)).1;
  last = λ limit f some.
      let known = (memory_end-is limit f).last some in
      let ends : memory_end limit f ≡ 4096 * known.0 + 4096 = known.1 in
      let number : known.0 ≡ (memory_end limit f - 1) / 4096 = omega arith in
      subst (λ (frame : ℕ). is_usable_frame (types_below limit f) frame ≡ true) number known.2;
}
