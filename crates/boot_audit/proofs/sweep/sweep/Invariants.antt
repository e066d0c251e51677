use Rattle.std.proofs.Common.{◌≡◌, ◌≢◌, ◌-◌, ◌≤◌, ◌<◌, ◌^◌, ℕ, map}
use Rattle.audit_lines.specs.Blocks.{bytes_of_block}
use Rattle.audit_lines.specs.Lines.{AscendApart}
use Rattle.boot_audit.specs.declared.sweep.ByteState.TheVariants as states
use Rattle.boot_audit.specs.Frames.{is_in_memory, has_owner}
use Rattle.boot_audit.specs.Sweep.{FirstEndsAbove, is_byte_in_block, byte_state_at}
use Rattle.boot_audit.specs.Verdicts.{is_lost}
use Rattle.boot_audit.proofs.SweepLaws.{SoFar}
use Rattle.boot_audit.proofs.sweep.sweep.Given as goal

abbrev pub invariant-loop-at : goal.invariant-loop-at
invariant-loop-at l = record {
  near : l.at ≤ 2 ^ 52;
  from_near : l.from ≤ 2 ^ 52;
  run_order : AscendApart (map (λ r. r.range) l.runs);
  run_after : FirstEndsAbove l.at (map (λ r. r.range) l.runs);
  run_same : (x : ℕ) → l.at ≤ x → is_in_memory l.runs x ≡ is_in_memory l.saved.map.items x;
  owner_order : AscendApart (map (λ r. r) l.owners);
  owner_after : FirstEndsAbove l.at (map (λ r. r) l.owners);
  owner_same : (x : ℕ) → l.at ≤ x → has_owner l.owners x ≡ has_owner l.saved.owners.items x;
  held_order : AscendApart (map bytes_of_block l.held);
  held_after : FirstEndsAbove l.at (map bytes_of_block l.held);
  held_same : (x : ℕ) → l.at ≤ x → is_byte_in_block l.held x ≡ is_byte_in_block l.saved.blocks.items x;
  none_bad : (x : ℕ) → x < l.at
      → byte_state_at l.limit l.saved.map.items l.saved.owners.items l.saved.blocks.items x ≢ states.NotFree;
  so_far : SoFar (byte_state_at l.limit l.saved.map.items l.saved.owners.items l.saved.blocks.items)
      (is_lost l.limit l.saved.map.items l.saved.owners.items l.saved.blocks.items) l.from l.at l.lost;
}

abbrev pub decreases-loop-at : goal.decreases-loop-at
decreases-loop-at l = 2 ^ 52 - l.at
