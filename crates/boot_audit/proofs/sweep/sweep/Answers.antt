use Rattle.std.proofs.Common.{◌≡◌, ◌≢◌, ◌<◌, ◌≤◌, ℕ, ◌∙◌, sym, inl, inr, arith}
use Rattle.std.proofs.lemmas.Bool.{cases_lt}
use Rattle.boot_audit.specs.declared.sweep.ByteState.TheVariants as states
use Rattle.boot_audit.specs.Sweep.{byte_state_at}
use Rattle.boot_audit.specs.Verdicts.{is_lost, is_in_block_but_not_free}
use Rattle.boot_audit.proofs.FrameLaws.{bytes_tell, same_state}
use Rattle.boot_audit.proofs.SweepLaws.{at_start, carried_on, carried_near, lost_at_end, none_at_end, first_not_free}
use Rattle.boot_audit.proofs.sweep.sweep.Goals as goal

pub loop-at-init : goal.loop-at-init
loop-at-init c =
    let s = c.args.saved.now in
    record {
      near = omega arith;
      from_near = omega arith;
      run_order = c.skip_lines_below-runs.ensures.order;
      run_after = c.skip_lines_below-runs.ensures.after;
      run_same = λ x above. rw c.deref.ensures.value at (c.skip_lines_below-runs.ensures.says x above);
      owner_order = c.skip_lines_below-owners.ensures.order;
      owner_after = c.skip_lines_below-owners.ensures.after;
      owner_same = λ x above. rw c.deref-2.ensures.value at (c.skip_lines_below-owners.ensures.says x above);
      held_order = c.skip_lines_below-held.ensures.order;
      held_after = c.skip_lines_below-held.ensures.after;
      held_same = λ x above. rw c.deref-3.ensures.value at (c.skip_lines_below-held.ensures.says x above);
      none_bad = λ x below. absurd (omega arith);
      so_far = at_start (byte_state_at c.args.limit s.map.items s.owners.items s.blocks.items)
          (is_lost c.args.limit s.map.items s.owners.items s.blocks.items)
          (is_in_block_but_not_free c.args.limit s.map.items s.owners.items s.blocks.items)
          (bytes_tell c.args.limit s.map.items s.owners.items s.blocks.items c.requires.aligned);
    }

pub returns-in-NotFree-clause-not_free : goal.returns-in-NotFree-clause-not_free
returns-in-NotFree-clause-not_free c =
    let s = c.args.saved.now in
    let inv = c.loop-at.invariant in
    let same = same_state c.args.limit c.loop-at.runs.now s.map.items c.loop-at.owners.now s.owners.items c.loop-at.held.now s.blocks.items
    c.loop-at.at (inv.run_same c.loop-at.at (omega arith)) (inv.owner_same c.loop-at.at (omega arith))
    (inv.held_same c.loop-at.at (omega arith)) in
    first_not_free (byte_state_at c.args.limit s.map.items s.owners.items s.blocks.items)
    (is_lost c.args.limit s.map.items s.owners.items s.blocks.items)
    (is_in_block_but_not_free c.args.limit s.map.items s.owners.items s.blocks.items)
    (bytes_tell c.args.limit s.map.items s.owners.items s.blocks.items c.requires.aligned)
    c.loop-at.at c.loop-at-test.true inv.none_bad
    (same ∙ c.state_run_from-piece.ensures.state c.loop-at.at (omega arith) c.state_run_from-piece.ensures.forward ∙ c.in-NotFree.is)

pub loop-at-preserved : goal.loop-at-preserved
loop-at-preserved c =
    let s = c.args.saved.now in
    let inv = c.loop-at.invariant in
    let p = c.state_run_from-piece.ensures in
    let until = c.state_run_from-piece.result.until in
    let state : (x : ℕ) → c.loop-at.at ≤ x → x < until
    → byte_state_at c.args.limit s.map.items s.owners.items s.blocks.items x ≡ c.state_run_from-piece.result.state =
    λ x above below. same_state c.args.limit c.loop-at.runs.now s.map.items c.loop-at.owners.now s.owners.items
    c.loop-at.held.now s.blocks.items x (inv.run_same x above) (inv.owner_same x above) (inv.held_same x above)
    ∙ p.state x above below in
    record {
      near = p.near;
      from_near = rw c.advance_lost_frame-next.ensures (carried_near (byte_state_at c.args.limit s.map.items s.owners.items s.blocks.items)
          (is_lost c.args.limit s.map.items s.owners.items s.blocks.items)
          (is_in_block_but_not_free c.args.limit s.map.items s.owners.items s.blocks.items)
          (bytes_tell c.args.limit s.map.items s.owners.items s.blocks.items c.requires.aligned)
          c.loop-at.from until c.loop-at.lost c.state_run_from-piece.result.state inv.from_near p.near);
      run_order = c.skip_lines_below-runs-in-loop-at.ensures.order;
      run_after = c.skip_lines_below-runs-in-loop-at.ensures.after;
      run_same = λ x above. c.skip_lines_below-runs-in-loop-at.ensures.says x above ∙ inv.run_same x (omega (arith, p.forward));
      owner_order = c.skip_lines_below-owners-in-loop-at.ensures.order;
      owner_after = c.skip_lines_below-owners-in-loop-at.ensures.after;
      owner_same = λ x above. c.skip_lines_below-owners-in-loop-at.ensures.says x above ∙ inv.owner_same x (omega (arith, p.forward));
      held_order = c.skip_lines_below-held-in-loop-at.ensures.order;
      held_after = c.skip_lines_below-held-in-loop-at.ensures.after;
      held_same = λ x above. c.skip_lines_below-held-in-loop-at.ensures.says x above ∙ inv.held_same x (omega (arith, p.forward));
      none_bad = λ x below. elim
          (cases_lt x c.loop-at.at) as (λ _. byte_state_at c.args.limit s.map.items s.owners.items s.blocks.items x ≢ states.NotFree) [
            | inl early ↦ inv.none_bad x early
            | inr late ↦ λ is. c.in_default.not-NotFree (sym (state x late below) ∙ is)
          ];
      so_far = rw c.advance_lost_frame-next.ensures (carried_on (byte_state_at c.args.limit s.map.items s.owners.items s.blocks.items)
          (is_lost c.args.limit s.map.items s.owners.items s.blocks.items)
          (is_in_block_but_not_free c.args.limit s.map.items s.owners.items s.blocks.items)
          (bytes_tell c.args.limit s.map.items s.owners.items s.blocks.items c.requires.aligned)
          c.loop-at.from c.loop-at.at until c.loop-at.lost c.state_run_from-piece.result.state p.forward p.near
          (λ x above below. state x above below) inv.so_far);
    }

pub returns-clause-not_free : goal.returns-clause-not_free
returns-clause-not_free c =
    let s = c.args.saved.now in
    none_at_end (byte_state_at c.args.limit s.map.items s.owners.items s.blocks.items)
    (is_lost c.args.limit s.map.items s.owners.items s.blocks.items)
    (is_in_block_but_not_free c.args.limit s.map.items s.owners.items s.blocks.items)
    (bytes_tell c.args.limit s.map.items s.owners.items s.blocks.items c.requires.aligned)
    c.loop-at.at c.loop-at-test.false c.loop-at.invariant.none_bad

pub returns-clause-lost : goal.returns-clause-lost
returns-clause-lost c = λ none.
    let s = c.args.saved.now in
    lost_at_end (byte_state_at c.args.limit s.map.items s.owners.items s.blocks.items)
    (is_lost c.args.limit s.map.items s.owners.items s.blocks.items)
    (is_in_block_but_not_free c.args.limit s.map.items s.owners.items s.blocks.items)
    (bytes_tell c.args.limit s.map.items s.owners.items s.blocks.items c.requires.aligned)
    c.loop-at.from c.loop-at.at c.loop-at.lost c.loop-at-test.false c.loop-at.invariant.so_far
