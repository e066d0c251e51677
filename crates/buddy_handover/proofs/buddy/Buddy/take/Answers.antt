use Rattle.std.proofs.Common.{◌≡◌, ◌+◌, ◌^◌, is_some, Result, Ok, Err, IfErr, ◌∙◌, ap, subst, arith}
use Rattle.bm_base.specs.Range.{RangeView}
use Rattle.address_runs.specs.Runs.{value_at, IsRunsOf}
use Rattle.address_runs.specs.Edits.{IsEmptyFrom}
use Rattle.buddy_blocks.specs.declared.run.TheConstants.{MAX_FRAMES}
use Rattle.buddy_blocks.specs.BlockList.{block_of}
use Rattle.buddy_blocks.specs.Buddies.{without_set}
use Rattle.buddy_handover.specs.BuddyView.{BuddyView, node_of_free_frame}
use Rattle.std.proofs.lemmas.Option.{IfSome_then}
use Rattle.buddy_handover.proofs.TakeLaws.{first_is, first_none, runs_without}
use Rattle.buddy_handover.proofs.buddy.Buddy.take.Goals as goal

pub returns-in_default-find_picked_block-clause-none : goal.returns-in_default-find_picked_block-clause-none
returns-in_default-find_picked_block-clause-none c =
    let low = subst (λ (b : BuddyView). IsEmptyFrom MAX_FRAMES (node_of_free_frame b)) (c.self.view_is
    ∙ c.in-Ok.ensures.stays) c.self.invariant.2 in
    λ same. first_none (node_of_free_frame c.args.self.now) c.args.node c.args.zone c.args.order low
    (c.in_default-find_picked_block.ensures (node_of_free_frame c.args.self.now) c.in-Ok.ensures.areas)

pub invariant_of-self-2 : goal.invariant_of-self-2
invariant_of-self-2 c =
    let o = c.args.order in
    let b = c.in-Some.block in
    let f = node_of_free_frame c.args.self.now in
    let new = c.remove_frames.new.runs.items in
    let view = ap (λ (d : BuddyView). d.runs) c.self-2.view_is in
    let ready = c.in_ok-ready.ensures.runs in
    let stays = ap (λ (d : BuddyView). d.runs) c.in-Ok.ensures.stays in
    let spare = ap (λ (d : BuddyView). d.spare) c.self-2.view_is in
    let room = c.self-2.invariant.0 in
    let runs : IsRunsOf (without_set o b.first f) new =
    rw (view ∙ ready ∙ stays) at (rw c.set_around-2.ensures.frames at c.remove_frames.ensures.runs) in
    let is = c.in-Some.ensures f c.in-Ok.ensures.areas in
    let aligned = is.block.aligned in
    let base = ap (λ (r : RangeView). r.base) c.set_around.ensures.frames in
    let size = ap (λ (r : RangeView). r.size) c.set_around.ensures.frames in
    let end : c.end.result ≡ b.first + 2 ^ b.order = omega (arith, base, size, aligned) in
    let after : c.block_of-after.result ≡ block_of f (b.first + 2 ^ b.order) = rw (← end, ← ready ∙ stays) c.block_of-after.ensures in (
      omega (arith, spare, room),
      runs.runs,
      c.remove_frames.ensures.within,
      IfSome_then c.index_after_alloc-rest.result c.index_after_alloc-rest.ensures (λ left told.
          told f (value_at new) c.in-Ok.ensures.areas (runs_without f new o b.first runs) is.block is.serves.enough after),
    )

pub returns-clause-first : goal.returns-clause-first
returns-clause-first c =
    let low = subst (λ (b : BuddyView). IsEmptyFrom MAX_FRAMES (node_of_free_frame b)) (c.self.view_is
    ∙ c.in-Ok.ensures.stays) c.self.invariant.2 in
    first_is (node_of_free_frame c.args.self.now) c.args.node c.args.zone c.args.order c.in-Some.block low
    (c.in-Some.ensures (node_of_free_frame c.args.self.now) c.in-Ok.ensures.areas)

-- what holds of each error
any_err : {X E : Type 0} → (r : Result X E) (P : E → Type 0) → ((e : E) → P e) → IfErr r P
any_err (Ok x) P holds = tt
any_err (Err e) P holds = holds e

pub returns-in_err-ready-clause-memory : goal.returns-in_err-ready-clause-memory
returns-in_err-ready-clause-memory c =
    let low = subst (λ (b : BuddyView). IsEmptyFrom MAX_FRAMES (node_of_free_frame b)) (c.self.view_is
    ∙ c.in-Ok.ensures.stays) c.self.invariant.2 in
    let first = first_is (node_of_free_frame c.args.self.now) c.args.node c.args.zone c.args.order c.in-Some.block low
    (c.in-Some.ensures (node_of_free_frame c.args.self.now) c.in-Ok.ensures.areas) in
    any_err c.from_residual.result _ (λ refusal wanted. ap is_some first)
