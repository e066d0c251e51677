use Rattle.std.proofs.Common.{◌≡◌, ℕ, None, ◌∙◌, ap, arith}
use Rattle.address_runs.specs.Runs.{value_at, IsRunsOf}
use Rattle.buddy_blocks.specs.Frames.{IsInSet}
use Rattle.buddy_blocks.specs.Buddies.{with_set}
use Rattle.buddy_handover.specs.BuddyView.{BuddyView}
use Rattle.std.proofs.lemmas.Option.{IfSome_then}
use Rattle.buddy_handover.proofs.TakeLaws.{block_small, runs_with, joined_block}
use Rattle.buddy_handover.proofs.buddy.Buddy.put_back.Goals as goal

pub index_after_free-requires-clause-small : goal.index_after_free-requires-clause-small
index_after_free-requires-clause-small c =
    block_small (value_at c.insert_frames.new.runs.items) c.args.first c.block_of-block.result c.block_of-block.ensures

pub invariant_of-self : goal.invariant_of-self
invariant_of-self c =
    let o = c.args.order in
    let x = c.args.first in
    let n = c.args.node in
    let rs = c.self.inside.runs.items in
    let new = c.insert_frames.new.runs.items in
    let same = ap (λ (b : BuddyView). b.runs) c.self.view_is ∙ c.in_ok-ready.ensures.runs in
    let spare = ap (λ (b : BuddyView). b.spare) c.self.view_is in
    let room = c.self.invariant.0 in
    let runs : IsRunsOf (with_set o x n (value_at rs)) new = rw c.set_around.ensures.frames at c.insert_frames.ensures.runs in
    let held : (y : ℕ) → IsInSet o x y → value_at rs y ≡ None = rw same c.requires.held in (
      omega (arith, spare, room),
      runs.runs,
      c.insert_frames.ensures.within,
      IfSome_then c.index_after_free.result c.index_after_free.ensures (λ left told.
          told (value_at new) (value_at rs) (rw c.take-areas.ensures.value c.self.invariant.3) (runs_with (value_at rs) new o x n held runs)
          (joined_block (value_at rs) new o x n c.block_of-block.result c.requires.small runs c.block_of-block.ensures)),
    )
