-- An act on a live ID, computed from what is known of the ID's range.
use Rattle.std.proofs.Common.{◌≡◌, ℕ, ◌<◌, ◌≤◌, ◌↔◌, Bool, if◌then◌else◌, Some, IsTrue, refl}
use Rattle.bm_base.specs.Range.{RangeView, end_of}
use Rattle.memblock_model.specs.declared.owner.Owner.TheVariants as owner
use Rattle.memblock_model.specs.Items.{owner_of}
use Rattle.boot_journal.specs.JournalView.{JournalView}
use Rattle.early_script.specs.declared.outcome.Outcome.TheVariants as outcomes
use Rattle.early_script.specs.LiveView.{range_of_id}
use Rattle.early_script.specs.Overlaps.{is_owned_by}
use Rattle.early_script.specs.Effects.{ScriptState, LineEffect, answer_only, on_range_of_id}
use Rattle.early_script.proofs.OwnedLaws.{owned-is}

-- the result of the journal's look-up
pub owned-by : (j k : JournalView) (id : ℕ) (range : RangeView) (b told : Bool) → j ≡ k → b ≡ told →
    (IsTrue b ↔ ((x : ℕ) → range.base ≤ x → x < end_of range → owner_of j.items x ≡ Some (owner.Script id))) →
    is_owned_by (owner_of k.items) (owner.Script id) range ≡ told
owned-by j k id range b told same is tells =
    rw (← same, ← is) (owned-is (owner_of j.items) (owner.Script id) range b tells)

pub whole-is : (s : ScriptState) (id : ℕ) (range : RangeView) (told : Bool) → range_of_id s.ids id ≡ Some range →
    is_owned_by (owner_of s.items) (owner.Script id) range ≡ told → (deed : RangeView → LineEffect) →
    on_range_of_id s id deed ≡ (if told then deed range else answer_only s outcomes.NotWhole)
whole-is s id range told found owned deed = rw (found, owned) refl
