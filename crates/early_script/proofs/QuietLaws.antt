-- A line only claims and frees, so memory and the limit are unchanged.
use Rattle.std.proofs.Common.{◌≡◌, ℕ, ◌-◌, Bool, true, false, if◌then◌else◌, Option, Some, None, List, take, Result, Ok, Err, ◌∙◌, ap}
use Rattle.bm_base.specs.declared.memory.Memory.{Memory}
use Rattle.bm_base.specs.Range.{RangeView}
use Rattle.memblock_model.specs.declared.owner.Owner.TheVariants as owner
use Rattle.memblock_model.specs.declared.item.Item.{Item}
use Rattle.memblock_model.specs.Items.{memory_of, limit_of}
use Rattle.script_reader.specs.declared.act.Act.{Act}
use Rattle.script_reader.specs.declared.act.Act.TheVariants as acts
use Rattle.growth_model.specs.Requests.{StepsKeepMemory}
use Rattle.growth_model.specs.Change.{ChangeEffect, items_after_change, no_change}
use Rattle.growth_model.proofs.MemoryItemLaws.{quiet-take}
use Rattle.growth_model.proofs.QuietLaws.{IsQuiet, claim_range-quiet, free_range-quiet, quiet-memory, quiet-limit}
use Rattle.early_script.specs.declared.outcome.Outcome.{Outcome}
use Rattle.early_script.specs.declared.outcome.Outcome.TheVariants as outcomes
use Rattle.early_script.specs.Effects.{ScriptState, LineEffect, EndsAsLine, answer_only, alloc_effect_at, act_on_owned_range, act_effect}
use Rattle.early_script.proofs.RunLaws.{ran-cut}

pub record IsQuietDeed (d : LineEffect) : Type 0 where
  pub change : IsQuiet d.change

by_change : (d : LineEffect) → IsQuiet d.change → IsQuietDeed d
by_change d change = record { change = change }

no_change-quiet : IsQuiet no_change
no_change-quiet = record { each = λ items. tt }

either : (b : Bool) (d e : LineEffect) → IsQuietDeed d → IsQuietDeed e → IsQuietDeed (if b then d else e)
either true d e first second = first
either false d e first second = second

alloc_effect_at-quiet : (s : ScriptState) (id size : ℕ) (place : Option ℕ) → IsQuietDeed (alloc_effect_at s id size place)
alloc_effect_at-quiet s id size None = by_change (answer_only s outcomes.NoGap) no_change-quiet
alloc_effect_at-quiet s id size (Some place) =
    record { change = claim_range-quiet (record { base = place; size = size }) (owner.Script id) }

whole-quiet : (s : ScriptState) (id : ℕ) (act_effect : RangeView → LineEffect) (range : Option RangeView)
    → ((r : RangeView) → IsQuietDeed (act_effect r)) →
    IsQuietDeed (act_on_owned_range s id act_effect range)
whole-quiet s id act_effect None quiet = by_change (answer_only s outcomes.Unknown) no_change-quiet
whole-quiet s id act_effect (Some range) quiet = search (either, quiet, by_change, no_change-quiet)

pub act_effect-quiet : (s : ScriptState) (bytes : ℕ → ℕ) (a : Act) → IsQuietDeed (act_effect s bytes a)
unfolding act_effect
act_effect-quiet s bytes (acts.Alloc id request) = search (either, alloc_effect_at-quiet, by_change, no_change-quiet)
act_effect-quiet s bytes (acts.Reserve id range) = search (either, by_change, no_change-quiet, claim_range-quiet)
act_effect-quiet s bytes (acts.Free id) = search (whole-quiet, by_change, free_range-quiet)
act_effect-quiet s bytes (acts.Trim id keep) = search (whole-quiet, either, by_change, no_change-quiet, free_range-quiet)
act_effect-quiet s bytes (acts.Fill id byte) = search (whole-quiet, either, by_change, no_change-quiet)
act_effect-quiet s bytes a = by_change _ no_change-quiet

-- what quiet steps don't change, an act doesn't change, however it ends
pub acts-keep : {X : Type 0} (f : List Item → X) →
    ((items : List Item) (o : ChangeEffect) → StepsKeepMemory o.steps → f (items_after_change items o) ≡ f items) →
    (r : Result Outcome Memory) (old new : ScriptState) (d : LineEffect) → IsQuietDeed d → EndsAsLine r old new d
    → f new.items ≡ f old.items
acts-keep f keeps (Ok answer) old new d quiet acts =
    ap (λ (s : ScriptState). f s.items) acts.1 ∙ keeps old.items (d.change old.items) (quiet.change.each old.items)
acts-keep f keeps (Err memory) old new d quiet acts =
    let cut = ran-cut d.takes old.items new.items (d.change old.items) acts.0 in
    let steps = take cut.count (d.change old.items).steps in
    ap f cut.stands
    ∙ keeps old.items (record { steps = steps; refused = None })
    (quiet-take cut.count (d.change old.items).steps (quiet.change.each old.items))

pub acts-memory : (r : Result Outcome Memory) (old new : ScriptState) (d : LineEffect) → IsQuietDeed d → EndsAsLine r old new d →
    memory_of new.items ≡ memory_of old.items
acts-memory = acts-keep memory_of quiet-memory

pub acts-limit : (r : Result Outcome Memory) (old new : ScriptState) (d : LineEffect) → IsQuietDeed d → EndsAsLine r old new d →
    limit_of new.items ≡ limit_of old.items
acts-limit = acts-keep limit_of quiet-limit
