-- How a call that makes a change ends: as the change defines, or before one of its steps because
-- this program is out of memory.
use Rattle.std.specs.Prelude.{◌≡◌, ℕ, ◌<◌, ◌≤◌, Option, Some, None, List, ◌++◌, length, take, Result, Ok, Err, IfOk}
use Rattle.memblock_model.specs.declared.item.Item.{Item}
use Rattle.memblock_model.specs.declared.owner.Owner.{Owner}
use Rattle.growth_model.specs.declared.refusal.Refusal.{Refusal}
use Rattle.growth_model.specs.declared.refusal.Refusal.TheVariants as refusal
use Rattle.growth_model.specs.Change.{ChangeEffect, Change, items_of_steps, items_after_change}
use Rattle.growth_model.specs.Growth.{claim_range}

-- `new` has the items of `old`, followed by those of the first `count` steps
pub record WritesFirstSteps (old new : List Item) (steps : List (List Item)) : Type 0 where
  pub count : ℕ
  pub within : count ≤ length steps
  pub stands : new ≡ old ++ items_of_steps (take count steps)

-- `new` has the items of `old`, followed by those of the first `count` steps, and at least one step
-- is missing
pub record StopsBeforeStep (old new : List Item) (steps : List (List Item)) : Type 0 where
  pub count : ℕ
  pub short : count < length steps
  pub stands : new ≡ old ++ items_of_steps (take count steps)

-- How a call with this effect ends; `old` and `new` are the journal's items before and after it. It
-- returns Ok if no growth was refused, and NoGapForTable with the refused growth if one was. In
-- both cases all items of the effect are written. If it returns Memory, at least one step is
-- missing. It never returns NoGap, which is only for allocations.
abbrev pub EndsAsEffect : {T : Type 0} → Result T Refusal → List Item → List Item → ChangeEffect → Type 0
EndsAsEffect (Ok x) old new o = (o.refused ≡ None) × (new ≡ items_after_change old o)
EndsAsEffect (Err refusal.NoGap) old new o = ⊥
EndsAsEffect (Err (refusal.NoGapForTable w room)) old new o =
    (o.refused ≡ Some (record { which = w; room = room })) × (new ≡ items_after_change old o)
EndsAsEffect (Err refusal.Memory) old new o = StopsBeforeStep old new o.steps

-- how a call that makes this change ends: as its effect for the items `old` says, or before one of
-- its steps because this program is out of memory
abbrev pub EndsAsChange : {T : Type 0} → Result T Refusal → List Item → List Item → Change → Type 0
EndsAsChange result old new change = EndsAsEffect result old new (change old)

-- how an allocation of `size` bytes for the owner `who` ends, if its searches find this address. It
-- claims the range there as any claim does, and returns the address if the claim succeeds. If the
-- searches find none, it returns NoGap and writes nothing.
abbrev pub Allocates : Result ℕ Refusal → List Item → List Item → Option ℕ → ℕ → Owner → Type 0
Allocates result old new None size who = (result ≡ Err refusal.NoGap) × (new ≡ old)
Allocates result old new (Some place) size who =
    IfOk result (λ base. base ≡ place) × EndsAsChange result old new (claim_range (record { base = place; size = size }) who)
