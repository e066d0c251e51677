-- What a line of the script does and returns. A line is first tested, in a fixed order, for the
-- reasons to refuse it. The first reason that applies gives the outcome, and memory changes only if
-- none applies.
use Rattle.std.specs.Prelude.{◌≡◌, ◌⊎◌, ℕ, ◌+◌, ◌-◌, nat_le, nat_lt, Bool, true, false, IsTrue, if◌then◌else◌, Option, Some, None, List, [], ◌∷◌, ◌++◌, length, Result, Ok, Err}
use Rattle.bm_base.specs.declared.memory.Memory.{Memory}
use Rattle.bm_base.specs.Range.{RangeView}
use Rattle.phys_store.specs.Bytes.{bytes_at}
use Rattle.memblock_model.specs.declared.item.Item.{Item}
use Rattle.memblock_model.specs.declared.owner.Owner.TheVariants as owner
use Rattle.memblock_model.specs.Items.{owner_of}
use Rattle.script_reader.specs.declared.act.Act.{Act}
use Rattle.script_reader.specs.declared.act.Act.TheVariants as acts
use Rattle.memblock_model.specs.declared.query.Request.{Request}
use Rattle.growth_model.specs.Change.{RefusedGrowth, Change, items_after_change, no_change}
use Rattle.growth_model.specs.Change as growth
use Rattle.growth_model.specs.Growth.{claim_range, free_range}
use Rattle.growth_model.specs.Request.{place_for}
use Rattle.growth_model.specs.Ends.{StopsBeforeStep}
use Rattle.growth_model.specs.Bytes.{byte_after_items, Fill, byte_after_fill}
use Rattle.early_script.specs.declared.outcome.Outcome.{Outcome}
use Rattle.early_script.specs.declared.outcome.Outcome.TheVariants as outcomes
use Rattle.early_script.specs.LiveView.{LiveView, range_of_id, is_live, with_range, without_id}
use Rattle.early_script.specs.Overlaps.{is_owned_by, is_over_table}

-- the state before a line: the range of the kernel's image, the journal's items, and the live IDs
pub record ScriptState : Type 0 where
  pub kernel : RangeView
  pub items : List Item
  pub ids : LiveView

-- The effect of a line: `change` is what it does to memory. If no growth for that change is
-- refused, `answer` is the outcome of the line, `ids` are the live IDs after it, and `fill` is
-- what it fills. `takes` says whether the line also allocates memory of this program, for the
-- range of an ID or for the bytes of the fill.
pub record LineEffect : Type 0 where
  pub change : Change
  pub answer : Outcome
  pub ids : LiveView
  pub fill : Option Fill
  pub takes : Bool

-- the effect of a line that only returns an outcome
abbrev pub answer_only : ScriptState → Outcome → LineEffect
answer_only s answer = record { change = no_change; answer = answer; ids = s.ids; fill = None; takes = false }

-- the effect is only an outcome: no item is written, and no memory of this program is allocated
pub record OnlyAnswers (s : ScriptState) (d : LineEffect) : Type 0 where
  pub unchanged : d.change s.items ≡ no_change s.items
  pub untaken : d.takes ≡ false

-- `alloc`: claims, for the ID, the place that memblock finds for the request, and makes the ID live
-- with that range
abbrev pub alloc_effect_at : ScriptState → ℕ → ℕ → Option ℕ → LineEffect
alloc_effect_at s id size None = answer_only s outcomes.NoGap
alloc_effect_at s id size (Some place) = record {
  change = claim_range (record { base = place; size = size }) (owner.Script id);
  answer = outcomes.At place;
  ids = with_range s.ids id (record { base = place; size = size });
  fill = None;
  takes = true;
}

abbrev pub alloc_effect : ScriptState → ℕ → Request → LineEffect
alloc_effect s id r = if is_live s.ids id then answer_only s outcomes.Taken else alloc_effect_at s id r.size (place_for r s.items)

-- `reserve`: claims the range for the ID and makes the ID live with it, unless the range overlaps a
-- table of memblock
abbrev pub reserve_for_id : ScriptState → ℕ → RangeView → LineEffect
reserve_for_id s id range = record {
  change = claim_range range (owner.Script id);
  answer = outcomes.Done;
  ids = with_range s.ids id range;
  fill = None;
  takes = true;
}

abbrev pub reserve_effect : ScriptState → ℕ → RangeView → LineEffect
reserve_effect s id range =
    if is_live s.ids id then answer_only s outcomes.Taken else
    (if is_over_table s.kernel s.items range then answer_only s outcomes.TableInUse else reserve_for_id s id range)

-- a command on the range of an ID, which is refused unless the ID is live and owns all of its range
abbrev pub act_on_owned_range : ScriptState → ℕ → (RangeView → LineEffect) → Option RangeView → LineEffect
act_on_owned_range s id act_effect None = answer_only s outcomes.Unknown
act_on_owned_range s id act_effect (Some range) =
    if is_owned_by (owner_of s.items) (owner.Script id) range then act_effect range else answer_only s outcomes.NotWhole

abbrev pub on_range_of_id : ScriptState → ℕ → (RangeView → LineEffect) → LineEffect
on_range_of_id s id act_effect = act_on_owned_range s id act_effect (range_of_id s.ids id)

-- `free`: frees the whole range of the ID
abbrev pub free_whole_range : ScriptState → ℕ → RangeView → LineEffect
free_whole_range s id range =
    record { change = free_range range; answer = outcomes.Done; ids = without_id s.ids id; fill = None; takes = false }

abbrev pub free_effect : ScriptState → ℕ → LineEffect
free_effect s id = on_range_of_id s id (free_whole_range s id)

-- `trim`: frees the bytes after the first `keep` of the range; the ID keeps those before
abbrev pub keep_start_of_range : ScriptState → ℕ → ℕ → RangeView → LineEffect
keep_start_of_range s id keep range = record {
  change = free_range (record { base = range.base + keep; size = range.size - keep });
  answer = outcomes.Done;
  ids = with_range s.ids id (record { base = range.base; size = keep });
  fill = None;
  takes = true;
}

abbrev pub trim_whole_range : ScriptState → ℕ → ℕ → RangeView → LineEffect
trim_whole_range s id keep range =
    if nat_le range.size keep then answer_only s outcomes.TooLargeKeep else keep_start_of_range s id keep range

abbrev pub trim_effect : ScriptState → ℕ → ℕ → LineEffect
trim_effect s id keep = on_range_of_id s id (trim_whole_range s id keep)

-- `fill`: writes the value to each byte of the ID's range, which may have at most 65,536 bytes
abbrev pub fill_whole_range : ScriptState → ℕ → RangeView → LineEffect
fill_whole_range s byte range = if nat_lt 65536 range.size then answer_only s outcomes.TooLargeFill else
    record (answer_only s outcomes.Done) { fill = Some (record { range = range; byte = byte; at = length s.items }); takes = true }

abbrev pub fill_effect : ScriptState → ℕ → ℕ → LineEffect
fill_effect s id byte = on_range_of_id s id (fill_whole_range s byte)

-- `peek`: returns the bytes from the address on
abbrev pub peek_effect : ScriptState → (ℕ → ℕ) → ℕ → ℕ → LineEffect
peek_effect s bytes at len = answer_only s (outcomes.Bytes (record { items = bytes_at bytes at len }))

-- the effect of a line's command in this state; `bytes` gives the byte at each address. The line
-- `sections` has no effect here, since the boot places the sections itself.
unfoldable pub act_effect : ScriptState → (ℕ → ℕ) → Act → LineEffect
act_effect s bytes (acts.Alloc id request) = alloc_effect s id request
act_effect s bytes (acts.Reserve id range) = reserve_effect s id range
act_effect s bytes (acts.Free id) = free_effect s id
act_effect s bytes (acts.Trim id keep) = trim_effect s id keep
act_effect s bytes (acts.Fill id byte) = fill_effect s id byte
act_effect s bytes (acts.Peek at len) = peek_effect s bytes at len
act_effect s bytes acts.Sections = answer_only s outcomes.Done

-- if a table of memblock has to grow and no place is found for it, the outcome of the line is
-- `NoGapForTable`, and the live IDs are unchanged
abbrev pub outcome_unless_refused : Option RefusedGrowth → Outcome → Outcome
outcome_unless_refused None answer = answer
outcome_unless_refused (Some r) answer = outcomes.NoGapForTable r.which r.room

abbrev pub ids_unless_refused : Option RefusedGrowth → LiveView → LiveView → LiveView
ids_unless_refused None old new = new
ids_unless_refused (Some r) old new = old

abbrev pub state_after_change : ScriptState → LiveView → growth.ChangeEffect → ScriptState
state_after_change s ids o =
    record { kernel = s.kernel; items = items_after_change s.items o; ids = ids_unless_refused o.refused s.ids ids }

abbrev pub script_outcome_at_line : ScriptState → LineEffect → Outcome
script_outcome_at_line s d = outcome_unless_refused (d.change s.items).refused d.answer

abbrev pub state_after_line : ScriptState → LineEffect → ScriptState
state_after_line s d = state_after_change s d.ids (d.change s.items)

-- This program ran out of memory during a change, which is a list of steps (groups of items).
-- Either it ran out before one of these steps: that step and all later ones are missing. Or it ran
-- out after all steps: no growth was refused, and the line allocates further memory of this program
-- (`takes`).
abbrev pub RunsOutDuringChange : Bool → List Item → List Item → growth.ChangeEffect → Type 0
RunsOutDuringChange takes old new o =
    StopsBeforeStep old new o.steps ⊎ (IsTrue takes × (o.refused ≡ None) × (new ≡ items_after_change old o))

-- this program ran out of memory during a line: some steps of the line's change may be missing, and
-- the live IDs are unchanged
abbrev pub RunsOutDuringLine : ScriptState → ScriptState → LineEffect → Type 0
RunsOutDuringLine old new d =
    RunsOutDuringChange d.takes old.items new.items (d.change old.items) × (new.kernel ≡ old.kernel) × (new.ids ≡ old.ids)

-- a line ends with the outcome and the state that its effect defines, or this program ran out of
-- memory during it
abbrev pub EndsAsLine : Result Outcome Memory → ScriptState → ScriptState → LineEffect → Type 0
EndsAsLine (Ok answer) old new d = (answer ≡ script_outcome_at_line old d) × (new ≡ state_after_line old d)
EndsAsLine (Err memory) old new d = RunsOutDuringLine old new d

-- the byte at address `x`, which was `b`, after the fill; it is unchanged if there is no fill
abbrev pub byte_after_any_fill : Option Fill → ℕ → ℕ → ℕ
byte_after_any_fill None x b = b
byte_after_any_fill (Some f) x b = byte_after_fill f x b

-- the byte at address `x`, which was `b`, after a line
abbrev pub byte_after_line : Result Outcome Memory → ScriptState → ScriptState → LineEffect → ℕ → ℕ → ℕ
byte_after_line (Ok answer) old new d x b = byte_after_any_fill d.fill x (byte_after_items old.kernel old.items new.items x b)
byte_after_line (Err memory) old new d x b = byte_after_items old.kernel old.items new.items x b

-- the fills so far, with the fill of this line appended if the line made one
abbrev pub add_fill : List Fill → Option Fill → List Fill
add_fill fills None = fills
add_fill fills (Some f) = fills ++ f ∷ []

abbrev pub fills_after_line : Result Outcome Memory → LineEffect → List Fill → List Fill
fills_after_line (Ok answer) d fills = add_fill fills d.fill
fills_after_line (Err memory) d fills = fills

-- the line can be run: it doesn't place the sections
abbrev pub CanBeRun : Act → Type 0
CanBeRun acts.Sections = ⊥
CanBeRun a = Unit {0}
