-- How a line ends, from how memblock's call ends. If the line fills nothing, the items decide the
-- bytes.
use Rattle.std.proofs.Common.{◌≡◌, ℕ, Bool, None, List, length, Result, Ok, Err, IsOk, refl, sym, ◌∙◌, ap, arith, inl, inr}
use Rattle.std.proofs.lemmas.Bool.{true≢false}
use Rattle.std.proofs.Math.Seq.{take-length}
use Rattle.bm_base.specs.declared.memory.Memory.{Memory}
use Rattle.bm_base.specs.Range.{RangeView}
use Rattle.memblock_model.specs.declared.item.Item.{Item}
use Rattle.memblock_model.specs.declared.query.Request.{Request}
use Rattle.growth_model.specs.Change as growth
use Rattle.growth_model.specs.Ends.{WritesFirstSteps}
use Rattle.growth_model.proofs.EndLaws.{cut-short}
use Rattle.growth_model.specs.Bytes.{Follows}
use Rattle.early_script.specs.declared.outcome.Outcome.{Outcome}
use Rattle.early_script.specs.Effects.{ScriptState, LineEffect, RunsOutDuringChange, OnlyAnswers, EndsAsLine, alloc_effect, reserve_effect, free_effect, trim_effect, byte_after_line}

-- if this program ran out of memory, some of the steps of the change are written, or all
pub ran-cut : (takes : Bool) (old new : List Item) (o : growth.ChangeEffect) → RunsOutDuringChange takes old new o
    → WritesFirstSteps old new o.steps
ran-cut takes old new o ran =
    elim ran as (λ _. WritesFirstSteps old new o.steps) [
      | inl cut ↦ cut-short old new o.steps cut
      | inr after ↦ record {
        count = length o.steps;
        within = omega arith;
        stands = rw take-length after.2;
      }
    ]

-- a line that only returns an outcome can't be out of memory
pub only-answers : (r : Result Outcome Memory) (old new : ScriptState) (d : LineEffect) → OnlyAnswers old d → EndsAsLine r old new d
    → IsOk r
only-answers (Ok answer) old new d only acts = refl
only-answers (Err memory) old new d only acts =
    let none = ap (λ (o : growth.ChangeEffect). length o.steps) only.unchanged in
    elim acts.0 as (λ _. IsOk {T = Outcome} (Err memory)) [
      | inl cut ↦ let short = cut.short in absurd (omega (arith, none, short))
      | inr after ↦ absurd (true≢false (sym after.0 ∙ only.untaken))
    ]

-- without a fill, the bytes after a line are those of the items
pub bytes-quiet : (result : Result Outcome Memory) (old new : ScriptState) (d : LineEffect) (f g : ℕ → ℕ) → d.fill ≡ None →
    Follows old.kernel old.items new.items f g → (x : ℕ) → g x ≡ byte_after_line result old new d x (f x)
bytes-quiet (Ok answer) old new d f g none follows x = rw none (follows.each x)
bytes-quiet (Err memory) old new d f g none follows x = follows.each x

pub alloc-quiet : (s : ScriptState) (id : ℕ) (r : Request) → (alloc_effect s id r).fill ≡ None
alloc-quiet s id r = grind arith

pub reserve-quiet : (s : ScriptState) (id : ℕ) (range : RangeView) → (reserve_effect s id range).fill ≡ None
reserve-quiet s id range = grind arith

pub free-quiet : (s : ScriptState) (id : ℕ) → (free_effect s id).fill ≡ None
free-quiet s id = grind arith

pub trim-quiet : (s : ScriptState) (id keep : ℕ) → (trim_effect s id keep).fill ≡ None
trim-quiet s id keep = grind arith
