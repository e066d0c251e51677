-- If each byte is the one that items and fills define, it still is after a line.
use Rattle.std.proofs.Common.{◌≡◌, ℕ, None, List, Result, Ok, Err, ◌∙◌, ap, refl}
use Rattle.bm_base.specs.declared.memory.Memory.{Memory}
use Rattle.bm_base.specs.Range.{RangeView}
use Rattle.memblock_model.specs.declared.item.Item.{Item}
use Rattle.growth_model.specs.Bytes.{Fill, Follows, AreBytesFromHistory}
use Rattle.growth_model.proofs.FillLaws.{holds-call}
use Rattle.early_script.specs.declared.outcome.Outcome.{Outcome}
use Rattle.early_script.specs.Effects.{ScriptState, LineEffect, EndsAsLine, fills_after_line}

-- equal items and an equal image define the same bytes
pub holds-as : (kernel other : RangeView) (items same : List Item) (fills : List Fill) (f g : ℕ → ℕ) → other ≡ kernel → same ≡ items →
    ((x : ℕ) → g x ≡ f x) → AreBytesFromHistory kernel items fills f → AreBytesFromHistory other same fills g
holds-as kernel other items same fills f g is_kernel is_items each holds =
    rw (is_kernel, is_items) (record { made = holds.made; each = λ x. each x ∙ holds.each x })

acts-kernel : (r : Result Outcome Memory) (old new : ScriptState) (d : LineEffect) → EndsAsLine r old new d → new.kernel ≡ old.kernel
acts-kernel (Ok answer) old new d acts = ap (λ (s : ScriptState). s.kernel) acts.1
acts-kernel (Err memory) old new d acts = acts.1

fills-quiet : (r : Result Outcome Memory) (d : LineEffect) (fills : List Fill) → d.fill ≡ None → fills_after_line r d fills ≡ fills
fills-quiet (Ok answer) d fills none = rw none refl
fills-quiet (Err memory) d fills none = refl

-- each byte is the one that items and fills define after a line that fills nothing
pub holds-quiet : (r : Result Outcome Memory) (old new : ScriptState) (d : LineEffect) (f g : ℕ → ℕ) (fills : List Fill) → d.fill ≡ None →
    EndsAsLine r old new d → Follows old.kernel old.items new.items f g → AreBytesFromHistory old.kernel old.items fills f →
    AreBytesFromHistory new.kernel new.items (fills_after_line r d fills) g
holds-quiet r old new d f g fills none acts follows holds =
    rw (fills-quiet r d fills none, acts-kernel r old new d acts) (holds-call old.kernel old.items new.items fills f g holds follows)

-- the fills after a line are those of an equal effect
pub holds-by : (r : Result Outcome Memory) (new : ScriptState) (d e : LineEffect) (g : ℕ → ℕ) (fills : List Fill) → d ≡ e →
    AreBytesFromHistory new.kernel new.items (fills_after_line r e fills) g
    → AreBytesFromHistory new.kernel new.items (fills_after_line r d fills) g
holds-by r new d e g fills same holds = rw same holds
