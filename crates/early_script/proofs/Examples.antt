-- Examples: two live IDs in a small machine, and what each act does with them.
use Rattle.std.proofs.Common.{◌≡◌, ℕ, ◌++◌, true, false, Some, None, List, [], ◌∷◌, length, refl, sym, ap, subst, arith, inl, inr, length-append}
use Rattle.std.proofs.lemmas.Bool.{true≢false}
use Rattle.bm_base.specs.Range.{RangeView}
use Rattle.bm_base.specs.Each.{each_from, each_in}
use Rattle.memblock_model.specs.declared.owner.Which.TheVariants as which
use Rattle.memblock_model.specs.declared.owner.Owner.TheVariants as owner
use Rattle.memblock_model.specs.declared.item.Item.{Item}
use Rattle.memblock_model.specs.declared.item.Item.TheVariants as item
use Rattle.memblock_model.specs.Items.{owner_of}
use Rattle.script_reader.specs.declared.act.Act.TheVariants as acts
use Rattle.script_reader.specs.declared.act.Line.{Line}
use Rattle.growth_model.specs.Change.{RefusedGrowth}
use Rattle.growth_model.specs.Bytes.{Fill, AreBytesFromHistory}
use Rattle.memblock_grow.specs.MemblockView.{MemblockView}
use Rattle.early_script.specs.declared.outcome.Answer.{Answer}
use Rattle.early_script.specs.declared.outcome.Outcome.TheVariants as outcomes
use Rattle.early_script.specs.LiveView.{LiveView, range_of_id, is_live, with_range, without_id}
use Rattle.early_script.specs.Overlaps.{is_owned_by, ranges_overlap, is_over_table}
use Rattle.early_script.specs.Effects.{ScriptState, RunsOutDuringLine, answer_only, alloc_effect_at, reserve_effect, free_whole_range, free_effect, trim_effect, fill_whole_range, fill_effect, act_effect, outcome_unless_refused, ids_unless_refused}
use Rattle.early_script.specs.FromMemblock.{state_of_memblock, memblock_bytes}
use Rattle.early_script.specs.Lines.{ScriptSoFar, RunsOutDuringLines, line_effect, script_after_lines}

abbrev at_base : ℕ → ℕ → RangeView
at_base base size = record { base = base; size = size }

abbrev first : RangeView
first = at_base 0x100 4

abbrev second : RangeView
second = at_base 0x200 2

abbrev ids : LiveView
ids = (1, first) ∷ (5, second) ∷ []

-- a new ID is inserted at its position, and a live one gets the new range
ids_examples : (range_of_id ids 5 ≡ Some second) × (range_of_id ids 2 ≡ None) × (is_live ids 1 ≡ true) × (is_live ids 2 ≡ false)
    × (with_range ids 3 second ≡ (1, first) ∷ (3, second) ∷ (5, second) ∷ [])
    × (with_range ids 1 second ≡ (1, second) ∷ (5, second) ∷ [])
    × (without_id ids 1 ≡ (5, second) ∷ []) × (without_id ids 2 ≡ ids)
ids_examples = (refl, refl, refl, refl, refl, refl, refl, refl)

-- both IDs own what they claimed, except one byte of the second that was freed
abbrev kernel : RangeView
kernel = at_base 0x10000 0x4000

abbrev items : List Item
items = item.Claim kernel owner.Kernel ∷ item.Claim first (owner.Script 1) ∷ item.Claim second (owner.Script 5)
    ∷ item.Free (at_base 0x201 1)
    ∷ []

owned_examples : (is_owned_by (owner_of items) (owner.Script 1) first ≡ true)
    × (is_owned_by (owner_of items) (owner.Script 5) second ≡ false)
    × (is_owned_by (owner_of items) (owner.Script 5) first ≡ false)
unfolding is_owned_by each_in each_from
owned_examples = (refl, refl, refl)

-- the memory table is at 0x12000 and the reserved one at 0x13000, with 3,072 bytes each
touches_examples : (ranges_overlap first (at_base 0x103 9) ≡ true) × (ranges_overlap first (at_base 0x104 9) ≡ false)
    × (is_over_table kernel items (at_base 0x11FFF 1) ≡ false) × (is_over_table kernel items (at_base 0x12BFF 1) ≡ true)
    × (is_over_table kernel items (at_base 0x12C00 0x400) ≡ false) × (is_over_table kernel items (at_base 0x12C00 0x401) ≡ true)
touches_examples = (refl, refl, refl, refl, refl, refl)

abbrev found : ScriptState
found = record { kernel = kernel; items = items; ids = ids }

-- the tests in order
alloc_examples : (alloc_effect_at found 2 8 None ≡ answer_only found outcomes.NoGap)
    × ((alloc_effect_at found 2 8 (Some 0x300)).answer ≡ outcomes.At 0x300)
    × ((alloc_effect_at found 2 8 (Some 0x300)).ids ≡ (1, first) ∷ (2, at_base 0x300 8) ∷ (5, second) ∷ [])
    × (reserve_effect found 1 second ≡ answer_only found outcomes.Taken)
    × (reserve_effect found 2 (at_base 0x12000 1) ≡ answer_only found outcomes.TableInUse)
    × ((reserve_effect found 2 first).answer ≡ outcomes.Done)
alloc_examples = (refl, refl, refl, refl, refl, refl)

whole_examples : (free_effect found 2 ≡ answer_only found outcomes.Unknown) × (free_effect found 5 ≡ answer_only found outcomes.NotWhole)
    × (free_effect found 1 ≡ free_whole_range found 1 first) × ((free_effect found 1).ids ≡ (5, second) ∷ [])
    × (trim_effect found 1 4 ≡ answer_only found outcomes.TooLargeKeep) × (trim_effect found 5 9 ≡ answer_only found outcomes.NotWhole)
    × ((trim_effect found 1 3).ids ≡ (1, at_base 0x100 3) ∷ (5, second) ∷ [])
    × ((fill_effect found 1 7).fill ≡ Some (record { range = first; byte = 7; at = 4 }))
    × (fill_whole_range found 7 (at_base 0 65537) ≡ answer_only found outcomes.TooLargeFill)
    × ((fill_whole_range found 7 (at_base 0 65536)).answer ≡ outcomes.Done)
unfolding is_owned_by each_in each_from
whole_examples = (refl, refl, refl, refl, refl, refl, refl, refl, refl, refl)

-- if a growth was refused, that is the outcome, and the IDs stay
abbrev no_place : RefusedGrowth
no_place = record { which = which.Reserved; room = 128 }

refused_examples : (outcome_unless_refused (Some no_place) outcomes.Done ≡ outcomes.NoGapForTable which.Reserved 128)
    × (outcome_unless_refused None outcomes.Done ≡ outcomes.Done)
    × (ids_unless_refused (Some no_place) ids [] ≡ ids)
    × (ids_unless_refused None ids [] ≡ [])
refused_examples = (refl, refl, refl, refl)

abbrev sevens : Fill
sevens = record { range = first; byte = 7; at = 4 }

-- two lines: one that fills, and one for an ID that isn't live
abbrev fills_first : Line
fills_first = record { number = 3; act = acts.Fill 1 7 }

abbrev frees_none : Line
frees_none = record { number = 8; act = acts.Free 2 }

lines_example : script_after_lines (record { state = found; fills = []; answers = [] }) (fills_first ∷ frees_none ∷ [])
    ≡ record {
      state = found;
      fills = sevens ∷ [];
      answers = record { line = 3; outcome = outcomes.Done } ∷ record { line = 8; outcome = outcomes.Unknown } ∷ [];
    }
unfolding act_effect is_owned_by each_in each_from
lines_example = refl

-- out of memory may happen during the line that fills, and never during the other, which only
-- returns an outcome
abbrev begun : ScriptSoFar
begun = record { state = found; fills = []; answers = [] }

fill_wants : (m : MemblockView) → state_of_memblock ids m ≡ found → AreBytesFromHistory m.kernel m.journal.items [] (memblock_bytes m) →
    RunsOutDuringLines begun (frees_none ∷ fills_first ∷ []) ids m (record { line = 8; outcome = outcomes.Unknown } ∷ [])
unfolding act_effect is_owned_by each_in each_from
fill_wants m same holds = record {
  before = frees_none ∷ [];
  element = fills_first;
  after = [];
  is = refl;
  holds = record {
    answers_are = refl;
    amid = subst (λ (t : ScriptState). RunsOutDuringLine found t (fill_effect found 1 7)) (sym same) (inr (refl, refl, refl), refl, refl);
    bytes = holds;
  };
}

free_out : (later : ScriptState) (before after : List Line) (line : Line) → frees_none ∷ [] ≡ before ++ line ∷ after →
    RunsOutDuringLine (script_after_lines begun before).state later (line_effect (script_after_lines begun before) line) → ⊥
unfolding act_effect
free_out later [] after line is amid =
    let same : line ≡ frees_none = cc is in
    let here = subst (λ (l : Line). RunsOutDuringLine found later (line_effect begun l)) same amid in
    elim here.0 [
      | inl cut ↦ absurd (omega (arith, cut.short))
      | inr takes ↦ true≢false (sym takes.0)
    ]
free_out later (x ∷ xs) after line is amid =
    absurd (omega (arith, simp (length-append) at (ap (λ (ls : List Line). length ls) is)))

free_wants_none : (m : MemblockView) (later : LiveView) (answer_only : List Answer)
    → ¬ RunsOutDuringLines begun (frees_none ∷ []) later m answer_only
unfolding act_effect
free_wants_none m later answer_only ends = free_out (state_of_memblock later m) ends.before ends.after ends.element ends.is ends.holds.amid
