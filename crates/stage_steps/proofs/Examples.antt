-- Worked examples: steps that return values, fail and follow each other; calls that stopped early;
-- memory that doesn't have its nodes.
use Rattle.std.proofs.Common.{◌≡◌, ℕ, ◌+◌, nat_lt, if◌then◌else◌, None, Some, [], ◌∷◌, Ok, Err, refl, inl, inr, arith, length}
use Rattle.std.proofs.lemmas.Option.{same_Some}
use Rattle.memblock_model.specs.Labels.{LabelView, plain_label, with_node}
use Rattle.memblock_model.specs.declared.owner.Which.TheVariants as which
use Rattle.memblock_model.specs.declared.item.Item.TheVariants as item
use Rattle.memblock_grow.specs.declared.stop.What.TheVariants as what
use Rattle.memblock_grow.specs.declared.stop.StageStop.TheVariants as stop
use Rattle.stage_steps.specs.Causes.{StageCause, NoPlace, NoTablePlace, error_of_stage_cause}
use Rattle.stage_steps.specs.Steps.{StageStep, return_value, fail_with, read_items, read_items_allocating, ◌>>=◌, fold_steps, EndsAsStage}
use Rattle.stage_steps.specs.Nodes.{IsConstantInFrames, IsMemoryWithNodes}
use Rattle.stage_steps.specs.Requests.{or_else}

-- a step that writes a limit and returns a sum
abbrev limited : ℕ → ℕ → StageStep StageCause ℕ
limited before at items = record { steps = (item.Limit at ∷ []) ∷ []; answer = Ok (before + at) }

-- the groups of two steps, one after the other, and none after an error; the second step sees what
-- the first wrote
seen_then : ((limited 0 5 >>= λ a. limited a 7) []
    ≡ record { steps = (item.Limit 5 ∷ []) ∷ ((item.Limit 7 ∷ []) ∷ []); answer = Ok 12 })
    × ((fail_with {A = ℕ} (NoPlace what.Roots) >>= λ a. limited a 7) [] ≡ record { steps = []; answer = Err (NoPlace what.Roots) })
    × ((limited 0 5 >>= λ a. read_items (λ items. items)) (item.Trim ∷ [])
    ≡ record { steps = (item.Limit 5 ∷ []) ∷ []; answer = Ok (item.Trim ∷ (item.Limit 5 ∷ [])) })
seen_then = (refl, refl, refl)

-- one step for each of three elements, of two, and of none
turn_examples : ((fold_steps limited 0 (1 ∷ (2 ∷ (3 ∷ []))) []).answer ≡ Ok 6) × (fold_steps limited 4 [] [] ≡ return_value 4 [])
    × ((fold_steps limited 0 (1 ∷ (2 ∷ [])) []).steps ≡ (item.Limit 1 ∷ []) ∷ ((item.Limit 2 ∷ []) ∷ []))
turn_examples = (refl, refl, refl)

-- the other step follows only if the first found no place
not_tried : ((or_else (fail_with (NoPlace what.Roots)) (limited 0 9) []).answer ≡ Ok 9)
    × ((or_else (fail_with (NoTablePlace which.Memory 128)) (limited 0 9) []).answer ≡ Err (NoTablePlace which.Memory 128))
not_tried = (refl, refl)

-- out of memory after the first of two groups
ends_cut : EndsAsStage {A = ℕ} (limited 0 5 >>= λ a. limited a 7) error_of_stage_cause (Err stop.Memory) [] (item.Limit 5 ∷ [])
ends_cut = inr (refl, record { count = 1; short = omega arith; stands = refl })

-- out of memory doesn't replace a stop
none_in_place : EndsAsStage {A = ℕ} (fail_with (NoPlace what.Roots)) error_of_stage_cause (Err stop.Memory) [] [] → ⊥
none_in_place (inl (NoPlace thing, is, same, stands)) = cc same
none_in_place (inl (NoTablePlace w room, is, same, stands)) = cc same
none_in_place (inr cut) = let less = cut.1.short in absurd (omega (arith, less))

-- a list needs memory of the program, though it writes no item
list_wanted : EndsAsStage {E = StageCause} {A = ℕ} (read_items_allocating length) error_of_stage_cause (Err stop.Memory) [] []
list_wanted = inr (refl, record { count = 0; short = omega arith; stands = refl })

-- no other error is returned before a group
other_error_cut : EndsAsStage {A = ℕ} (limited 0 5 >>= λ a. limited a 7) error_of_stage_cause (Err (stop.NoPlace what.Roots)) []
    (item.Limit 5 ∷ [])
    → ⊥
other_error_cut (inl told) = let wrong = told.1 in cc wrong
other_error_cut (inr cut) = let wrong = cut.0 in cc wrong

-- no memory has node 1,024
abbrev of_node_1024 : LabelView
of_node_1024 = with_node (Some 1024) plain_label

too_great_a_node : (limit : ℕ) → IsMemoryWithNodes limit (λ x. Some of_node_1024) → ⊥
too_great_a_node limit noded =
    let known = noded.nodes 0 of_node_1024 refl in
    let is : 1024 ≡ known.0 = same_Some 1024 known.0 known.1 in
    let low = known.2 in
    absurd (omega (arith, is, low))

-- half a frame isn't enough
half_a_frame : IsConstantInFrames (λ x. nat_lt x 2048) → ⊥
half_a_frame same = let wrong = same 2048 in cc wrong

-- no memory is past the limit
abbrev of_node_3 : LabelView
of_node_3 = with_node (Some 3) plain_label

frame_after_the_limit : IsMemoryWithNodes 4096 (λ x. if nat_lt x 8192 then Some of_node_3 else None) → ⊥
frame_after_the_limit noded = let wrong = noded.within 4096 (omega arith) in cc wrong
