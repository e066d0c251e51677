-- The parts into which a range cuts a claim, or each claim of a list.
use Rattle.std.specs.Prelude.{ℕ, ◌+◌, ◌-◌, ◌==◌, Bool, true, nat_lt, if◌then◌else◌, min, max, Option, Some, None, List, [], ◌∷◌, ◌++◌}
use Rattle.std.specs.List.{flat_map}
use Rattle.bm_base.specs.Range.{RangeView, end_of}
use Rattle.address_runs.specs.Runs.{RunOf, run_end}
use Rattle.e820_model.specs.declared.entry.Entry.{Entry}

-- a claim of the type on the addresses from `from` up to `until`, without `until`, as a list; the
-- empty list if `until` isn't above `from`
abbrev pub claim_between : ℕ → ℕ → ℕ → List (RunOf ℕ)
claim_between from until kind = if nat_lt from until then record { base = from; size = until - from; value = kind } ∷ [] else []

-- a claim of the type on the addresses from `from` up to `until`, without `until`, as a list; the
-- empty list if `until` isn't above `from`, or if the type is None
abbrev pub claim_between_if_typed : ℕ → ℕ → Option ℕ → List (RunOf ℕ)
claim_between_if_typed from until None = []
claim_between_if_typed from until (Some kind) = claim_between from until kind

-- the parts into which the range cuts a claim: the part below the range, the part inside it with
-- the type `inner`, and the part above it. If `inner` is None, the part inside is left out.
abbrev pub parts_of_claim : RangeView → Option ℕ → RunOf ℕ → List (RunOf ℕ)
parts_of_claim range inner r =
    claim_between r.base (min range.base (run_end r)) r.value
    ++ claim_between_if_typed (max range.base r.base) (min (end_of range) (run_end r)) inner
    ++ claim_between (max (end_of range) r.base) (run_end r) r.value

-- whether an edit of a range changes claims of the type `kind`. The first argument is the only type
-- that the edit changes, or None if it changes all types.
abbrev pub is_type_to_cut : Option ℕ → ℕ → Bool
is_type_to_cut None kind = true
is_type_to_cut (Some meant) kind = kind == meant

-- the type that a claim of type `kind` has inside a range after an edit of the range, or None if
-- the edit removes it there. The edit gives claims of type `meant` (of all types if that is None)
-- the type `instead`, or removes them if that is None.
abbrev pub type_inside : Option ℕ → Option ℕ → ℕ → Option ℕ
type_inside meant instead kind = if is_type_to_cut meant kind then instead else Some kind

-- the claims after an edit of the range. The edit gives claims of type `meant` (of all types if
-- that is None) the type `instead` inside the range, or removes them there if that is None.
abbrev pub cut_out : RangeView → Option ℕ → Option ℕ → List (RunOf ℕ) → List (RunOf ℕ)
cut_out range meant instead rs = flat_map (λ r. parts_of_claim range (type_inside meant instead r.value) r) rs

-- the claim that an entry makes, as a list; the empty list if the entry is empty or has type 0
abbrev pub claim_of_entry : Entry → List (RunOf ℕ)
claim_of_entry e = if nat_lt 0 e.kind then claim_between e.addr (e.addr + e.size) e.kind else []
