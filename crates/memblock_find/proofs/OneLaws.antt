-- The search over records is the search over items, and there is one run on each side of an
-- address.
use Rattle.std.proofs.Common.{◌≡◌, ℕ, ◌-◌, ◌^◌, ◌≤◌, Bool, Some, None, List, refl, sym, ◌∙◌, ap, arith}
use Rattle.std.proofs.lemmas.Option.{same_Some}
use Rattle.address_runs.specs.Runs.{RunOf, run_end, value_at}
use Rattle.address_runs.specs.Edits.{IsEmptyFrom}
use Rattle.memblock_model.specs.declared.item.Item.{Item}
use Rattle.memblock_model.specs.declared.query.Query.{Query}
use Rattle.memblock_model.specs.declared.owner.Which.{Which}
use Rattle.memblock_model.specs.declared.owner.Which.TheVariants as which
use Rattle.memblock_model.specs.Labels.{LabelView, Labels}
use Rattle.memblock_model.specs.Items.{upward_of}
use Rattle.memblock_model.specs.Tables.{table_of, records_of}
use Rattle.memblock_model.specs.Search.{outermost_fit, top_place, best_place_in, best_place}
use Rattle.memblock_model.proofs.TableLaws.{value_at-records}
use Rattle.memblock_ranges.specs.Tables.{TablesView}
use Rattle.memblock_find.specs.Unclaimed.{unclaimed_memory, unclaimed_in_tables, IsRunBelow}
use Rattle.memblock_find.proofs.PlaceLaws.{le_from_not_lt}

-- records that are those of the items give each address the items' label
says : (w : Which) (items : List Item) (rs : List (RunOf LabelView)) → IsEmptyFrom (2 ^ 64) (table_of w items) → rs ≡ records_of w items
    → value_at rs ≡ table_of w items
unfolding records_of
says w items rs ends is = ap (λ (ss : List (RunOf LabelView)). value_at ss) is ∙ value_at-records (table_of w items) ends

pub best_says : (items : List Item) (t : TablesView) (q : Query)
    → IsEmptyFrom (2 ^ 64) (table_of which.Memory items) → IsEmptyFrom (2 ^ 64) (table_of which.Reserved items)
    → t.memory.records ≡ records_of which.Memory items → t.reserved.records ≡ records_of which.Reserved items
    → best_place_in (upward_of items) (value_at t.memory.records) (value_at t.reserved.records) q ≡ best_place items q
unfolding best_place
best_says items t q memory_ends reserved_ends memory reserved =
    rw (
      says which.Memory items t.memory.records memory_ends memory,
      says which.Reserved items t.reserved.records reserved_ends reserved,
    ) refl

pub top_says : (items : List Item) (t : TablesView) (q : Query) (mirror : Bool)
    → IsEmptyFrom (2 ^ 64) (table_of which.Memory items) → IsEmptyFrom (2 ^ 64) (table_of which.Reserved items)
    → t.memory.records ≡ records_of which.Memory items → t.reserved.records ≡ records_of which.Reserved items
    → outermost_fit (record { mirror = mirror; up = upward_of items }) (value_at t.memory.records) (value_at t.reserved.records) q
    ≡ top_place items q mirror
unfolding top_place
top_says items t q mirror memory_ends reserved_ends memory reserved =
    rw (
      says which.Memory items t.memory.records memory_ends memory,
      says which.Reserved items t.reserved.records reserved_ends reserved,
    ) refl

pub free_says : (items : List Item) (t : TablesView)
    → IsEmptyFrom (2 ^ 64) (table_of which.Memory items) → IsEmptyFrom (2 ^ 64) (table_of which.Reserved items)
    → t.memory.records ≡ records_of which.Memory items → t.reserved.records ≡ records_of which.Reserved items
    → unclaimed_in_tables t ≡ unclaimed_memory (table_of which.Memory items) (table_of which.Reserved items)
free_says items t memory_ends reserved_ends memory reserved =
    ap (λ (f : Labels). unclaimed_memory f (value_at t.reserved.records)) (says which.Memory items t.memory.records memory_ends memory)
    ∙ ap (λ (f : Labels). unclaimed_memory (table_of which.Memory items) f)
    (says which.Reserved items t.reserved.records reserved_ends reserved)

same_run : (r s : RunOf LabelView) → r.base ≡ s.base → run_end r ≡ run_end s → r.value ≡ s.value → r ≡ s
same_run r s bases ends values =
    let sizes : r.size ≡ s.size = omega arith in
    λ j. record { base = bases j; size = sizes j; value = values j }

-- of two highest runs below an address, the second doesn't end above the first
no_lower_end : (f : Labels) (below : ℕ) (r s : RunOf LabelView) → IsRunBelow f below r → IsRunBelow f below s → run_end s ≤ run_end r
no_lower_end f below r s one two =
    le_from_not_lt (run_end r) (run_end s) (λ lt.
    let x : ℕ = run_end s - 1 in
    let some = two.some in
    let ends = two.ends in
    let none : f x ≡ None = one.after x (omega arith) (omega arith) in
    let here : f x ≡ Some s.value = two.run.stays x (omega arith) (omega arith) in
    cc)

-- if they end together and have one label, the second doesn't begin below the first
no_higher_base : (f : Labels) (below : ℕ) (r s : RunOf LabelView) → IsRunBelow f below r → IsRunBelow f below s → run_end r ≡ run_end s
    → r.value ≡ s.value → s.base ≤ r.base
no_higher_base f below r s one two ends values =
    le_from_not_lt r.base s.base (λ lt.
    let x : ℕ = s.base - 1 in
    let some = two.some in
    let here : f x ≡ Some r.value = one.run.stays x (omega arith) (omega arith) in
    two.run.another x (omega arith) (here ∙ ap (λ (v : LabelView). Some v) values))

pub one_below : (f : Labels) (below : ℕ) (r s : RunOf LabelView) → IsRunBelow f below r → IsRunBelow f below s → r ≡ s
one_below f below r s one two =
    let upper = no_lower_end f below r s one two in
    let lower = no_lower_end f below s r two one in
    let ends : run_end r ≡ run_end s = omega arith in
    let x : ℕ = run_end r - 1 in
    let some_r = one.some in
    let some_s = two.some in
    let first : f x ≡ Some r.value = one.run.stays x (omega arith) (omega arith) in
    let second : f x ≡ Some s.value = two.run.stays x (omega arith) (omega arith) in
    let values : r.value ≡ s.value = same_Some r.value s.value (sym first ∙ second) in
    let left = no_higher_base f below r s one two ends values in
    let right = no_higher_base f below s r two one (sym ends) (sym values) in
    same_run r s (omega arith) ends values
