-- Examples with two small tables, computed or proved by the laws.
use Rattle.std.proofs.Common.{◌≡◌, ℕ, ◌-◌, ◌^◌, ◌<◌, ◌≤◌, true, false, Option, Some, None, unwrap_or, List, [], ◌∷◌, refl, sym, ◌∙◌, ap, arith}
use Rattle.std.proofs.lemmas.Bool.Decides.{nat_tests}
use Rattle.address_runs.specs.Runs.{RunOf, value_at, AreRuns}
use Rattle.memblock_model.specs.Labels.{LabelView, Labels, plain_label, with_node}
use Rattle.memblock_model.specs.declared.query.Query.{Query}
use Rattle.memblock_model.specs.Search.{fits_in}
use Rattle.memblock_model.proofs.SearchLaws.{fits_in-whole}
use Rattle.memblock_ranges.specs.Tables.{TablesView}
use Rattle.memblock_find.specs.declared.cursor.Look.{Look}
use Rattle.memblock_find.specs.declared.cursor.Cursor.{Cursor}
use Rattle.memblock_find.specs.Unclaimed.{unclaimed_memory, unclaimed_in_tables, IsStretchWithBottom, IsStretchWithTop, IsRunBelow, IsRunFrom}
use Rattle.memblock_find.specs.Places.{FitsBetween, IsHighestPlaceEndingBy, IsLowestPlaceFrom}
use Rattle.memblock_find.specs.Walk.{nth_record, ExactlyFirstBeginBelow, ExactlyFirstEndAtOrBelow, IsLookDown, IsLookUp, IsWalkDownAt, IsWalkUpAt}
use Rattle.memblock_find.proofs.DownLaws.{look_gap, look_in, among_all, all_begun, begun_so_far, not_begun_from}
use Rattle.memblock_find.proofs.UpLaws.{look_top, look_over, ended_so_far, not_ended_from}

-- 0x1000 to 0x1FFF of node 0 and 0x2000 to 0x2FFF of node 1; 0x1800 to 0x18FF are claimed
abbrev of_node : ℕ → LabelView
of_node node = with_node (Some node) plain_label

abbrev memory_runs : List (RunOf LabelView)
memory_runs = record { base = 0x1000; size = 0x1000; value = of_node 0 } ∷ (record { base = 0x2000; size = 0x1000; value = of_node 1 } ∷ [])

abbrev claims : List (RunOf LabelView)
claims = record { base = 0x1800; size = 0x100; value = plain_label } ∷ []

abbrev tables : TablesView
tables = record {
  memory = record { records = memory_runs; place = 0x10000; room = 128 };
  reserved = record { records = claims; place = 0x11000; room = 128 };
  store = [];
}

abbrev free : Labels
free = unclaimed_in_tables tables

-- the node of a label, as a number
abbrev number : Option LabelView → ℕ
number None = 2
number (Some label) = unwrap_or label.node 3

unclaimed_examples : (unclaimed_memory (value_at memory_runs) (value_at claims) 0x17FF ≡ Some (of_node 0))
    × (unclaimed_memory (value_at memory_runs) (value_at claims) 0x1800 ≡ None)
unclaimed_examples = (refl, refl)

-- 0x2000 to below 0x3000 have one label; the address below is of another node, and 0x3000 isn't
-- memory
node_1_down : IsStretchWithBottom free 0x2000 0x3000 (Some (of_node 1))
node_1_down = record {
  stays = λ x above under. grind (arith, nat_tests);
  another = λ x next same.
      let here : x ≡ 0x1FFF = omega arith in
      let there : 0 ≡ 1 = ap number (ap free (sym here) ∙ same) in
      omega arith;
}

node_1_up : IsStretchWithTop free 0x2000 0x3000 (Some (of_node 1))
node_1_up = record { stays = node_1_down.stays; another = λ same. cc }

-- a stretch whose label continues below it
not_all_down : IsStretchWithBottom free 0x2001 0x3000 (Some (of_node 1)) → ⊥
not_all_down known = known.another 0x2000 refl refl

not_all_up : IsStretchWithTop free 0x2000 0x2FFF (Some (of_node 1)) → ⊥
not_all_up known = known.another refl

-- the run below 0x1900, where a claim ends, is cut to end at the claim's start; the run below
-- 0x2800 is cut to end there
run_below_claim : IsRunBelow free 0x1900 (record { base = 0x1000; size = 0x800; value = of_node 0 })
run_below_claim = record {
  some = omega arith;
  ends = omega arith;
  run = record {
    stays = λ x above under. grind (arith, nat_tests);
    another = λ x next same.
        let here : x ≡ 0xFFF = omega arith in
        let there : 2 ≡ 0 = ap number (ap free (sym here) ∙ same) in
        omega arith;
  };
  after = λ x above under. grind (arith, nat_tests);
}

run_below_cut : IsRunBelow free 0x2800 (record { base = 0x2000; size = 0x800; value = of_node 1 })
run_below_cut = record {
  some = omega arith;
  ends = omega arith;
  run = record { stays = λ x above under. grind (arith, nat_tests); another = node_1_down.another };
  after = λ x above under. absurd (omega arith);
}

not_the_highest : IsRunBelow free 0x2800 (record { base = 0x1900; size = 0x700; value = of_node 0 }) → ⊥
not_the_highest known = let none : free 0x2000 ≡ None = known.after 0x2000 (omega arith) (omega arith) in cc

-- the run from 0x1840 on, inside a claim, begins at the claim's end; the run from 0x1A00 on begins
-- there
run_from_claim : IsRunFrom free 0x1840 (record { base = 0x1900; size = 0x700; value = of_node 0 })
run_from_claim = record {
  some = omega arith;
  starts = omega arith;
  run = record { stays = λ x above under. grind (arith, nat_tests); another = λ same. let there : 1 ≡ 0 = ap number same in omega arith };
  before = λ x above under. grind (arith, nat_tests);
}

run_from_cut : IsRunFrom free 0x1A00 (record { base = 0x1A00; size = 0x600; value = of_node 0 })
run_from_cut = record {
  some = omega arith;
  starts = omega arith;
  run = record { stays = λ x above under. grind (arith, nat_tests); another = λ same. let there : 1 ≡ 0 = ap number same in omega arith };
  before = λ x above under. absurd (omega arith);
}

not_the_lowest : IsRunFrom free 0x1A00 (record { base = 0x2000; size = 0x1000; value = of_node 1 }) → ⊥
not_the_lowest known = let none : free 0x1A00 ≡ None = known.before 0x1A00 (omega arith) (omega arith) in cc

-- 0x100 aligned bytes at 0x1F00 lie between 0x1900 and 0x2000, and at 0x2000 they don't
between_yes : FitsBetween 0x1900 0x2000 0x100 0x100 0x1F00
between_yes = record { aligned = refl; above = omega arith; below = omega arith }

between_no : FitsBetween 0x1900 0x2000 0x100 0x100 0x2000 → ⊥
between_no known = let ends = known.below in omega arith

-- 0x1000 bytes, without alignment, fit only at 0x2000
abbrev pages : Query
pages = record { lo = 0; hi = 0x4000; size = 0x1000; align = 1; node = None }

page_fits : fits_in false (value_at memory_runs) (value_at claims) pages 0x2000 ≡ true
page_fits = fits_in-whole false (value_at memory_runs) (value_at claims) pages 0x2000 (record {
  aligned = refl;
  low = omega arith;
  first = omega arith;
  high = omega arith;
  held = refl;
  allowed = refl;
  suited = refl;
  label = λ x above under. grind (arith, nat_tests);
  free = λ x above under. grind (arith, nat_tests);
})

best_page : IsHighestPlaceEndingBy false (value_at memory_runs) (value_at claims) pages 0x3000 0x2000
best_page = record { fits = page_fits; last = λ b fits ends. omega arith }

no_page_at_first : IsHighestPlaceEndingBy false (value_at memory_runs) (value_at claims) pages 0x3000 0x1000 → ⊥
no_page_at_first known = let order = known.last 0x2000 page_fits (omega arith) in omega arith

-- the search from below: 0x2000 is the lowest place from there on
lowest_page : IsLowestPlaceFrom false (value_at memory_runs) (value_at claims) pages 0x2000 0x2000
lowest_page = record { fits = page_fits; first = λ b fits above. above }

not_the_lowest_page : IsLowestPlaceFrom false (value_at memory_runs) (value_at claims) pages 0x1000 0x2001 → ⊥
not_the_lowest_page known = let order = known.first 0x2000 page_fits (omega arith) in omega arith

memory_in_order : AreRuns memory_runs
memory_in_order = (
  omega arith,
  (omega arith, λ touch same. let there : 0 ≡ 1 = ap (λ (l : LabelView). unwrap_or l.node 3) same in omega arith),
  (omega arith, tt, tt),
)

claims_in_order : AreRuns claims
claims_in_order = (omega arith, tt, tt)

-- both records of memory begin below 0x2800, and one below 0x2000
begun_both : ExactlyFirstBeginBelow 0x2800 memory_runs 2
begun_both = all_begun memory_runs 0x2800 2 (among_all memory_runs 0x2800 2 memory_in_order refl) (λ some. omega arith)

second_base : (i : ℕ) → 1 ≤ i → i < 2 → 0x2000 ≤ (nth_record memory_runs i).base
second_base = not_begun_from memory_runs 0x2000 1 memory_in_order (omega arith)

begun_one : ExactlyFirstBeginBelow 0x2000 memory_runs 1
begun_one = record {
  runs = memory_in_order;
  within = omega arith;
  before = begun_so_far memory_runs 0x2000 0 memory_in_order (omega arith) (omega arith);
  after = second_base;
}

not_both_begun : ExactlyFirstBeginBelow 0x2000 memory_runs 2 → ⊥
not_both_begun known = let base = known.before 1 (omega arith) in omega arith

-- one record of memory ends at or below 0x2800, and so does the claim
ended_one : ExactlyFirstEndAtOrBelow 0x2800 memory_runs 1
ended_one = record {
  runs = memory_in_order;
  within = omega arith;
  before = ended_so_far memory_runs 0x2800 0 memory_in_order (omega arith) (omega arith);
  after = not_ended_from memory_runs 0x2800 1 memory_in_order (omega arith);
}

ended_claim : ExactlyFirstEndAtOrBelow 0x2800 claims 1
ended_claim = record {
  runs = claims_in_order;
  within = omega arith;
  before = ended_so_far claims 0x2800 0 claims_in_order (omega arith) (omega arith);
  after = λ i from less. absurd (omega arith);
}

not_ended : ExactlyFirstEndAtOrBelow 0x2800 memory_runs 2 → ⊥
not_ended known = let end = known.before 1 (omega arith) in omega arith

-- a walk down at 0x2800: memory of node 1 down to 0x2000, no claim down to 0x1900
abbrev memory_below : Look
memory_below = record { label = Some (of_node 1); bound = 0x2000; slot = 1 }

abbrev no_claim_below : Look
no_claim_below = record { label = None; bound = 0x1900; slot = 1 }

look_down_in : IsLookDown memory_runs 0x2800 memory_below
look_down_in = look_in memory_runs 2 0x2800 (omega arith) begun_both (omega arith)

look_down_gap : IsLookDown claims 0x2800 no_claim_below
look_down_gap = look_gap claims 1 0x2800 (omega arith)
    (all_begun claims 0x2800 1 (among_all claims 0x2800 1 claims_in_order refl) (λ some. omega arith)) (omega arith)

abbrev down_here : Cursor
down_here = record { at = 0x2800; memory = memory_below; reserved = no_claim_below }

walks_down : IsWalkDownAt memory_runs claims down_here
walks_down = record { memory = look_down_in; reserved = look_down_gap }

-- a walk up from there: memory up to 0x3000, and no claim is left
abbrev memory_above : Look
memory_above = record { label = Some (of_node 1); bound = 0x3000; slot = 2 }

abbrev no_claim_above : Look
no_claim_above = record { label = None; bound = 2 ^ 64 - 1; slot = 1 }

look_up_in : IsLookUp memory_runs 0x2800 memory_above
look_up_in = look_over memory_runs 1 0x2800 (omega arith) ended_one (omega arith) (omega arith)

look_up_top : IsLookUp claims 0x2800 no_claim_above
look_up_top = look_top claims 1 0x2800 refl (omega arith) ended_claim

abbrev up_here : Cursor
up_here = record { at = 0x2800; memory = memory_above; reserved = no_claim_above }

walks_up : IsWalkUpAt memory_runs claims up_here
walks_up = record { memory = look_up_in; reserved = look_up_top }

not_the_same : ◌≡◌ {A = ℕ} 0 1 → ⊥
not_the_same same = omega arith

-- a look that reaches past a change of label isn't one
not_so_far : IsLookDown memory_runs 0x2800 (record { label = Some (of_node 1); bound = 0x1FFF; slot = 1 }) → ⊥
not_so_far known =
    let here = known.down.stays 0x1FFF (omega arith) (omega arith) in
    not_the_same (ap number here)

not_so_high : IsLookUp claims 0x1000 no_claim_above → ⊥
not_so_high known = let here : value_at claims 0x1800 ≡ None = known.stays 0x1800 (omega arith) (omega arith) in cc
