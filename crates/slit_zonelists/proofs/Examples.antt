-- Three domains with distances that differ by direction, and their lists: what the definitions say
-- of them.
use Rattle.std.proofs.Common.{◌≡◌, ℕ, ◌+◌, true, false, Some, None, List, [], ◌∷◌, ◌++◌, length, drop, get_or, Ok, codes, replicate, refl, sym, ◌∙◌, ap, subst, length-append, arith}
use Rattle.bm_base.specs.declared.zone.Zone.TheVariants as zones
use Rattle.zone_spans.specs.declared.span.Span.{Span}
use Rattle.page_alloc.specs.declared.act.PageAct.TheVariants as acts
use Rattle.page_alloc.specs.declared.act.PageLine.{PageLine}
use Rattle.page_alloc.specs.declared.outcome.Held.{Held}
use Rattle.page_alloc.specs.declared.outcome.PageAnswer.{PageAnswer}
use Rattle.page_alloc.specs.declared.outcome.PageOutcome.{PageOutcome}
use Rattle.page_alloc.specs.declared.outcome.PageOutcome.TheVariants as outcomes
use Rattle.page_alloc.specs.Pages.{PageState, first_page_state, NeedsMemory}
use Rattle.slit_zonelists.specs.declared.order.ListZone.{ListZone}
use Rattle.slit_zonelists.specs.declared.table.SlitFault.TheVariants as faults
use Rattle.slit_zonelists.specs.declared.uses.SlitUse.TheVariants as uses
use Rattle.slit_zonelists.specs.Lists.{ZoneListsView, distance_in, zonelists_from_slit, zones_at_distance, zone_list_of}
use Rattle.slit_zonelists.specs.SlitView.{SlitView, slit_cell, IsSquare}
use Rattle.slit_zonelists.specs.Near.{first_zone, take_from_zone, take_from_nearest, page_step_by_distance, page_answers_of, page_state_after, RunsOutAtPageLine}
use Rattle.slit_zonelists.specs.Table.{locality_count, first_slit_fault, slit_of}
use Rattle.slit_zonelists.specs.Uses.{is_bad_cell, first_bad_cell, slit_use}

-- the distance from domain 0 to 1 is 40, and the distance back is 30
abbrev three : SlitView
three = record { count = 3; cells = 10 ∷ 40 ∷ 15 ∷ 30 ∷ 10 ∷ 25 ∷ 12 ∷ 13 ∷ 10 ∷ [] }

cell_examples : (slit_cell three 0 1 ≡ 40) × (slit_cell three 1 0 ≡ 30) × (slit_cell three 2 1 ≡ 13) × IsSquare three
cell_examples = (refl, refl, refl, refl)

-- the bytes of a table of one domain, with its stated length, its checksum, and its number of
-- localities
abbrev table : ℕ → ℕ → ℕ → List ℕ
table stated checksum count =
    codes "SLIT" ++ stated ∷ 0 ∷ 0 ∷ 0 ∷ 0 ∷ checksum ∷ (replicate 26 0 ++ count ∷ (replicate 7 0 ++ 10 ∷ []))

table_examples : (slit_of (table 45 140 1) ≡ Ok (record { count = 1; cells = 10 ∷ [] })) × (locality_count (table 45 140 1) ≡ 1)
    × (first_slit_fault (codes "SLAT") ≡ Some faults.Short) × (first_slit_fault (0 ∷ table 45 140 1) ≡ Some faults.Signature)
    × (first_slit_fault (table 44 140 1) ≡ Some faults.Length) × (first_slit_fault (table 45 141 2) ≡ Some faults.Checksum)
    × (first_slit_fault (table 45 139 2) ≡ Some faults.Localities)
table_examples = (refl, refl, refl, refl, refl, refl, refl)

-- two domains; the cells of row 1 are bad
abbrev bad : SlitView
bad = record { count = 2; cells = 10 ∷ 20 ∷ 10 ∷ 11 ∷ [] }

bad_examples : (is_bad_cell bad 0 1 ≡ false) × (is_bad_cell bad 1 0 ≡ true) × (is_bad_cell bad 1 1 ≡ true)
    × (first_bad_cell bad ≡ Some (1, 0))
    × (first_bad_cell three ≡ None)
bad_examples = (refl, refl, refl, refl, refl)

use_examples : (slit_use None (0 ∷ []) ≡ uses.Absent) × (slit_use (Some bad) [] ≡ uses.NoSrat)
    × (slit_use (Some bad) (0 ∷ []) ≡ uses.NotValid 1 0) × (slit_use (Some three) (0 ∷ []) ≡ uses.Used)
use_examples = (refl, refl, refl, refl)

-- a small machine: node 0 is domain 1, node 1 is a domain that the table lacks, and node 2 is
-- domain 0
abbrev span : ℕ → Span
span n = record { node = n; zone = zones.Dma32; start = 0; end = 1; present = 1 }

abbrev low_span : Span
low_span = record { node = 0; zone = zones.Dma; start = 0; end = 1; present = 1 }

abbrev nodes : ZoneListsView
nodes = zonelists_from_slit (Some three) (1 ∷ 3 ∷ 0 ∷ []) (low_span ∷ span 0 ∷ span 1 ∷ span 2 ∷ [])

abbrev zone : ℕ → ListZone
zone n = record { node = n; zone = zones.Dma32 }

abbrev low_zone : ListZone
low_zone = record { node = 0; zone = zones.Dma }

-- the distances from the table, and without it
distance_examples : (distance_in nodes 0 2 ≡ 30) × (distance_in nodes 2 0 ≡ 40) × (distance_in nodes 0 1 ≡ 20)
    × (distance_in nodes 1 1 ≡ 10)
    × (distance_in nodes 3 0 ≡ 20)
distance_examples = (refl, refl, refl, refl, refl)

-- the table has no distance for node 1, so both other nodes are at 20
list_examples : (zones_at_distance nodes 1 20 ≡ zone 0 ∷ low_zone ∷ zone 2 ∷ [])
    × (zone_list_of nodes 1 ≡ zone 1 ∷ zone 0 ∷ low_zone ∷ zone 2 ∷ [])
    × (zone_list_of nodes 0 ≡ zone 0 ∷ low_zone ∷ zone 1 ∷ zone 2 ∷ [])
    × (zone_list_of nodes 2 ≡ zone 2 ∷ zone 1 ∷ zone 0 ∷ low_zone ∷ [])
unfolding zone_list_of
list_examples = (refl, refl, refl, refl)

-- a state in which no frame is free and no ID holds anything, and a frame that an ID may hold
abbrev empty : PageState
empty = first_page_state (λ x. None)

abbrev five : Held
five = record { first = 5; order = 0; node = 7 }

-- without a free frame no zone serves, and an ID that holds something gets nothing more
near_examples : (first_zone empty 0 [] ≡ None)
    × (take_from_zone empty 1 0 None ≡ (let p : PageOutcome × PageState = (outcomes.NoBlock, empty) in p))
    × (take_from_nearest empty 1 0 (zone 0 ∷ []) (Some five) ≡ (let p : PageOutcome × PageState = (outcomes.Taken, empty) in p))
    × (take_from_nearest empty 1 0 [] None ≡ (let p : PageOutcome × PageState = (outcomes.NoBlock, empty) in p))
    × (page_step_by_distance nodes empty (acts.Give 1) ≡ (let p : PageOutcome × PageState = (outcomes.Unknown, empty) in p))
near_examples = (refl, refl, refl, refl, refl)

abbrev give : ℕ → PageLine
give n = record { number = n; act = acts.Give 1 }

line_examples : (page_answers_of nodes empty [] ≡ [])
    × (page_answers_of nodes empty (give 4 ∷ []) ≡ (let a : PageAnswer = record { line = 4; outcome = outcomes.Unknown } in a) ∷ [])
    × (page_state_after nodes empty (give 4 ∷ []) ≡ empty)
line_examples = (refl, refl, refl)

-- a request near node 0
abbrev near : ℕ → PageLine
near n = record { number = n; act = acts.Near 1 0 0 }

abbrev holding : PageState
holding = record { frames = λ x. None; held = λ id. Some five }

-- this program may be out of memory at a line that frees, after a line that was answered
amid_example : RunsOutAtPageLine nodes holding (near 5 ∷ give 6 ∷ []) holding
amid_example = record { before = near 5 ∷ []; element = give 6; after = []; is = refl; holds = (tt, refl) }

refused_out : (s : PageState) (before : List PageLine) (line : PageLine) (after : List PageLine) → near 5 ∷ [] ≡ before ++ line ∷ after
    → (NeedsMemory (page_step_by_distance nodes s (acts.Near 1 0 0)).0 → ⊥)
    → NeedsMemory (page_step_by_distance nodes (page_state_after nodes s before) line.act).0 → ⊥
refused_out s [] line after is refused takes =
    let same : line ≡ near 5 = sym (ap (λ (ls : List PageLine). get_or ls 0 line) is) in
    refused (subst (λ (l : PageLine). NeedsMemory (page_step_by_distance nodes s l.act).0) same takes)
refused_out s (x ∷ xs) line after is refused takes =
    let many : 0 ≡ length xs + length (line ∷ after) =
    ap (λ (ls : List PageLine). length (drop 1 ls)) is ∙ length-append xs (line ∷ after) in
    absurd (omega (arith, many))

-- never at a line that is refused since its ID holds something
held_wants_none : (later : PageState) → RunsOutAtPageLine nodes holding (near 5 ∷ []) later → ⊥
held_wants_none later ends = refused_out holding ends.before ends.element ends.after ends.is (λ takes. takes) ends.holds.0
