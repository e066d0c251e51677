-- Definitions of single steps of the code, used only by contracts of private functions and by
-- proofs.
use Rattle.std.specs.Prelude.{ℕ, ◌+◌, ◌/◌, ◌-◌, ◌^◌, ◌<◌, ◌==◌, Bool, true, false, nat_le, is_some, if◌then◌else◌, List, [], ◌∷◌, length}
use Rattle.address_runs.specs.Runs.{RunOf, run_end, value_at}
use Rattle.bm_base.specs.Range.{RangeView}
use Rattle.bm_base.specs.declared.range.TheConstants.{FRAME_SIZE}
use Rattle.srat_reader.specs.declared.table.SratBlock.{SratBlock}
use Rattle.srat_nodes.specs.Domains.{with_domain}
use Rattle.srat_nodes.specs.NodeAt.{NumaBlock}

-- the list with the domain appended, unless the domain is in it already or the list has more than
-- 1,024 domains
abbrev pub with_domain_if_room : List ℕ → ℕ → List ℕ
with_domain_if_room domains d = if nat_le (length domains) 1024 then with_domain domains d else domains

-- the list with the domain of the block appended, unless the domain is in it already or the list
-- has more than 1,024 domains
abbrev pub with_domain_of_block : List ℕ → SratBlock → List ℕ
with_domain_of_block domains b = with_domain_if_room domains b.domain

-- the run `r` put before runs that lie above it. If the first of them has the same node, both
-- become one run, which covers the gap between them too.
abbrev pub prepend_joined : NumaBlock → List NumaBlock → List NumaBlock
prepend_joined r [] = r ∷ []
prepend_joined r (s ∷ ss) =
    if r.value == s.value then record { base = r.base; size = run_end s - r.base; value = r.value } ∷ ss else r ∷ (s ∷ ss)

-- the runs, with neighbours of the same node joined across the gap between them
abbrev pub fill_gaps : List NumaBlock → List NumaBlock
fill_gaps [] = []
fill_gaps (r ∷ rs) = prepend_joined r (fill_gaps rs)

-- a range of memory with the value `false`, which means that it has no node
abbrev pub run_without_node : RangeView → RunOf Bool
run_without_node r = record { base = r.base; size = r.size; value = false }

-- the range of a run that has a node, with the value `true`, which means that it has one
abbrev pub run_with_node : NumaBlock → RunOf Bool
run_with_node r = record { base = r.base; size = r.size; value = true }

-- whether the address is in one of the runs
abbrev pub is_in_runs : List (RunOf Bool) → ℕ → Bool
is_in_runs runs x = is_some (value_at runs x)

-- the range of the run with `node` as its value
abbrev pub run_of_node : ℕ → RunOf Bool → NumaBlock
run_of_node node r = record { base = r.base; size = r.size; value = node }

-- the runs with the value `false`, which have no node; each gets the value `node`
abbrev pub uncovered_runs_with_node : ℕ → List (RunOf Bool) → List NumaBlock
uncovered_runs_with_node node [] = []
uncovered_runs_with_node node (r ∷ rs) =
    if r.value then uncovered_runs_with_node node rs else run_of_node node r ∷ uncovered_runs_with_node node rs

-- the end of each run is below 2^64
abbrev pub EndInSpace : List NumaBlock → Type 0
EndInSpace [] = Unit {0}
EndInSpace (r ∷ rs) = (run_end r < 2 ^ 64) × EndInSpace rs

-- the number of frames that begin below an address
abbrev pub count_frames_below : ℕ → ℕ
count_frames_below x = (x + (FRAME_SIZE - 1)) / FRAME_SIZE
