-- Memory without a node, found by overlaying memory and the runs with a node; and the frames that
-- begin in runs.
use Rattle.std.proofs.Common.{◌≡◌, ℕ, ◌+◌, ◌-◌, ◌*◌, ◌^◌, ◌<◌, ◌≤◌, Bool, true, false, ◌&&◌, ◌||◌, nat_le, nat_lt, if◌then◌else◌, Option, Some, None, List, [], ◌∷◌, ◌++◌, map, suc, add-one, drop, take, length, get_or, append_assoc, refl, sym, ◌∙◌, ap, subst, inl, inr, le_of_suc-le-suc, lt_of_not-le, arith}
use Rattle.std.proofs.lemmas.Bool.{cases_Bool, cond_both}
use Rattle.std.proofs.lemmas.Bool.Decides.{nat_tests}
use Rattle.std.proofs.lemmas.List.{take_all}
use Rattle.std.proofs.lemmas.Option.{none-some}
use Rattle.std.proofs.Math.Seq.{drop-cons}
use Rattle.std.specs.Prelude.{is_some, is_none}
use Rattle.address_runs.specs.Overlay.{overlay_runs, HaveAddresses}
use Rattle.address_runs.specs.Runs.{RunOf, run_end, lies_in, value_at, AreRuns, IsBefore, IsRunsOf}
use Rattle.address_runs.specs.Sweep.{StartAtOrPast}
use Rattle.address_runs.proofs.OverlayLaws.{overlay_runs-append}
use Rattle.address_runs.proofs.RunsLaws.{none_below, rest_from, another_value_at_run_end, inside, past_end}
use Rattle.bm_base.specs.Range.{RangeView, covers}
use Rattle.e820_model.specs.Usable.{count_below}
use Rattle.e820_model.proofs.UsableLaws.{count_same, count_none, count_either, count_interval, count_at_most}
use Rattle.std.specs.Option.{option_or}
use Rattle.address_runs.specs.First.{first_none, first_grouped}
use Rattle.srat_nodes.specs.NodeAt.{NumaBlock}
use Rattle.srat_nodes.specs.SratNodesView.{node_if_uncovered, count_frames_with_node}
use Rattle.srat_nodes.specs.Kept.{is_in_any_range, NoMemoryIsEmpty}
use Rattle.srat_nodes.specs.Steps.{run_without_node, run_with_node, uncovered_runs_with_node, run_of_node, count_frames_below, EndInSpace}

-- the value that ranges of memory give an address, and the value that runs with a node give it
pub run_without_node_gives_false : (memory : List RangeView) (x : ℕ) → overlay_runs option_or (map run_without_node memory) x
    ≡ (if is_in_any_range memory x then Some false else None)
run_without_node_gives_false [] x = refl
run_without_node_gives_false (r ∷ rs) x = elim (cases_Bool (covers r x)) as (λ _. overlay_runs option_or (map run_without_node (r ∷ rs)) x
    ≡ (if is_in_any_range (r ∷ rs) x then Some false else None)) [
      | inl here ↦ rw here refl
      | inr elsewhere ↦ rw elsewhere (run_without_node_gives_false rs x)
    ]

run_with_node_gives_true : (joined : List NumaBlock) (x : ℕ) → overlay_runs option_or (map run_with_node joined) x
    ≡ (if is_some (value_at joined x) then Some true else None)
run_with_node_gives_true [] x = refl
run_with_node_gives_true (r ∷ rs) x =
    elim (cases_Bool (lies_in r x)) as (λ _. overlay_runs option_or (map run_with_node (r ∷ rs)) x
    ≡ (if is_some (value_at (r ∷ rs) x) then Some true else None)) [
      | inl here ↦ rw here refl
      | inr elsewhere ↦ rw elsewhere (run_with_node_gives_true rs x)
    ]

-- neither the ranges of memory nor the runs with a node are empty
pub run_without_node-HaveAddresses : (memory : List RangeView) → NoMemoryIsEmpty memory → HaveAddresses (map run_without_node memory)
run_without_node-HaveAddresses [] some = tt
run_without_node-HaveAddresses (r ∷ rs) some = (some.0, run_without_node-HaveAddresses rs some.1)

run_with_node-HaveAddresses : (joined : List NumaBlock) (ss : List (RunOf Bool)) → AreRuns joined → HaveAddresses ss
    → HaveAddresses (map run_with_node joined ++ ss)
run_with_node-HaveAddresses [] ss runs after_some = after_some
run_with_node-HaveAddresses (r ∷ rs) ss runs after_some = (runs.0, run_with_node-HaveAddresses rs ss runs.2 after_some)

pub marked_runs-HaveAddresses : (memory : List RangeView) (joined : List NumaBlock) → NoMemoryIsEmpty memory → AreRuns joined
    → HaveAddresses (map run_with_node joined ++ map run_without_node memory)
marked_runs-HaveAddresses memory joined some runs =
    run_with_node-HaveAddresses joined (map run_without_node memory) runs (run_without_node-HaveAddresses memory some)

-- node n for the value `false` (no node yet), and None for `true` or no value
abbrev pub node_if_false : ℕ → Option Bool → Option ℕ
node_if_false n None = None
node_if_false n (Some true) = None
node_if_false n (Some false) = Some n

-- overlaying the runs with a node and memory gives memory without a node
overlay_gives_uncovered : (memory : List RangeView) (joined : List NumaBlock) (n x : ℕ)
    → node_if_false n (overlay_runs option_or (map run_with_node joined ++ map run_without_node memory) x)
    ≡ node_if_uncovered (is_in_any_range memory) (value_at joined) n x
overlay_gives_uncovered memory joined n x =
    rw (
      sym (overlay_runs-append option_or first_none first_grouped (map run_with_node joined) (map run_without_node memory) x),
      run_with_node_gives_true joined x,
      run_without_node_gives_false memory x,
    )
    (by (is_in_any_range memory x) (value_at joined x)) where
      by : (m : Bool) (o : Option ℕ)
          → node_if_false n (option_or (if is_some o then Some true else None) (if m then Some false else None))
          ≡ (if m && is_none o then Some n else None)
      by true (Some k) = refl
      by true None = refl
      by false (Some k) = refl
      by false None = refl

-- the runs without a node give their addresses node n
uncovered_runs_with_node-value : (n : ℕ) (cs : List (RunOf Bool)) (x : ℕ) → AreRuns cs
    → value_at (uncovered_runs_with_node n cs) x ≡ node_if_false n (value_at cs x)
uncovered_runs_with_node-value n [] x runs = refl
uncovered_runs_with_node-value n (c ∷ cs) x runs = by c.value (lies_in c x) refl refl (uncovered_runs_with_node-value n cs x runs.2) where
  by : (v inside_c : Bool) → c.value ≡ v → lies_in c x ≡ inside_c
      → value_at (uncovered_runs_with_node n cs) x ≡ node_if_false n (value_at cs x)
      → value_at (uncovered_runs_with_node n (c ∷ cs)) x ≡ node_if_false n (value_at (c ∷ cs) x)
  by true true value lies rest =
      let none = none_below (run_end c) x cs runs.2 (rest_from c cs runs) (grind (arith, nat_tests)) in
      rw (lies, value, rest, none) refl
  by true false value lies rest = rw (lies, value, rest) refl
  by false true value lies rest = rw (value, lies) refl
  by false false value lies rest = rw (value, lies, rest) refl

-- an address in the first run without a node has that run's value
uncovered_runs_with_node-first : (n : ℕ) (cs : List (RunOf Bool)) (d : NumaBlock) (ds : List NumaBlock) (x : ℕ) → AreRuns cs
    → uncovered_runs_with_node n cs ≡ d ∷ ds
    → d.base ≤ x → x < run_end d → node_if_false n (value_at cs x) ≡ Some d.value
uncovered_runs_with_node-first n cs d ds x runs is above under =
    sym (uncovered_runs_with_node-value n cs x runs) ∙ ap (λ (es : List NumaBlock). value_at es x) is ∙ rw (inside d x above under) refl

-- the runs without a node are canonical: two that touched would be one run already
uncovered_runs_with_node-start : (n at : ℕ) (cs : List (RunOf Bool)) (d : NumaBlock) (ds : List NumaBlock) → AreRuns cs
    → StartAtOrPast at cs
    → AreRuns (uncovered_runs_with_node n cs)
    → uncovered_runs_with_node n cs ≡ d ∷ ds → at ≤ d.base
uncovered_runs_with_node-start n at cs d ds runs start canonical is =
    let some : 0 < d.size = (subst (λ (es : List NumaBlock). AreRuns es) is canonical).0 in
    let given : node_if_false n (value_at cs d.base)
    ≡ Some d.value = uncovered_runs_with_node-first n cs d ds d.base runs is (omega arith) (omega arith) in
    le_of_suc-le-suc (lt_of_not-le (λ lower.
    none-some d.value (ap (node_if_false n) (sym (none_below at d.base cs runs start lower)) ∙ given)))

uncovered_runs_with_node-before : (n : ℕ) (c : RunOf Bool) (cs : List (RunOf Bool)) → AreRuns (c ∷ cs) → c.value ≡ false
    → (es : List NumaBlock)
    → uncovered_runs_with_node n cs
    ≡ es → AreRuns es
    → IsBefore (record { base = c.base; size = c.size; value = n }) es
uncovered_runs_with_node-before n c cs runs value [] is canonical = tt
uncovered_runs_with_node-before n c cs runs value (d ∷ ds) is canonical =
    let start : run_end c ≤ d.base = uncovered_runs_with_node-start n (run_end c) cs d ds runs.2 (rest_from c cs runs)
    (subst (λ (es : List NumaBlock). AreRuns es) (sym is) canonical) is in (
      start,
      λ touch same.
          let given = uncovered_runs_with_node-first n cs d ds (run_end c) runs.2 is (omega arith) (omega (arith, canonical.0)) in
          another_value_at_run_end c cs runs (bare_some n d.value (value_at cs (run_end c)) given ∙ ap (λ b. Some b) (sym value)),
    ) where
      bare_some : (m k : ℕ) (o : Option Bool) → node_if_false m o ≡ Some k → o ≡ Some false
      bare_some m k None given = absurd (none-some k given)
      bare_some m k (Some true) given = absurd (none-some k given)
      bare_some m k (Some false) given = refl

uncovered_runs_with_node-runs : (n : ℕ) (cs : List (RunOf Bool)) → AreRuns cs → AreRuns (uncovered_runs_with_node n cs)
uncovered_runs_with_node-runs n [] runs = tt
uncovered_runs_with_node-runs n (c ∷ cs) runs =
    let rest = uncovered_runs_with_node-runs n cs runs.2 in
    cond_both c.value _ _ (λ (ds : List NumaBlock). AreRuns ds) (λ run_with_node. rest)
    (λ bare. (runs.0, uncovered_runs_with_node-before n c cs runs bare (uncovered_runs_with_node n cs) refl rest, rest))

pub left_runs : (memory : List RangeView) (joined : List NumaBlock) (n : ℕ) (cs : List (RunOf Bool))
    → IsRunsOf (overlay_runs option_or (map run_with_node joined ++ map run_without_node memory)) cs
    → IsRunsOf (node_if_uncovered (is_in_any_range memory) (value_at joined) n) (uncovered_runs_with_node n cs)
left_runs memory joined n cs known = record {
  runs = uncovered_runs_with_node-runs n cs known.runs;
  each = λ x. uncovered_runs_with_node-value n cs x known.runs ∙ ap (node_if_false n) (known.each x)
      ∙ overlay_gives_uncovered memory joined n x;
}

-- one more run of the overlay, which is appended with node n if it has no node
pub uncovered_runs_with_node-step : (n : ℕ) (before : List NumaBlock) (covered : List (RunOf Bool)) (i : ℕ) (c : RunOf Bool)
    → i < length covered → c
    ≡ get_or covered i c
    → (if c.value then before else before ++ run_of_node n c ∷ []) ++ uncovered_runs_with_node n (drop (i + 1) covered) ≡ before
    ++ uncovered_runs_with_node n (drop i covered)
uncovered_runs_with_node-step n before covered i c lt is = rw (drop-cons covered i c lt, ← is, add-one) (by c.value refl) where
  by : (v : Bool) → c.value ≡ v
      → (if c.value then before else before ++ run_of_node n c ∷ []) ++ uncovered_runs_with_node n (drop (suc i) covered)
      ≡ before ++ uncovered_runs_with_node n (c ∷ drop (suc i) covered)
  by true value = rw value refl
  by false value = rw value (append_assoc before (run_of_node n c ∷ []) (uncovered_runs_with_node n (drop (suc i) covered)))

pub space_push : (rs : List NumaBlock) (r : NumaBlock) → EndInSpace rs → run_end r < 2 ^ 64 → EndInSpace (rs ++ r ∷ [])
space_push [] r space ends = (ends, tt)
space_push (s ∷ ss) r space ends = (space.0, space_push ss r space.1 ends)

pub space_given : (n : ℕ) (before : List NumaBlock) (c : RunOf Bool) → EndInSpace before → run_end c < 2 ^ 64
    → EndInSpace (if c.value then before else before ++ run_of_node n c ∷ [])
space_given n before c space ends =
    cond_both c.value before (before ++ run_of_node n c ∷ []) EndInSpace (λ run_with_node. space)
    (λ bare. space_push before (run_of_node n c) space ends)

-- runs that end below 2^64 give no value to addresses at or above it
pub space_none : (rs : List NumaBlock) (x : ℕ) → EndInSpace rs → 2 ^ 64 ≤ x → value_at rs x ≡ None
space_none [] x space far = refl
space_none (r ∷ rs) x space far =
    rw (past_end r x (omega (arith, space.0))) (space_none rs x space.1 far)

-- the number of frames that begin in a run, and in the runs after it
begun_in : (r : NumaBlock) (frame : ℕ) → lies_in r (4096 * frame) ≡ (nat_le (count_frames_below r.base) frame
    && nat_lt frame (count_frames_below (run_end r)))
begun_in r frame = grind (arith, nat_tests)

pub frames_none : count_frames_with_node (value_at {X = ℕ} []) ≡ 0
unfolding count_frames_with_node
frames_none = count_none (λ frame. is_some (value_at {X = ℕ} [] (4096 * frame))) (2 ^ 52) (λ i lt. refl)

pub frames_step : (r : NumaBlock) (rs : List NumaBlock) → AreRuns (r ∷ rs) → run_end r < 2 ^ 64
    → count_frames_with_node (value_at (r ∷ rs)) ≡ (count_frames_below (run_end r) - count_frames_below r.base)
    + count_frames_with_node (value_at rs)
unfolding count_frames_with_node
frames_step r rs runs space =
    let here : ℕ → Bool = λ frame. nat_le (count_frames_below r.base) frame && nat_lt frame (count_frames_below (run_end r)) in
    let later : ℕ → Bool = λ frame. is_some (value_at rs (4096 * frame)) in
    let both : (frame : ℕ) → frame < 2 ^ 52 → is_some (value_at (r ∷ rs) (4096 * frame)) ≡ (here frame || later frame) = λ frame lt.
    rw (sym (begun_in r frame)) (elim (cases_Bool (lies_in r (4096 * frame))) as (λ _. is_some (value_at (r ∷ rs) (4096 * frame))
    ≡ (lies_in r (4096 * frame) || later frame)) [
      | inl lies ↦ rw lies refl
      | inr outside ↦ rw outside refl
    ]) in
    let apart : (frame : ℕ) → frame < 2 ^ 52 → here frame ≡ true → later frame ≡ false = λ frame lt in_run.
    rw (none_below (run_end r) (4096 * frame) rs runs.2 (rest_from r rs runs) (grind (arith, nat_tests, begun_in r frame))) refl in
    count_same _ _ (2 ^ 52) both ∙ count_either here later (2 ^ 52) apart
    ∙ ap (λ n. n + count_below later (2 ^ 52)) (count_interval (count_frames_below r.base) (count_frames_below (run_end r)) (2 ^ 52)
    ∙ omega arith)

pub frames_few : (f : ℕ → Option ℕ) → count_frames_with_node f ≤ 2 ^ 52
unfolding count_frames_with_node
frames_few f = count_at_most (λ frame. is_some (f (4096 * frame))) (2 ^ 52)

-- the frames of the first remaining run and those of the runs after it add up
pub frames_first : (r : NumaBlock) (rs : List NumaBlock) (n : ℕ) → 1 ≤ length rs → n ≡ length rs → r ≡ get_or rs 0 r → AreRuns rs
    → run_end r < 2 ^ 64
    → AreRuns (take (n - 1) (drop 1 rs))
    × (count_frames_with_node (value_at rs) ≡ (count_frames_below (run_end r) - count_frames_below r.base)
    + count_frames_with_node (value_at (take (n - 1) (drop 1 rs))))
frames_first r [] n some count is runs space = absurd (omega arith)
frames_first r (s ∷ ss) n some count is runs space =
    let all : take (n - 1) ss ≡ ss = take_all (n - 1) ss (omega arith) in
    (rw all runs.2, rw (all, is) (frames_step s ss runs (rw is at space)))

-- if no run remains, no frame begins in one
pub frames_last : (rs : List NumaBlock) → length rs < 1 → count_frames_with_node (value_at rs) ≡ 0
frames_last [] none = frames_none
frames_last (r ∷ rs) none = absurd (omega arith)
