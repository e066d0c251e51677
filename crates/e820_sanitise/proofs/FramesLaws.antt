-- Lemmas on counting the usable frames of a map along its runs.
use Rattle.std.proofs.Common.{◌≡◌, ℕ, ◌+◌, ◌-◌, ◌*◌, ◌/◌, ◌^◌, ◌<◌, ◌≤◌, ◌∙◌, sym, ap, refl, Bool, true, false, ◌&&◌, ◌||◌, ◌==◌, nat_le, nat_lt, min, if◌then◌else◌, arith, inl, inr, Some, None, List, [], ◌∷◌}
use Rattle.std.proofs.lemmas.Bool.{cases_Bool, cases_eq}
use Rattle.std.proofs.lemmas.Bool.Decides.{nat_tests}
use Rattle.address_runs.specs.Ascend.{Ascend}
use Rattle.address_runs.specs.Runs.{RunOf, run_end, lies_in, value_at}
use Rattle.address_runs.specs.Sweep.{StartAtOrPast}
use Rattle.address_runs.proofs.RunsLaws.{below, start_zero}
use Rattle.e820_model.specs.Usable.{is_memory, count_below, types_below, usable_frames, count_whole_frames}
use Rattle.e820_model.proofs.UsableLaws.{all_bytes, count_same, count_interval, count_frames_between, IsGap, count_split, usable_count, memory_reached}

-- the number of whole frames between two addresses, by division
pub whole_by_division : (from until : ℕ) → until < 2 ^ 64 → count_whole_frames from until ≡ until / 4096 - (from + 4095) / 4096
whole_by_division from until space =
    let same : (frame : ℕ) → frame < 2 ^ 52 → (nat_le from (4096 * frame) && nat_le (4096 * frame + 4096) until)
    ≡ (nat_le ((from + 4095) / 4096) frame && nat_lt frame (until / 4096)) =
    λ frame lt. grind (arith, nat_tests) in
    let counted : count_whole_frames from until ≡ min (until / 4096) (2 ^ 52) - (from + 4095) / 4096 =
    count_same _ _ (2 ^ 52) same ∙ count_interval ((from + 4095) / 4096) (until / 4096) (2 ^ 52) in
    counted ∙ omega arith

-- a frame lies between two addresses exactly if all its bytes do
whole_bytes : (from until : ℕ) → until < 2 ^ 64
    → count_whole_frames from until ≡ count_below (all_bytes (λ x. nat_le from x && nat_lt x until)) (2 ^ 52)
whole_bytes from until space = whole_by_division from until space ∙ omega (arith, count_frames_between from until (2 ^ 52), space)

-- the usable frames below the limit: those of the current stretch from `from` to below `until`,
-- and those of the runs that follow
abbrev pub frames_from : ℕ → ℕ → ℕ → List (RunOf ℕ) → ℕ
frames_from limit from until [] = count_whole_frames from (min until limit)
frames_from limit from until (r ∷ rs) =
    if is_memory (Some r.value)
    then (if r.base == until then frames_from limit from (run_end r) rs
    else count_whole_frames from (min until limit) + frames_from limit r.base (run_end r) rs)
    else frames_from limit from until rs

-- an address is memory: it lies in the current stretch, or in one of the runs that follow
abbrev pub memory_after : ℕ → ℕ → List (RunOf ℕ) → ℕ → Bool
memory_after from until rs x = (nat_le from x && nat_lt x until) || is_memory (value_at rs x)

-- runs that begin at or above an address begin at or above each lower address
pub start_earlier : (x y : ℕ) (rs : List (RunOf ℕ)) → x ≤ y → StartAtOrPast y rs → StartAtOrPast x rs
start_earlier x y [] le start = tt
start_earlier x y (r ∷ rs) le start = omega arith

-- runs that begin at or above an address give no value below it
none_before : (at x : ℕ) (rs : List (RunOf ℕ)) → Ascend rs → StartAtOrPast at rs → x < at → value_at rs x ≡ None
none_before at x [] order start low = refl
none_before at x (r ∷ rs) order start low =
    rw (below r x (omega arith)) (none_before (run_end r) x rs order.2 order.1 (omega arith))

-- a run of memory that touches the stretch extends it
pub memory_touching : (from until : ℕ) (r : RunOf ℕ) (rs : List (RunOf ℕ)) → from ≤ until → Ascend (r ∷ rs)
    → is_memory (Some r.value) ≡ true → r.base ≡ until
    → (x : ℕ) → memory_after from until (r ∷ rs) x ≡ memory_after from (run_end r) rs x
memory_touching from until r rs order runs memory touches x = grind (arith, nat_tests)

-- a run that isn't memory doesn't change which addresses are memory
pub memory_other : (from until : ℕ) (r : RunOf ℕ) (rs : List (RunOf ℕ)) → Ascend (r ∷ rs)
    → is_memory (Some r.value) ≡ false
    → (x : ℕ) → memory_after from until (r ∷ rs) x ≡ memory_after from until rs x
memory_other from until r rs runs other x =
    let none : x < run_end r → value_at rs x ≡ None = λ lt. none_before (run_end r) x rs runs.2 runs.1 lt in
    elim (cases_Bool (lies_in r x)) as (λ _. memory_after from until (r ∷ rs) x ≡ memory_after from until rs x) [
      | inl inside ↦
          (let low : x < run_end r = grind (arith, nat_tests) in
          let nothing : value_at rs x ≡ None = none low in
          rw (inside, other, nothing) refl)
      | inr outside ↦ (rw outside refl)
    ]

-- a run of memory after a gap begins a new stretch
pub memory_apart : (from until : ℕ) (r : RunOf ℕ) (rs : List (RunOf ℕ))
    → is_memory (Some r.value) ≡ true
    → (x : ℕ) → memory_after from until (r ∷ rs) x ≡ ((nat_le from x && nat_lt x until) || memory_after r.base (run_end r) rs x)
memory_apart from until r rs memory x =
    elim (cases_Bool (lies_in r x)) as
    (λ _. memory_after from until (r ∷ rs) x ≡ ((nat_le from x && nat_lt x until) || memory_after r.base (run_end r) rs x)) [
      | inl inside ↦ (rw (inside, memory) refl)
      | inr outside ↦ (rw outside refl)
    ]

-- the address after the stretch is a gap between the stretch and the runs that follow
pub stretch_gap : (from until : ℕ) (r : RunOf ℕ) (rs : List (RunOf ℕ)) → Ascend (r ∷ rs) → until < r.base
    → IsGap (λ x. nat_le from x && nat_lt x until) (memory_after r.base (run_end r) rs) until
stretch_gap from until r rs runs after = record {
  below = λ x high. grind (arith, nat_tests);
  above = λ x low.
      let nothing : value_at rs x ≡ None = none_before (run_end r) x rs runs.2 runs.1 (omega arith) in
      grind (arith, nat_tests, nothing);
}

-- without further runs only the stretch is memory
pub memory_last : (from until x : ℕ) → (nat_le from x && nat_lt x until) ≡ memory_after from until [] x
memory_last from until x = grind (arith, nat_tests)

-- before the first run there is no stretch, and only the runs are memory
pub memory_first : (rs : List (RunOf ℕ)) (x : ℕ) → memory_after 0 0 rs x ≡ is_memory (value_at rs x)
memory_first rs x = grind (arith, nat_tests)

-- the number of frames below the limit whose bytes all pass the test `p`
abbrev pub frames_of : ℕ → (ℕ → Bool) → ℕ
frames_of limit p = count_below (all_bytes (λ x. p x && nat_lt x limit)) (2 ^ 52)

-- two tests that agree on each address count the same frames
pub frames_same : (limit : ℕ) (p q : ℕ → Bool) → ((x : ℕ) → p x ≡ q x) → frames_of limit p ≡ frames_of limit q
frames_same limit p q same = ap (frames_of limit) (λ i x. same x i)

-- counting the frames of one stretch
stretch_frames : (limit from until : ℕ) → limit < 2 ^ 64
    → count_whole_frames from (min until limit) ≡ frames_of limit (λ x. nat_le from x && nat_lt x until)
stretch_frames limit from until space =
    let cut : (x : ℕ) → (nat_le from x && nat_lt x (min until limit)) ≡ ((nat_le from x && nat_lt x until) && nat_lt x limit) =
    λ x. grind (arith, nat_tests) in
    whole_bytes from (min until limit) (omega arith) ∙ ap (λ p. count_below (all_bytes p) (2 ^ 52)) (λ i x. cut x i)

-- if a gap separates two sets of addresses, their frames add up
both_frames : (limit : ℕ) (p q : ℕ → Bool) (gap : ℕ) → IsGap p q gap
    → frames_of limit (λ x. p x || q x) ≡ frames_of limit p + frames_of limit q
both_frames limit p q gap apart =
    let near : ℕ → Bool = λ x. p x && nat_lt x limit in
    let far : ℕ → Bool = λ x. q x && nat_lt x limit in
    let still : IsGap near far gap = record {
      below = λ x high. rw (apart.below x high) refl;
      above = λ x low. rw (apart.above x low) refl;
    } in
    let either : (x : ℕ) → ((p x || q x) && nat_lt x limit) ≡ (near x || far x) = λ x. grind (arith, nat_tests) in
    ap (λ t. count_below (all_bytes t) (2 ^ 52)) (λ i x. either x i) ∙ count_split near far gap (2 ^ 52) still

-- the count along the runs is the number of whole frames of memory
pub frames_counted : (limit : ℕ) → limit < 2 ^ 64 → (rs : List (RunOf ℕ)) (from until : ℕ) → from ≤ until → StartAtOrPast until rs
    → Ascend rs
    → frames_from limit from until rs ≡ frames_of limit (memory_after from until rs)
frames_counted limit space [] from until order start runs =
    stretch_frames limit from until space
    ∙ frames_same limit (λ x. nat_le from x && nat_lt x until) (memory_after from until []) (memory_last from until)
frames_counted limit space (r ∷ rs) from until order start runs =
    let goal : Type 0 = frames_from limit from until (r ∷ rs) ≡ frames_of limit (memory_after from until (r ∷ rs)) in
    let after : StartAtOrPast (run_end r) rs = runs.1 in
    elim (cases_Bool (is_memory (Some r.value))) as (λ _. goal) [
      | inr other ↦
          (let rest : frames_from limit from until rs ≡ frames_of limit (memory_after from until rs) =
          frames_counted limit space rs from until order (start_earlier until (run_end r) rs (omega arith) after) runs.2 in
          let same : frames_of limit (memory_after from until (r ∷ rs)) ≡ frames_of limit (memory_after from until rs) =
          frames_same limit _ _ (memory_other from until r rs runs other) in
          rw other (rest ∙ sym same))
      | inl memory ↦ (elim (cases_eq r.base until) as (λ _. goal) [
        | inl touches ↦
            (let test : (r.base == until) ≡ true = grind (arith, nat_tests) in
            let rest : frames_from limit from (run_end r) rs ≡ frames_of limit (memory_after from (run_end r) rs) =
            frames_counted limit space rs from (run_end r) (omega arith) after runs.2 in
            let same : frames_of limit (memory_after from until (r ∷ rs)) ≡ frames_of limit (memory_after from (run_end r) rs) =
            frames_same limit _ _ (memory_touching from until r rs order runs memory touches) in
            rw (memory, test) (rest ∙ sym same))
        | inr apart ↦
            (let test : (r.base == until) ≡ false = grind (arith, nat_tests) in
            let rest : frames_from limit r.base (run_end r) rs ≡ frames_of limit (memory_after r.base (run_end r) rs) =
            frames_counted limit space rs r.base (run_end r) (omega arith) after runs.2 in
            let same : frames_of limit (memory_after from until (r ∷ rs))
            ≡ frames_of limit (λ x. (nat_le from x && nat_lt x until) || memory_after r.base (run_end r) rs x) =
            frames_same limit _ _ (memory_apart from until r rs memory) in
            let split : frames_of limit (λ x. (nat_le from x && nat_lt x until) || memory_after r.base (run_end r) rs x)
            ≡ frames_of limit (λ x. nat_le from x && nat_lt x until) + frames_of limit (memory_after r.base (run_end r) rs) =
            both_frames limit _ _ until (stretch_gap from until r rs runs (omega arith)) in
            let stretch : count_whole_frames from (min until limit) ≡ frames_of limit (λ x. nat_le from x && nat_lt x until) =
            stretch_frames limit from until space in
            rw (memory, test, same, split, stretch, rest) refl)
      ])
    ]

-- for ascending runs, the count that begins without a stretch is the number of usable frames
pub frames_usable : (limit : ℕ) → limit < 2 ^ 64 → (rs : List (RunOf ℕ)) → Ascend rs
    → frames_from limit 0 0 rs ≡ usable_frames (types_below limit (value_at rs))
frames_usable limit space rs runs =
    let reached : (x : ℕ) → (is_memory (value_at rs x) && nat_lt x limit) ≡ is_memory (types_below limit (value_at rs) x) =
    λ x. sym (memory_reached limit (value_at rs) x) in
    frames_counted limit space rs 0 0 (omega arith) (start_zero rs) runs
    ∙ frames_same limit (memory_after 0 0 rs) (λ x. is_memory (value_at rs x)) (memory_first rs)
    ∙ ap (λ p. count_below (all_bytes p) (2 ^ 52)) (λ i x. reached x i)
    ∙ sym (usable_count (types_below limit (value_at rs)))
