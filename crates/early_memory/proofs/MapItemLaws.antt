-- What the items of a map make of memory, byte by byte, and what is left after the trim.
use Rattle.std.proofs.Common.{◌≡◌, ℕ, ◌+◌, ◌*◌, ◌/◌, ◌<◌, ◌≤◌, ◌==◌, Bool, true, false, ◌&&◌, nat_lt, if◌then◌else◌, Option, Some, None, List, [], ◌∷◌, refl, sym, ◌∙◌, ap, inl, inr, arith}
use Rattle.std.proofs.lemmas.Bool.Decides.{nat_tests}
use Rattle.std.proofs.lemmas.Bool.{cases_Bool, true≢false}
use Rattle.std.proofs.lemmas.Option.{cond_some}
use Rattle.std.proofs.lemmas.List.Sums.{fold-append}
use Rattle.std.specs.List.{fold}
use Rattle.std.specs.Prelude.{unwrap_or}
use Rattle.bm_base.specs.Range.{covers}
use Rattle.bm_base.specs.Frames.{bytes_of_frame}
use Rattle.bm_base.proofs.EachLaws.{each_in-all}
use Rattle.address_runs.specs.Runs.{RunOf, lies_in, run_end, value_at, AreRuns}
use Rattle.address_runs.proofs.RunsLaws.{none_below, rest_from}
use Rattle.e820_model.specs.Map.{TypeAt}
use Rattle.e820_model.specs.Usable.{is_memory, is_usable_frame, types_below}
use Rattle.e820_model.proofs.UsableLaws.{memory_reached, is_usable_frame-each, usable_whole}
use Rattle.memblock_model.specs.Labels.{LabelView, Labels, plain_label}
use Rattle.memblock_model.specs.Items.{memory_after, no_memory, trim_frames}
use Rattle.memblock_model.proofs.LabelLaws.{IsInFrame, in_own_frame, trim_frames-cases, trim_frames-whole}
use Rattle.early_memory.specs.FirstItems.{items_of_map, items_of_run, part_below}

-- a byte becomes memory or stays as it is
abbrev pub becomes : Bool → Option LabelView → Option LabelView
becomes held old = if held then Some (unwrap_or old plain_label) else old

pub one_run : (limit : ℕ) (r : RunOf ℕ) (f : Labels) (x : ℕ)
    → fold memory_after f (items_of_run limit r) x ≡ becomes (lies_in r x && (is_memory (Some r.value) && nat_lt x limit)) (f x)
one_run limit r f x =
    let goal : Type 0 = fold memory_after f (items_of_run limit r) x
    ≡ becomes (lies_in r x && (is_memory (Some r.value) && nat_lt x limit)) (f x) in
    elim (cases_Bool (is_memory (Some r.value) && nat_lt r.base limit)) as (λ _. goal) [
      | inl held ↦
          (let plain : (r.value == 0xEFFFFFFF) ≡ false = grind (arith, nat_tests) in
          let same : (lies_in r x && (is_memory (Some r.value) && nat_lt x limit)) ≡ covers (part_below limit r) x =
          grind (arith, nat_tests) in
          rw (plain, held, same) refl)
      | inr out ↦
          (let other : (lies_in r x && (is_memory (Some r.value) && nat_lt x limit)) ≡ false = grind (arith, nat_tests) in
          elim (cases_Bool (r.value == 0xEFFFFFFF)) as (λ _. goal)
          [ inl soft ↦ rw (soft, other) refl | inr plain ↦ rw (plain, out, other) refl ])
    ]

-- the bytes that are memory below the limit become memory, and no others
pub all_runs : (limit : ℕ) (rs : List (RunOf ℕ)) (f : Labels) (x : ℕ) → AreRuns rs
    → fold memory_after f (items_of_map limit rs) x ≡ becomes (is_memory (value_at rs x) && nat_lt x limit) (f x)
all_runs limit [] f x runs = refl
all_runs limit (r ∷ rs) f x runs =
    let g : Labels = fold memory_after f (items_of_run limit r) in
    let first : g x ≡ becomes (lies_in r x && (is_memory (Some r.value) && nat_lt x limit)) (f x) = one_run limit r f x in
    let rest : fold memory_after g (items_of_map limit rs) x ≡ becomes (is_memory (value_at rs x) && nat_lt x limit) (g x) =
    all_runs limit rs g x runs.2 in
    ap (λ (h : Labels). h x) (fold-append memory_after f (items_of_run limit r) (items_of_map limit rs)) ∙ rest
    ∙ (elim (cases_Bool (lies_in r x)) as
    (λ _. becomes (is_memory (value_at rs x) && nat_lt x limit) (g x) ≡ becomes (is_memory (value_at (r ∷ rs) x) && nat_lt x limit) (f x)) [
      | inl inside ↦
          (let low : x < run_end r = grind (arith, nat_tests) in
          let none : value_at rs x ≡ None = none_below (run_end r) x rs runs.2 (rest_from r rs runs) low in
          let here : g x ≡ becomes (true && (is_memory (Some r.value) && nat_lt x limit)) (f x) = rw inside at first in
          rw (inside, none) here)
      | inr outside ↦
          (let here : g x ≡ f x = rw outside at first in
          rw (outside, here) refl)
    ])

-- the memory that the map's items give, if there was none before
pub added_memory : (limit : ℕ) (rs : List (RunOf ℕ)) (x : ℕ) → AreRuns rs
    → fold memory_after no_memory (items_of_map limit rs) x
    ≡ (if is_memory (types_below limit (value_at rs) x) then Some plain_label else None)
added_memory limit rs x runs =
    all_runs limit rs no_memory x runs
    ∙ ap (λ (b : Bool). becomes b None) (sym (memory_reached limit (value_at rs) x))

-- after the trim, memory is the usable frames
pub trimmed_memory : (t : TypeAt) (g : Labels) → ((x : ℕ) → g x ≡ (if is_memory (t x) then Some plain_label else None))
    → (x : ℕ) → trim_frames g x ≡ (if is_usable_frame t (x / 4096) then Some plain_label else None)
trimmed_memory t g each x =
    elim (cases_Bool (is_usable_frame t (x / 4096))) as (λ _.
    trim_frames g x ≡ (if is_usable_frame t (x / 4096) then Some plain_label else None)) [
      | inl usable ↦
          (let held : (y : ℕ) → IsInFrame x y → g y ≡ Some plain_label = λ y within. (
          let above = within.above in
          let below = within.below in
          each y ∙ rw (is_usable_frame-each t (x / 4096) usable y (omega (arith, above)) (omega (arith, below))) refl) in
          rw usable (trim_frames-whole g x (λ y within. held y within ∙ sym (held x (in_own_frame x))) ∙ held x (in_own_frame x)))
      | inr other ↦ (rw other (elim (trim_frames-cases g x) as (λ _. trim_frames g x ≡ None) [
        | inl one ↦ (elim (cases_Bool (is_memory (t x))) as (λ _. trim_frames g x ≡ None) [
          | inl memory ↦
              (let here : g x ≡ Some plain_label = each x ∙ rw memory refl in
              let all : (y : ℕ) → 4096 * (x / 4096) ≤ y → y < 4096 * (x / 4096) + 4096 → is_memory (t y) ≡ true = λ y above below.
              (cond_some (is_memory (t y)) plain_label plain_label
              (sym (each y) ∙ one y (record { above = omega (arith, above); below = omega (arith, below) }) ∙ here)).0 in
              let whole = usable_whole t (x / 4096) ∙ each_in-all (bytes_of_frame (x / 4096)) (λ y. is_memory (t y)) all in
              absurd (true≢false (sym whole ∙ other)))
          | inr none ↦ (trim_frames-whole g x one ∙ each x ∙ rw none refl)
        ])
        | inr none ↦ none
      ]))
    ]
