-- Laws of counts, and of whole frames.
use Rattle.std.proofs.Common.{◌≡◌, ℕ, zero, suc, ◌+◌, ◌-◌, ◌*◌, ◌/◌, ◌^◌, ◌<◌, ◌≤◌, ◌∙◌, sym, refl, Bool, true, false, ◌&&◌, ◌||◌, nat_le, nat_lt, min, arith, inl, inr}
use Rattle.std.proofs.lemmas.Bool.{cases_lt, cases_Bool, both_ways}
use Rattle.std.proofs.lemmas.Bool.Decides.{nat_tests}
use Rattle.bm_base.specs.Each.{each_in}
use Rattle.bm_base.specs.Frames.{bytes_of_frame}
use Rattle.bm_base.proofs.EachLaws.{each_in-all, each_in-each, each_in-fails, each_in-same}
use Rattle.e820_model.specs.Usable.{is_memory, count_below, types_below, is_usable_frame, usable_frames}
use Rattle.e820_model.specs.Map.{TypeAt}

-- counting the numbers below n that pass a test

-- two tests that agree below n count the same there
pub count_same : (p q : ℕ → Bool) (n : ℕ) → ((i : ℕ) → i < n → p i ≡ q i) → count_below p n ≡ count_below q n
unfolding count_below
count_same p q zero same = refl
count_same p q (suc n) same =
    let here : p n ≡ q n = same n (omega arith) in
    let rest : count_below p n ≡ count_below q n = count_same p q n (λ i lt. same i (omega arith)) in
    rw (here, rest) refl

-- if no number below n passes, the count is 0
pub count_none : (p : ℕ → Bool) (n : ℕ) → ((i : ℕ) → i < n → p i ≡ false) → count_below p n ≡ 0
unfolding count_below
count_none p zero none = refl
count_none p (suc n) none =
    let here : p n ≡ false = none n (omega arith) in
    let rest : count_below p n ≡ 0 = count_none p n (λ i lt. none i (omega arith)) in
    rw (here, rest) refl

-- at most n of the numbers below n pass
pub count_at_most : (p : ℕ → Bool) (n : ℕ) → count_below p n ≤ n
unfolding count_below
count_at_most p zero = omega arith
count_at_most p (suc n) =
    let rest : count_below p n ≤ n = count_at_most p n in
    grind (arith, nat_tests, rest)

-- if no number passes both tests, the counts of both add up
pub count_either : (p q : ℕ → Bool) (n : ℕ) → ((i : ℕ) → i < n → p i ≡ true → q i ≡ false)
    → count_below (λ i. p i || q i) n ≡ count_below p n + count_below q n
unfolding count_below
count_either p q zero apart = refl
count_either p q (suc n) apart =
    let here : p n ≡ true → q n ≡ false = apart n (omega arith) in
    let rest : count_below (λ i. p i || q i) n ≡ count_below p n + count_below q n = count_either p q n (λ i lt. apart i (omega arith)) in
    elim (cases_Bool (p n)) as (λ _. count_below (λ i. p i || q i) (suc n) ≡ count_below p (suc n) + count_below q (suc n)) [
      | inl passes ↦ (let not_other : q n ≡ false = here passes in rw (passes, not_other) (omega arith))
      | inr fails ↦ (rw fails (grind (arith, nat_tests, rest)))
    ]

-- how many numbers below n lie from a up to b, without b
pub count_interval : (a b n : ℕ) → count_below (λ i. nat_le a i && nat_lt i b) n ≡ min b n - a
unfolding count_below
count_interval a b zero = omega arith
count_interval a b (suc n) =
    let rest : count_below (λ i. nat_le a i && nat_lt i b) n ≡ min b n - a = count_interval a b n in
    grind (arith, nat_tests, rest)

-- counting frames all of whose bytes pass a test

-- whether every byte of the frame passes
abbrev pub all_bytes : (ℕ → Bool) → ℕ → Bool
all_bytes p frame = each_in (bytes_of_frame frame) p

-- a frame with a byte that fails the test fails too
pub all_bytes-fails : (p : ℕ → Bool) (frame x : ℕ) → 4096 * frame ≤ x → x < 4096 * frame + 4096 → p x ≡ false → all_bytes p frame ≡ false
all_bytes-fails p frame x low high fails = each_in-fails (bytes_of_frame frame) p x low high fails

-- each byte of a frame that passes does pass
pub all_bytes-each : (p : ℕ → Bool) (frame : ℕ) → all_bytes p frame ≡ true
    → (x : ℕ) → 4096 * frame ≤ x → x < 4096 * frame + 4096 → p x ≡ true
all_bytes-each p frame all x low high = each_in-each (bytes_of_frame frame) p all x low high

-- a frame lies between two addresses if it begins at or above the first and ends at or below the
-- second
pub interval_frame : (from until frame : ℕ)
    → all_bytes (λ x. nat_le from x && nat_lt x until) frame ≡ (nat_le ((from + 4095) / 4096) frame && nat_lt frame (until / 4096))
interval_frame from until frame =
    let inside : ℕ → Bool = λ x. nat_le from x && nat_lt x until in
    let goal : Type 0 = all_bytes inside frame ≡ (nat_le ((from + 4095) / 4096) frame && nat_lt frame (until / 4096)) in
    elim (cases_lt (4096 * frame) from) as (λ _. goal) [
      | inl early ↦
          (let fails : inside (4096 * frame) ≡ false = grind (arith, nat_tests) in
          let none : all_bytes inside frame ≡ false = all_bytes-fails inside frame (4096 * frame) (omega arith) (omega arith) fails in
          none ∙ grind (arith, nat_tests))
      | inr begun ↦ (elim (cases_lt until (4096 * frame + 4096)) as (λ _. goal) [
        | inl late ↦
            (let fails : inside (4096 * frame + 4095) ≡ false = grind (arith, nat_tests) in
            let none : all_bytes inside frame ≡ false = all_bytes-fails inside frame (4096 * frame + 4095) (omega arith)
            (omega arith) fails in
            none ∙ grind (arith, nat_tests))
        | inr ends ↦
            (let each : (x : ℕ) → 4096 * frame ≤ x → x < 4096 * frame + 4096 → inside x ≡ true = λ x low high. grind (arith, nat_tests) in
            let whole : all_bytes inside frame ≡ true = each_in-all (bytes_of_frame frame) inside each in
            whole ∙ grind (arith, nat_tests))
      ])
    ]

-- how many of the frames below n lie between two addresses
pub count_frames_between : (from until n : ℕ)
    → count_below (all_bytes (λ x. nat_le from x && nat_lt x until)) n ≡ min (until / 4096) n - (from + 4095) / 4096
count_frames_between from until n =
    count_same _ (λ frame. nat_le ((from + 4095) / 4096) frame && nat_lt frame (until / 4096)) n
    (λ frame lt. interval_frame from until frame)
    ∙ count_interval ((from + 4095) / 4096) (until / 4096) n

-- the address `gap` is in neither of two sets of addresses: `p` has only addresses below it, `q`
-- only addresses above it
pub record IsGap (p q : ℕ → Bool) (gap : ℕ) : Type 0 where
  pub below : (x : ℕ) → gap ≤ x → p x ≡ false
  pub above : (x : ℕ) → x ≤ gap → q x ≡ false

-- if each byte of a frame is in one of the two sets, the frame is on one side of the gap, so all
-- its bytes are in one set
pub split_frame : (p q : ℕ → Bool) (gap frame : ℕ) → IsGap p q gap
    → all_bytes (λ x. p x || q x) frame ≡ (all_bytes p frame || all_bytes q frame)
split_frame p q gap frame apart =
    let either : ℕ → Bool = λ x. p x || q x in
    let goal : Type 0 = all_bytes either frame ≡ (all_bytes p frame || all_bytes q frame) in
    elim (cases_lt gap (4096 * frame)) as (λ _. goal) [
      | inl after ↦
          (let each : (x : ℕ) → 4096 * frame ≤ x → x < 4096 * frame + 4096 → either x ≡ q x =
          λ x low high. (let none : p x ≡ false = apart.below x (omega arith) in rw none refl) in
          let none : all_bytes p frame ≡ false =
          all_bytes-fails p frame (4096 * frame) (omega arith) (omega arith) (apart.below (4096 * frame) (omega arith)) in
          rw none (each_in-same (bytes_of_frame frame) either q each))
      | inr before ↦ (elim (cases_lt gap (4096 * frame + 4096)) as (λ _. goal) [
        | inl inside ↦
            (let no_first : p gap ≡ false = apart.below gap (omega arith) in
            let no_second : q gap ≡ false = apart.above gap (omega arith) in
            let no_either : either gap ≡ false = rw (no_first, no_second) refl in
            let first : all_bytes p frame ≡ false = all_bytes-fails p frame gap before inside no_first in
            let second : all_bytes q frame ≡ false = all_bytes-fails q frame gap before inside no_second in
            let both : all_bytes either frame ≡ false = all_bytes-fails either frame gap before inside no_either in
            rw (first, second) both)
        | inr ahead ↦
            (let each : (x : ℕ) → 4096 * frame ≤ x → x < 4096 * frame + 4096 → either x ≡ p x =
            λ x low high. (let none : q x ≡ false = apart.above x (omega arith) in grind (arith, none)) in
            let none : all_bytes q frame ≡ false =
            all_bytes-fails q frame (4096 * frame) (omega arith) (omega arith) (apart.above (4096 * frame) (omega arith)) in
            let same : all_bytes either frame ≡ all_bytes p frame = each_in-same (bytes_of_frame frame) either p each in
            grind (arith, none, same))
      ])
    ]

-- the frames on both sides of a gap add up
pub count_split : (p q : ℕ → Bool) (gap n : ℕ) → IsGap p q gap
    → count_below (all_bytes (λ x. p x || q x)) n ≡ count_below (all_bytes p) n + count_below (all_bytes q) n
count_split p q gap n apart =
    count_same _ (λ frame. all_bytes p frame || all_bytes q frame) n (λ frame lt. split_frame p q gap frame apart)
    ∙ count_either (all_bytes p) (all_bytes q) n (λ frame lt whole.
    let first : p (4096 * frame) ≡ true = all_bytes-each p frame whole (4096 * frame) (omega arith) (omega arith) in
    elim (cases_lt (4096 * frame) gap) as (λ _. all_bytes q frame ≡ false) [
      | inl before ↦ all_bytes-fails q frame (4096 * frame) (omega arith) (omega arith) (apart.above (4096 * frame) (omega arith))
      | inr after ↦ absurd (both_ways (p (4096 * frame)) (apart.below (4096 * frame) after) first)
    ])

-- usable frames, as frames all of whose bytes are memory

-- a frame is usable exactly if all its bytes are memory
pub usable_whole : (f : TypeAt) (frame : ℕ) → is_usable_frame f frame ≡ all_bytes (λ x. is_memory (f x)) frame
unfolding is_usable_frame
usable_whole f frame = refl

-- each byte of a usable frame is memory
pub is_usable_frame-each : (f : TypeAt) (frame : ℕ) → is_usable_frame f frame ≡ true
    → (x : ℕ) → 4096 * frame ≤ x → x < 4096 * frame + 4096 → is_memory (f x) ≡ true
is_usable_frame-each f frame usable = all_bytes-each (λ x. is_memory (f x)) frame (sym (usable_whole f frame) ∙ usable)

-- a frame with a byte that isn't memory isn't usable
pub is_usable_frame-fails : (f : TypeAt) (frame x : ℕ) → 4096 * frame ≤ x → x < 4096 * frame + 4096 → is_memory (f x) ≡ false
    → is_usable_frame f frame ≡ false
is_usable_frame-fails f frame x low high fails = usable_whole f frame ∙ all_bytes-fails (λ x. is_memory (f x)) frame x low high fails

-- the number of usable frames is that of the frames all of whose bytes are memory
pub usable_count : (f : TypeAt) → usable_frames f ≡ count_below (all_bytes (λ x. is_memory (f x))) (2 ^ 52)
unfolding usable_frames
usable_count f = count_same (is_usable_frame f) (all_bytes (λ x. is_memory (f x))) (2 ^ 52) (λ frame lt. usable_whole f frame)

-- types of addresses below the limit

-- an address is memory below the limit exactly if it is memory and lies below the limit
pub memory_reached : (limit : ℕ) (f : TypeAt) (x : ℕ) → is_memory (types_below limit f x) ≡ (is_memory (f x) && nat_lt x limit)
memory_reached limit f x =
    elim (cases_Bool (nat_lt x limit)) as (λ _. is_memory (types_below limit f x) ≡ (is_memory (f x) && nat_lt x limit)) [
      | inl within ↦ rw within (grind (arith, nat_tests))
      | inr past ↦ rw past (grind (arith, nat_tests))
    ]
