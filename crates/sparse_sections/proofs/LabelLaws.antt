-- The label of the first frame of a section that is memory.
use Rattle.std.proofs.Common.{◌≡◌, ℕ, zero, suc, ◌+◌, ◌-◌, ◌*◌, ◌/◌, ◌%◌, ◌<◌, ◌≤◌, Some, None, refl, ◌∙◌, ap, arith, add-zero}
use Rattle.address_runs.specs.Runs.{RunOf, run_end}
use Rattle.memblock_model.specs.Labels.{LabelView, Labels}
use Rattle.sparse_sections.specs.Present.{label_of_first_memory_frame, section_label}

-- the label if none of the frames is memory
pub label-none : (f : Labels) (a n : ℕ) → ((y : ℕ) → a ≤ y → y < a + n → f (4096 * y) ≡ None) → label_of_first_memory_frame f a n ≡ None
unfolding label_of_first_memory_frame
label-none f a zero none = refl
label-none f a (suc n) none =
    rw (none a (omega arith) (omega arith)) (label-none f (a + 1) n (λ y above below. none y (omega arith) (omega arith)))

-- the label if the k-th frame after the first is memory, and none before it is
pub label-found : (f : Labels) (a n k : ℕ) (v : LabelView) → k < n → ((y : ℕ) → a ≤ y → y < a + k → f (4096 * y) ≡ None)
    → f (4096 * (a + k)) ≡ Some v → label_of_first_memory_frame f a n ≡ Some v
unfolding label_of_first_memory_frame
label-found f a zero k v few none found = absurd (omega arith)
label-found f a (suc n) zero v few none found = rw (rw add-zero at found) refl
label-found f a (suc n) (suc k) v few none found =
    rw (none a (omega arith) (omega arith))
    (label-found f (a + 1) n k v (omega arith) (λ y above below. none y (omega arith) (omega arith))
    (ap (λ (y : ℕ). f (4096 * y)) (omega arith) ∙ found))

-- the label of a section without memory
pub section-none : (f : Labels) (s : ℕ) → ((x : ℕ) → 0x8000000 * s ≤ x → x < 0x8000000 * (s + 1) → f x ≡ None) → section_label f s ≡ None
section-none f s none =
    label-none f (32768 * s) 32768 (λ y above below. none (4096 * y) (omega arith) (omega arith))

-- the label of a section whose lowest memory is in this record
pub section-found : (f : Labels) (s : ℕ) (r : RunOf LabelView) → r.base % 4096 ≡ 0 → r.base < 0x8000000 * (s + 1)
    → 0x8000000 * s < run_end r
    → 0 < r.size → ((x : ℕ) → 0x8000000 * s ≤ x → x < r.base → f x ≡ None)
    → ((x : ℕ) → 0x8000000 * s ≤ x → r.base ≤ x → x < run_end r → f x ≡ Some r.value) → section_label f s ≡ Some r.value
section-found f s r whole below above some none here =
    let k : ℕ = r.base / 4096 - 32768 * s in
    label-found f (32768 * s) 32768 k r.value (omega arith)
    (λ y from until. none (4096 * y) (omega arith) (omega arith))
    (here (4096 * (32768 * s + k)) (omega arith) (omega arith) (omega arith))
