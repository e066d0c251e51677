-- Worked examples of small stores, of single bytes and of a write.
use Rattle.std.proofs.Common.{◌≡◌, ℕ, ◌<◌, ◌≤◌, zero, suc, ◌||◌, nat_lt, nat_le, get_or, true, false, List, [], ◌∷◌, refl, arith, IsTrue}
use Rattle.std.proofs.lemmas.Bool.{false≢true}
use Rattle.std.proofs.lemmas.Bool.Decides.{nat_tests}
use Rattle.phys_store.specs.Bytes.{ExtentView, end_of_extent, byte_of, is_prepared_at, ArePrepared, WritesBytes}
use Rattle.phys_store.specs.Extents.{AreSortedAndApart, nth_extent, AreTouchedExtents}
use Rattle.phys_store.proofs.Writes.{wrote-set}

-- bytes 1, 2, 3 from address 4 on, and byte 9 at address 8
abbrev low : ExtentView
low = record { base = 4; bytes = 1 ∷ 2 ∷ 3 ∷ [] }

abbrev high : ExtentView
high = record { base = 8; bytes = 9 ∷ [] }

abbrev store : List ExtentView
store = low ∷ high ∷ []

-- an address that no extent has reads as 0, and isn't prepared
byte_examples : (byte_of store 4 ≡ 1) × (byte_of store 6 ≡ 3) × (byte_of store 7 ≡ 0) × (byte_of store 8 ≡ 9) × (byte_of [] 8 ≡ 0)
byte_examples = (refl, refl, refl, refl, refl)

ready_examples : (is_prepared_at store 6 ≡ true) × (is_prepared_at store 7 ≡ false) × (is_prepared_at store 8 ≡ true)
    × (is_prepared_at [] 8 ≡ false)
ready_examples = (refl, refl, refl, refl)

-- a range in one extent is prepared, and so is an empty range; a range with a gap isn't
range_examples : ArePrepared (low ∷ []) 5 2 × ArePrepared [] 5 0 × ¬ ArePrepared store 6 3
range_examples = (
  (λ x from to. grind (arith, nat_tests)),
  (λ x from to. absurd (omega arith)),
  λ ready. cc (ready 7 (omega arith) (omega arith)),
)

-- 7 is written at address 5; nothing else changes
abbrev written : ExtentView
written = record { base = 4; bytes = 1 ∷ 7 ∷ 3 ∷ [] }

beside : (j : ℕ) → IsTrue (nat_lt j 1 || nat_le 2 j) → get_or written.bytes j 0 ≡ get_or low.bytes j 0
beside zero off = refl
beside (suc zero) off = absurd (false≢true off)
beside (suc (suc j)) off = refl

one_written : WritesBytes (low ∷ []) (written ∷ []) 5 1 (λ k. 7)
one_written =
    (wrote-set (low ∷ []) 0 low written 5 1 (λ k. 7) (omega arith, omega arith, omega arith, tt) (omega arith) refl refl refl
    (omega arith) (omega arith)
    (λ k below. let none : k ≡ 0 = omega arith in rw none refl) beside).1

-- two extents with a gap of one byte don't touch; extents without a gap do
apart_examples : AreSortedAndApart 0 store × ¬ AreSortedAndApart 5 store
    × ¬ AreSortedAndApart 0 (low ∷ record { base = 7; bytes = 9 ∷ [] } ∷ [])
apart_examples = (
  (omega arith, omega arith, omega arith, (omega arith, omega arith, omega arith, tt)),
  (λ no. absurd (omega (arith, no.0))),
  λ no. absurd (omega (arith, no.3.0)),
)

-- the addresses from 4 to below 9 are those of both extents and of the gap
within : (i : ℕ) → i < 2 → (4 ≤ (nth_extent store i).base) × (end_of_extent (nth_extent store i) ≤ 9)
within zero less = (omega arith, omega arith)
within (suc zero) less = (omega arith, omega arith)
within (suc (suc i)) less = absurd (omega arith)

gap_joins : AreTouchedExtents store 0 2 4 9
gap_joins = record {
  order = omega arith;
  most = omega arith;
  below = λ i less. absurd (omega arith);
  low = λ i from to. (within i to).0;
  high = λ i from to. (within i to).1;
  above = λ i from to. absurd (omega arith);
}
