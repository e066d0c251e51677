-- What is true after one more call of the operating system.
use Rattle.std.proofs.Common.{◌≡◌, ℕ, ◌-◌, ◌<◌, ◌≤◌, List, ◌++◌, length, take, drop, Option, Some, arith}
use Rattle.std.proofs.lemmas.List.{length-take-le}
use Rattle.bm_io.specs.Calls.{HasTaken, nothing_taken, took, HasGiven, gave}
use Rattle.bm_io.proofs.StreamLaws.{remaining_slice, taken_count_after_write}

-- before the first write the stream has taken nothing
pub taken_none : {W : Type 0} (writes : W → List ℕ → Option ℕ → W → Type 0) (chunk : List ℕ) (before : W)
    → HasTaken writes chunk before (length chunk - length chunk) before
taken_none writes chunk before = let zero : length chunk - length chunk ≡ 0 = omega arith in rw zero nothing_taken

-- after a write that took n of the remaining bytes, the stream has taken n more
pub taken_more : {W : Type 0} (writes : W → List ℕ → Option ℕ → W → Type 0) (chunk rest : List ℕ) (before mid after : W) (n : ℕ)
    → HasTaken writes chunk before (length chunk - length rest) mid → rest ≡ drop (length chunk - length rest) chunk
    → n ≤ length rest → 0 < n → writes mid rest (Some n) after
    → HasTaken writes chunk before (length chunk - length (remaining_slice rest n)) after
taken_more writes chunk rest before mid after n so_far left small some call =
    let offered : writes mid (drop (length chunk - length rest) chunk) (Some n) after = rw (← left) call in
    rw (taken_count_after_write chunk rest n left small) (took so_far offered some)

-- after a read that gave n bytes, the file has given n more
pub given_more : {F : Type 0} (reads : F → Option (List ℕ) → F → Type 0) (before mid after : F) (so_far buffer now : List ℕ) (n : ℕ)
    → HasGiven reads before so_far mid → reads mid (Some (take n buffer)) after → n ≤ length buffer → 0 < n
    → now ≡ so_far ++ take n buffer → HasGiven reads before now after
given_more reads before mid after so_far buffer now n given_so_far call small some is =
    let more : 0 < length (take n buffer) = rw (length-take-le n buffer small) some in rw is (gave given_so_far call more)
