-- Known bytes that grow chunk by chunk.
use Rattle.std.proofs.Common.{◌≡◌, ℕ, ◌+◌, ◌-◌, ◌≤◌, List, ◌++◌, length, take, drop, Option, sym, ◌∙◌, ap, arith, length-drop, take_all, take-add, drop-drop}
use Rattle.std.specs.Io.KnownBytes.{Appends}
use Rattle.std.proofs.KnownBytes.{Appends-trans}

-- the remaining bytes after k more, as a slice
abbrev pub remaining_slice : List ℕ → ℕ → List ℕ
remaining_slice rest k = take (length rest - k) (drop k rest)

left_is : (rest : List ℕ) (k : ℕ) → remaining_slice rest k ≡ drop k rest
left_is rest k = take_all (length rest - k) (drop k rest) (rw (length-drop k rest) (omega arith))

-- the number of bytes of the chunk that were taken, after k more
pub taken_count_after_write : (chunk rest : List ℕ) (k : ℕ) → rest ≡ drop (length chunk - length rest) chunk → k ≤ length rest
    → length chunk - length (remaining_slice rest k) ≡ (length chunk - length rest) + k
taken_count_after_write chunk rest k left small =
    let all : length rest ≡ length chunk - (length chunk - length rest) =
    ap (λ (t : List ℕ). length t) left ∙ length-drop (length chunk - length rest) chunk in
    rw (left_is rest k, length-drop k rest) (omega arith)

-- what remains after k more bytes is the end of the chunk
pub remaining_after_write : (chunk rest : List ℕ) (k : ℕ) → rest ≡ drop (length chunk - length rest) chunk → k ≤ length rest
    → remaining_slice rest k ≡ drop (length chunk - length (remaining_slice rest k)) chunk
remaining_after_write chunk rest k left small =
    left_is rest k ∙ ap (λ (t : List ℕ). drop k t) left
    ∙ drop-drop k (length chunk - length rest) chunk
    ∙ sym (ap (λ (n : ℕ). drop n chunk) (taken_count_after_write chunk rest k left small))

-- the bytes taken before and the next k bytes are together the first bytes of the chunk
pub front_after_write : (old mid new : Option (List ℕ)) (chunk rest : List ℕ) (k : ℕ)
    → Appends old mid (take (length chunk - length rest) chunk) → rest ≡ drop (length chunk - length rest) chunk
    → k ≤ length rest → Appends mid new (take k rest)
    → Appends old new (take (length chunk - length (remaining_slice rest k)) chunk)
front_after_write old mid new chunk rest k before left small more =
    let n : ℕ = length chunk - length rest in
    let whole : take n chunk ++ take k rest ≡ take (length chunk - length (remaining_slice rest k)) chunk =
    ap (λ (t : List ℕ). take n chunk ++ take k t) left ∙ sym (take-add n k chunk)
    ∙ sym (ap (λ (m : ℕ). take m chunk) (taken_count_after_write chunk rest k left small)) in
    rw (← whole) (Appends-trans old mid new (take n chunk) (take k rest) before more)
