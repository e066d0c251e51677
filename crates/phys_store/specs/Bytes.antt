-- Bytes at addresses, as contracts see them: the byte at each address, and the prepared addresses,
-- which can be written without allocating. A machine can write every address of its memory. This
-- program can write an address only after it has allocated memory for the byte (prepared the
-- address), and the allocation may fail.
use Rattle.std.specs.Prelude.{◌≡◌, ℕ, zero, suc, ◌+◌, ◌-◌, ◌<◌, ◌≤◌, Bool, false, ◌||◌, nat_le, nat_lt, if◌then◌else◌, List, [], ◌∷◌, length, slice_index, IsTrue}
use Rattle.bm_base.specs.Range.{covers}

-- consecutive bytes: the address of the first, and the bytes
pub record ExtentView : Type 0 where
  pub base : ℕ
  pub bytes : List ℕ

-- the address after the last byte
abbrev pub end_of_extent : ExtentView → ℕ
end_of_extent p = p.base + length p.bytes

-- whether the address is in the extent
abbrev pub is_in_extent : ExtentView → ℕ → Bool
is_in_extent p x = covers (record { base = p.base; size = length p.bytes }) x

-- the byte at an address: that of the first extent that has the address, or 0 if no extent has it
abbrev pub byte_of : List ExtentView → ℕ → ℕ
byte_of [] x = 0
byte_of (p ∷ ps) x = if is_in_extent p x then slice_index p.bytes (x - p.base) else byte_of ps x

-- whether the address is prepared (can be written without allocating): some extent has it
abbrev pub is_prepared_at : List ExtentView → ℕ → Bool
is_prepared_at [] x = false
is_prepared_at (p ∷ ps) x = is_in_extent p x || is_prepared_at ps x

-- each of the n addresses from `a` on is prepared: it can be written without allocating
abbrev pub ArePrepared : List ExtentView → ℕ → ℕ → Type 0
ArePrepared ps a n = (x : ℕ) → a ≤ x → x < a + n → IsTrue (is_prepared_at ps x)

-- the n bytes from address `a` on; the function gives the byte at each address
unfoldable pub bytes_at : (ℕ → ℕ) → ℕ → ℕ → List ℕ
bytes_at f a zero = []
bytes_at f a (suc n) = f a ∷ bytes_at f (a + 1) n

-- the effect of a write to the n bytes from address `a` on. Byte k of them, counted from 0,
-- becomes `g k`. Every other byte is unchanged, and no address has become prepared or unprepared.
pub record WritesBytes (old new : List ExtentView) (a n : ℕ) (g : ℕ → ℕ) : Type 0 where
  pub within : (k : ℕ) → k < n → byte_of new (a + k) ≡ g k
  pub outside : (x : ℕ) → IsTrue (nat_lt x a || nat_le (a + n) x) → byte_of new x ≡ byte_of old x
  pub ready : (x : ℕ) → is_prepared_at new x ≡ is_prepared_at old x
