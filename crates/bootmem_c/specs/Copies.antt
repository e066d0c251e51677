-- How texts that the program wrote are copied to buffers that the caller passes.
use Rattle.std.specs.Prelude.{◌≡◌, ℕ, ◌-◌, ◌^◌, ◌≤◌, ◌<◌, Bool, if◌then◌else◌, List, ◌++◌, drop, length}
use Rattle.bootmem_c.specs.declared.crossing.Text.{Text}

-- the buffer `new` begins with the text, and after it has the bytes that the buffer `old` had
-- there
abbrev pub BeginsWithText : List ℕ → (old new : List ℕ) → Type 0
BeginsWithText text old new = new ≡ text ++ drop (length text) old

-- `needed` is the length of the text. If the text fits, the buffer begins with it; otherwise the
-- buffer is unchanged.
pub record CopiesText (text : List ℕ) (old new : Text) : Type 0 where
  pub needed : new.needed ≡ length text
  pub fits : length text ≤ length old.room.now → BeginsWithText text old.room.now new.room.now
  pub short : length old.room.now < length text → new.room.now ≡ old.room.now

-- the text so far, and whether part of it is missing because memory ran out
pub record TextSinkView : Type 0 where
  pub text : List ℕ
  pub is_short : Bool

-- the counter of writes that failed because memory ran out: 0 until the first of them, and 2^64 -
-- 1 from then on
abbrev pub failed_writes_of : TextSinkView → ℕ
failed_writes_of written = if written.is_short then 2 ^ 64 - 1 else 0
