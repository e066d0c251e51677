-- What contracts know of bytes outside the program. The contents of a stream or of files are
-- `None` if unknown, and then these relations say nothing.
use Rattle.std.specs.Prelude.{◌≡◌, ℕ, ◌<◌, ◌≤◌, List, [], length, take, Option, Some, None, IfSome}
use Rattle.std.specs.Io.KnownBytes.{Keeps, Appends, Consumes, IsAtEnd}

-- a write took the first n bytes, or failed and took none
abbrev pub TakesKnown : Option (List ℕ) → Option (List ℕ) → List ℕ → Option ℕ → Type 0
TakesKnown old new bytes None = Keeps old new
TakesKnown old new bytes (Some n) = Appends old new (take n bytes)

-- a read returned the next bytes of the file (no byte only at its end), or failed and consumed
-- nothing
abbrev pub GivesKnown : Option (List ℕ) → Option (List ℕ) → Option (List ℕ) → Type 0
GivesKnown old new None = Keeps old new
GivesKnown old new (Some bytes) = Consumes old new bytes × (bytes ≡ [] → IsAtEnd new)

-- the file with this name has these bytes, unless the contents of files are unknown
abbrev pub IsKnownAs : Option (List ℕ → Option (List ℕ)) → List ℕ → List ℕ → Type 0
IsKnownAs holds name bytes = IfSome holds (λ held. held name ≡ Some bytes)

-- the file with this name has more bytes than the limit, unless the contents of files are unknown
abbrev pub IsKnownLonger : Option (List ℕ → Option (List ℕ)) → List ℕ → ℕ → Type 0
IsKnownLonger holds name limit =
    IfSome holds (λ held. (bytes : List ℕ) × (held name ≡ Some bytes) × (limit < length bytes))

-- the output grew by the first bytes of the chunk (none, some or all), unless its contents are
-- unknown
abbrev pub AppendsFront : Option (List ℕ) → Option (List ℕ) → List ℕ → Type 0
AppendsFront old new chunk = (n : ℕ) × (n ≤ length chunk) × Appends old new (take n chunk)
