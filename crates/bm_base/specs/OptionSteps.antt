-- Sequences of steps, each of which may have no value, for definitions written with `do`.
use Rattle.std.specs.Prelude.{Bool, true, false, Option, Some, None}

-- the value of the second step, which gets the value of the first one; `None` if either step has
-- none
infixl 10 ◌>>=◌
abbrev pub ◌>>=◌ : {A B : Type 0} → Option A → (A → Option B) → Option B
None >>= step = None
Some a >>= step = step a

-- `Some` if the test is true; else `None`, so that the steps after it in a `do` are skipped
abbrev pub some_if : Bool → Option (Unit {0})
some_if true = Some tt
some_if false = None
