-- Sequences of steps, each of which may fail, for definitions written with `do`.
use Rattle.std.specs.Prelude.{Result, Ok, Err}

-- passes the value of the first step to the second; the result is the first error, if there is one
infixl 10 ◌>>=◌
abbrev pub ◌>>=◌ : {A B E : Type 0} → Result A E → (A → Result B E) → Result B E
Ok a >>= step = step a
Err error >>= step = Err error

-- converts the error of a step to another type
abbrev pub map_error : {A E F : Type 0} → (E → F) → Result A E → Result A F
map_error convert (Ok a) = Ok a
map_error convert (Err error) = Err (convert error)
