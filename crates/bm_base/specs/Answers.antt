-- The result of a call that allocates: that of its definition, or out of memory.
use Rattle.std.specs.Prelude.{◌≡◌, ◌≢◌, Result, Ok, Err}

-- the call returned the result `expected`, which its definition gives, or the error `memory`, which
-- means out of memory. `view` converts the call's value to the type of the definition's value.
abbrev pub Answers : {A B E : Type 0} → E → (A → B) → Result A E → Result B E → Type 0
Answers memory view (Ok x) expected = expected ≡ Ok (view x)
Answers memory view (Err error) expected = error ≢ memory → expected ≡ Err error
