-- Where a call that goes through a list stops early.
use Rattle.std.specs.Prelude.{◌≡◌, List, ◌∷◌, ◌++◌}

-- a call that goes through the list `xs` stopped at `element`, with the elements `before` done.
-- `Holds before element` says what holds then.
pub record StopsAtElement {T : Type 0} (Holds : List T → T → Type 0) (xs : List T) : Type 0 where
  pub before : List T
  pub element : T
  pub after : List T
  pub is : xs ≡ before ++ element ∷ after
  pub holds : Holds before element
