-- If several runs overlap, the value of the first one holds.
use Rattle.std.specs.Prelude.{◌≡◌, refl, Option, Some, None}
use Rattle.std.specs.Option.{option_or}

module _ {X : Type 0} where
  -- `option_or` joins two values by keeping the first one, or the second if the first is `None`.
  -- These three laws say that `None` changes no value, on either side, and that joining is
  -- associative.
  pub first_none : (v : Option X) → option_or None v ≡ v
  first_none v = refl

  pub first_alone : (v : Option X) → option_or v None ≡ v
  first_alone None = refl
  first_alone (Some v) = refl

  pub first_grouped : (u v w : Option X) → option_or (option_or u v) w ≡ option_or u (option_or v w)
  first_grouped None v w = refl
  first_grouped (Some u) v w = refl
