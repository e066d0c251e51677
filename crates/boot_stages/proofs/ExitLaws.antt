-- What is known when `?` returns an error.
use Rattle.std.proofs.Common.{◌≡◌, ◌∙◌, Result, Err, ap}
use Rattle.std.specs.Prelude.{IsErrAnd}
use Rattle.std.proofs.lemmas.Result.{err_from_is_err_and}

-- a result whose error `?` returns is that error
pub exit : {T E : Type 0} (r : Result T E) (e : E) → IsErrAnd r (λ y. y ≡ e) → r ≡ Err e
exit r e is = let p = err_from_is_err_and r is in p.1 ∙ ap (λ y. Err y) p.2
