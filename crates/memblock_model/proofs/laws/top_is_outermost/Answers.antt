-- `outermost_fit` returns the greatest address below 2^64 at which the query fits, or the least.
use Rattle.std.proofs.Common.{◌≡◌, ℕ, ◌<◌, ◌≤◌, Bool, true, false, Some}
use Rattle.memblock_model.specs.Search.{outermost_below, outermost_fit}
use Rattle.memblock_model.proofs.SearchLaws.{last_below-is, first_below-is, outermost_fit-fits, outermost_fit-none}
use Rattle.memblock_model.proofs.laws.top_is_outermost.Goals as goal

greatest : (up : Bool) (p : ℕ → Bool) (n a b : ℕ) → up ≡ false → outermost_below up p n ≡ Some a → b < n → p b ≡ true → b ≤ a
greatest false p n a b down h lt passes = (last_below-is p n a h).last b lt passes
greatest true p n a b down h lt passes = cc

least : (up : Bool) (p : ℕ → Bool) (n a b : ℕ) → up ≡ true → outermost_below up p n ≡ Some a → b < n → p b ≡ true → a ≤ b
least true p n a b upward h lt passes = (first_below-is p n a h).first b lt passes
least false p n a b upward h lt passes = cc

pub returns-clause-fits : goal.returns-clause-fits
returns-clause-fits c = λ mode memory reserved q a h. outermost_fit-fits mode memory reserved q a h

pub returns-clause-greatest : goal.returns-clause-greatest
unfolding outermost_fit
returns-clause-greatest c = λ mode memory reserved q a b down h. greatest mode.up _ _ a b down h

pub returns-clause-least : goal.returns-clause-least
unfolding outermost_fit
returns-clause-least c = λ mode memory reserved q a b up h. least mode.up _ _ a b up h

pub returns-clause-none : goal.returns-clause-none
returns-clause-none c = λ mode memory reserved q b h. outermost_fit-none mode memory reserved q h b
