-- The ends of two calls in turn.
use Rattle.growth_model.proofs.EndLaws.{EndsAsChange-second}
use Rattle.growth_model.proofs.laws.successive_calls_compose.Goals as goal

pub returns-clause-second : goal.returns-clause-second
returns-clause-second c = λ result old mid new first second was then.
    EndsAsChange-second {T = Unit {0}} {U = Unit {0}} tt result old mid new first second was then
