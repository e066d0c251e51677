-- Sequences of stages: what the first stage made, and what no stage changes.
use Rattle.std.proofs.Common.{◌≡◌, List, [], ◌∷◌, Result, Ok, Err, refl, sym, ap, ◌∙◌}
use Rattle.bm_base.specs.ResultSteps.{◌>>=◌}
use Rattle.boot_model.specs.Stages.{run_each_stage}
use Rattle.stage_steps.specs.Steps.{StageStep, items_after_step}
use Rattle.boot_model.specs.declared.stop.Cause.{Cause}
use Rattle.boot_model.specs.Boot.{BootSoFar, stage_of_steps, finish_stage}

-- the first step went on with `middle`, and the other steps make `made` of it
pub record GoesBy {S E : Type 0} (answer : Result S E) (others : S → Result S E) (made : S) : Type 0 where
  pub middle : S
  pub first : answer ≡ Ok middle
  pub rest : others middle ≡ Ok made

pub goes_by : {S E : Type 0} (answer : Result S E) (others : S → Result S E) (made : S)
    → (answer >>= others) ≡ Ok made → GoesBy answer others made
goes_by (Ok middle) others made ends = record { middle = middle; first = refl; rest = ends }
goes_by (Err error) others made ends = absurd (cc)

-- if a sequence isn't stopped, its first stage wasn't either
pub passes : {S E : Type 0} (stage : S → Result S E) (stages : List (S → Result S E)) (state made : S)
    → run_each_stage (stage ∷ stages) state ≡ Ok made → GoesBy (stage state) (λ next. run_each_stage stages next) made
passes stage stages state made ends = goes_by (stage state) (λ next. run_each_stage stages next) made ends

-- the stage doesn't change this part of the state
abbrev pub Keeps : {S E A : Type 0} → (S → A) → (S → Result S E) → Type 0
Keeps part stage = (before items_after_step : _) → stage before ≡ Ok items_after_step → part items_after_step ≡ part before

abbrev pub AllKeep : {S E A : Type 0} → (S → A) → List (S → Result S E) → Type 0
AllKeep part [] = Unit {0}
AllKeep part (stage ∷ stages) = Keeps part stage × AllKeep part stages

-- if no stage of a sequence changes a part, the sequence doesn't either
pub chain_keeps : {S E A : Type 0} (part : S → A) (stages : List (S → Result S E)) → AllKeep part stages
    → (before items_after_step : S) → run_each_stage stages before ≡ Ok items_after_step → part items_after_step ≡ part before
chain_keeps part [] keep before items_after_step ends = let same : before ≡ items_after_step = cc in ap part (sym same)
chain_keeps part (stage ∷ stages) keep before items_after_step ends =
    let known = passes stage stages before items_after_step ends in
    chain_keeps part stages keep.1 known.middle items_after_step known.rest ∙ keep.0 before known.middle known.first

-- a stage of steps doesn't change a part if neither its items nor its value does
answer_keeps : {E A B : Type 0} (part : BootSoFar → B) (cause : E → Cause) (put : A → BootSoFar → BootSoFar) (next last : BootSoFar)
    (answer : Result A E)
    → ((a : A) (m : BootSoFar) → part (put a m) ≡ part m) → finish_stage cause put next answer ≡ Ok last → part last ≡ part next
answer_keeps part cause put next last (Ok a) puts ends = let same : put a next ≡ last = cc in ap part (sym same) ∙ puts a next
answer_keeps part cause put next last (Err error) puts ends = absurd (cc)

pub steps_keep : {E A B : Type 0} (part : BootSoFar → B) (cause : E → Cause) (put : A → BootSoFar → BootSoFar) (doing : StageStep E A)
    → ((a : A) (m : BootSoFar) → part (put a m) ≡ part m)
    → ((before : BootSoFar) → part (record before { items = items_after_step before.items (doing before.items) }) ≡ part before)
    → Keeps part (stage_of_steps cause put doing)
steps_keep part cause put doing puts items before last ends =
    answer_keeps part cause put (record before { items = items_after_step before.items (doing before.items) }) last
    (doing before.items).answer puts
    ends
    ∙ items before

-- the stage of steps ended with a value
pub record Answered {E A : Type 0} (put : A → BootSoFar → BootSoFar) (doing : StageStep E A) (before last : BootSoFar) : Type 0 where
  pub value : A
  pub answer : (doing before.items).answer ≡ Ok value
  pub same : last ≡ put value (record before { items = items_after_step before.items (doing before.items) })

answered : {E A : Type 0} (cause : E → Cause) (put : A → BootSoFar → BootSoFar) (next last : BootSoFar) (answer : Result A E)
    → finish_stage cause put next answer ≡ Ok last → (a : A) × (answer ≡ Ok a) × (last ≡ put a next)
answered cause put next last (Ok a) ends = let same : put a next ≡ last = cc in (a, refl, sym same)
answered cause put next last (Err error) ends = absurd (cc)

pub steps_answered : {E A : Type 0} (cause : E → Cause) (put : A → BootSoFar → BootSoFar) (doing : StageStep E A) (before last : BootSoFar)
    → stage_of_steps cause put doing before ≡ Ok last → Answered put doing before last
steps_answered cause put doing before last ends =
    let booted = answered cause put (record before { items = items_after_step before.items (doing before.items) }) last
    (doing before.items).answer
    ends in
    record { value = booted.0; answer = booted.1; same = booted.2 }
