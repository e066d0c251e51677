-- Calls that each end as their stage's definition says end together as the sequence of these
-- stages.
use Rattle.std.proofs.Common.{◌≡◌, ◌≢◌, ⊎_elim, ℕ, ◌≤◌, List, [], ◌∷◌, ◌++◌, Option, Some, None, Result, Ok, Err, refl, ◌∙◌, sym, ap, arith}
use Rattle.std.specs.Prelude.{IfErr, IsErrAnd}
use Rattle.std.proofs.lemmas.Result.{err_from_is_err_and}
use Rattle.bm_base.specs.Range.{RangeView}
use Rattle.bm_base.specs.ResultSteps.{◌>>=◌, map_error}
use Rattle.address_runs.specs.Runs.{RunOf}
use Rattle.memblock_model.specs.declared.item.Item.{Item}
use Rattle.memblock_model.specs.Labels.{Labels}
use Rattle.growth_model.specs.Bytes.{Fill}
use Rattle.memblock_grow.specs.MemblockView.{MemblockView}
use Rattle.script_reader.specs.declared.act.Line.{Line}
use Rattle.stage_steps.specs.Steps.{StageStep, EndsAsStage}
use Rattle.stage_steps.specs.Nodes.{IsMemoryWithNodes}
use Rattle.memblock_grow.specs.Continues.{ContinuesMemblock}
use Rattle.early_script.specs.declared.outcome.Answer.{Answer}
use Rattle.early_script.specs.LiveView.{LiveView}
use Rattle.early_script.specs.Lines.{ScriptSoFar as Script, MatchesScriptSoFar, script_after_lines, script_so_far}
use Rattle.boot_model.specs.declared.stop.Cause.{Cause}
use Rattle.boot_model.specs.declared.stop.Stop.{Stop}
use Rattle.boot_model.specs.declared.stop.Stop.TheVariants as stops
use Rattle.boot_model.specs.Boot.{InputsView, BootSoFar, Stage, begin_with_map, claims_stage, claims_state, with_claims_state, with_script_state, stage_of_steps, script_stage}
use Rattle.boot_model.specs.Stages.{run_each_stage}
use Rattle.boot_model.specs.Stop.{stop_of_error, stop_of}
use Rattle.boot_stages.specs.Boots.{HasBytesOfHistory, made_after_lines}
use Rattle.boot_stages.proofs.BytesLaws.{holds-after}

-- memory whose nodes lie below one limit has them below every greater limit
pub noded-within : (near far : ℕ) (f : Labels) → IsMemoryWithNodes near f → near ≤ far → IsMemoryWithNodes far f
noded-within near far f noded low = record {
  frames = noded.frames;
  nodes = noded.nodes;
  within = λ x past. noded.within x (omega (arith, past, low));
}

-- a stop in the first stages stops the whole sequence
pub stopped : {A : Type 0} (said : Result BootSoFar Cause) (later : BootSoFar → Result A Cause) (stop : Stop)
    → map_error stop_of said ≡ Err stop → map_error stop_of (said >>= later) ≡ Err stop
stopped (Ok made) later stop is = absurd (cc)
stopped (Err cause) later stop is = cc

-- a sequence in two parts ends as its first part followed by its second
further : (said : Result BootSoFar Cause) (first rest all : BootSoFar → Result BootSoFar Cause)
    → ((next : BootSoFar) → all next ≡ (first next >>= rest)) → (said >>= all) ≡ ((said >>= first) >>= rest)
further (Ok next) first rest all each = each next
further (Err cause) first rest all each = refl

run_each_stage-append : (stages more : List Stage) (made : BootSoFar)
    → run_each_stage (stages ++ more) made ≡ (run_each_stage stages made >>= λ next. run_each_stage more next)
run_each_stage-append [] more made = refl
run_each_stage-append (s ∷ stages) more made =
    further (s made) (run_each_stage stages) (run_each_stage more) (run_each_stage (stages ++ more)) (run_each_stage-append stages more)

-- how a call that carries out a stage of steps ends
module _ {E F A : Type 0} (cause : E → Cause) (put : A → BootSoFar → BootSoFar) (error : Option E → F) (doing : StageStep E A)
    (made : BootSoFar) (new : List Item) where
  pub steps-on : (a : A) → EndsAsStage doing error (Ok a) made.items new
      → stage_of_steps cause put doing made ≡ Ok (put a (record made { items = new }))
  steps-on a ends = rw (ends.0, ends.1) refl

  pub steps-stop : (e : F) (stop : Stop) → EndsAsStage {A = A} doing error (Err e) made.items new
      → ((why : Option E) → e ≡ error why → stop ≡ stop_of_error cause why) → stop ≢ stops.Memory
      → map_error stop_of (stage_of_steps cause put doing made) ≡ Err stop
  steps-stop e stop ends later_answers other = ⊎_elim
      (λ stopped. rw stopped.1 (ap (λ (s : Stop). Err s) (sym (later_answers (Some stopped.0) stopped.2))))
      (λ cut. absurd (other (later_answers None cut.0))) ends

-- What is known once `stages` have run: they end with `base`, except for memblock and for the live
-- IDs, fills and answers of the early script.
pub record Row (inputs : InputsView) (map : List (RunOf ℕ)) (stages : List Stage) (base : BootSoFar) (m : MemblockView) (ids : LiveView)
    (answers : List Answer) : Type 0 where
  pub fills : List Fill
  pub come : run_each_stage stages (begin_with_map map inputs.options) ≡ Ok (made_after_lines base m ids fills answers)
  pub kernel : m.kernel ≡ inputs.kernel
  pub holds : HasBytesOfHistory fills m

pub row-first : (inputs : InputsView) (map : List (RunOf ℕ)) (m : MemblockView) → m.journal.items ≡ [] → m.kernel ≡ inputs.kernel
    → HasBytesOfHistory [] m
    → Row inputs map [] (begin_with_map map inputs.options) m [] []
row-first inputs map m none kernel holds = record {
  fills = [];
  come = ap (λ (items : List Item). Ok (record (begin_with_map map inputs.options) { items = items })) (sym none);
  kernel = kernel;
  holds = holds;
}

module _ {inputs : InputsView} {map : List (RunOf ℕ)} {stages : List Stage} {base : BootSoFar} {m : MemblockView} {ids : LiveView}
    {answers : List Answer} (row : Row inputs map stages base m ids answers) where
  one-more : (s : Stage) (next : BootSoFar) → s (made_after_lines base m ids row.fills answers) ≡ Ok next
      → run_each_stage (stages ++ s ∷ []) (begin_with_map map inputs.options) ≡ Ok next
  one-more s next goes =
      run_each_stage-append stages (s ∷ []) (begin_with_map map inputs.options)
      ∙ ap (λ (said : Result BootSoFar Cause). said >>= λ n. run_each_stage (s ∷ []) n) row.come
      ∙ ap (λ (said : Result BootSoFar Cause). said >>= λ n. Ok n) goes

  -- one more stage over memblock has run
  pub row-next : (s : Stage) (later : BootSoFar) (n : MemblockView)
      → ((fills : List Fill) → s (made_after_lines base m ids fills answers) ≡ Ok (made_after_lines later n ids fills answers))
      → ContinuesMemblock m n → Row inputs map (stages ++ s ∷ []) later n ids answers
  row-next s later n goes goes_on = record {
    fills = row.fills;
    come = one-more s (made_after_lines later n ids row.fills answers) (goes row.fills);
    kernel = goes_on.kernel ∙ row.kernel;
    holds = holds-after row.fills m n goes_on row.holds;
  }

  -- lines of the early script have run
  reached_is : (s : Script) (later : LiveView) (n : MemblockView) (later_answers : List Answer) → MatchesScriptSoFar s later n later_answers
      → with_script_state (made_after_lines base m ids row.fills answers) s ≡ made_after_lines base n later s.fills later_answers
  reached_is s later n later_answers reached = cc (reached.state, reached.answers_are)

  pub row-lines : (lines : List Line) (later : LiveView) (n : MemblockView) (later_answers : List Answer) → n.kernel ≡ m.kernel
      → MatchesScriptSoFar (script_after_lines (script_so_far ids m row.fills answers) lines) later n later_answers
      → Row inputs map (stages ++ script_stage inputs.kernel lines ∷ []) base n later later_answers
  row-lines lines later n later_answers same reached =
      let s : Script = script_after_lines (script_so_far ids m row.fills answers) lines in
      record {
        fills = s.fills;
        come = one-more (script_stage inputs.kernel lines) (made_after_lines base n later s.fills later_answers)
            (ap (λ (k : RangeView). script_stage k lines (made_after_lines base m ids row.fills answers)) (sym row.kernel)
            ∙ ap (λ (made : BootSoFar). Ok made) (reached_is s later n later_answers reached));
        kernel = same ∙ row.kernel;
        holds = reached.holds;
      }

  -- the lines of early claims have run
  claimed_is : (s : Script) (later : LiveView) (n : MemblockView) (later_answers : List Answer) → MatchesScriptSoFar s later n later_answers
      → with_claims_state (made_after_lines base m ids row.fills answers) s
      ≡ made_after_lines (record base { claim_answers = later_answers }) n later s.fills answers
  claimed_is s later n later_answers reached = cc (reached.state, reached.answers_are)

  pub row-claims : (lines : List Line) (later : LiveView) (n : MemblockView) (later_answers : List Answer) → n.kernel ≡ m.kernel
      → MatchesScriptSoFar (script_after_lines (script_so_far ids m row.fills base.claim_answers) lines) later n later_answers
      → Row inputs map (stages ++ claims_stage inputs.kernel lines ∷ []) (record base { claim_answers = later_answers }) n later answers
  row-claims lines later n later_answers same reached =
      let s : Script = script_after_lines (script_so_far ids m row.fills base.claim_answers) lines in
      record {
        fills = s.fills;
        come = one-more (claims_stage inputs.kernel lines)
            (made_after_lines (record base { claim_answers = later_answers }) n later s.fills answers)
            (ap (λ (k : RangeView). claims_stage k lines (made_after_lines base m ids row.fills answers)) (sym row.kernel)
            ∙ ap (λ (made : BootSoFar). Ok made) (claimed_is s later n later_answers reached));
        kernel = same ∙ row.kernel;
        holds = reached.holds;
      }

  -- if a stage stops, the boot stops
  pub row-stops : (s : Stage) (rest : List Stage) (stop : Stop)
      → map_error stop_of (s (made_after_lines base m ids row.fills answers)) ≡ Err stop
      → map_error stop_of (run_each_stage (stages ++ s ∷ rest) (begin_with_map map inputs.options)) ≡ Err stop
  row-stops s rest stop stops_so =
      ap (map_error stop_of) (run_each_stage-append stages (s ∷ rest) (begin_with_map map inputs.options)
      ∙ ap (λ (said : Result BootSoFar Cause). said >>= λ n. run_each_stage (s ∷ rest) n) row.come)
      ∙ stopped (s (made_after_lines base m ids row.fills answers)) (λ n. run_each_stage rest n) stop stops_so

-- what is known of a result's error holds for the error that `?` returns
pub stops-so : {T : Type 0} (r : Result T Stop) (Told P : Stop → Type 0) → IsErrAnd r Told → ((stop : Stop) → Told stop → P stop)
    → IfErr r P
stops-so r Told P is each = let p = err_from_is_err_and r is in rw p.1 (each p.0 p.2)
