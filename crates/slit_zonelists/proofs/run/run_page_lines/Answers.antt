-- The next line goes on from the state that the lines before it left.
use Rattle.std.proofs.Common.{◌≡◌, ◌+◌, List, ◌∷◌, ◌++◌, take, drop, get_or, Result, Ok, Err, OnErr, sym, ◌∙◌, ap, subst, arith, inr}
use Rattle.std.proofs.lemmas.List.{drop_more, take_more, take-append-drop}
use Rattle.bm_base.specs.declared.memory.Memory.{Memory}
use Rattle.bm_base.specs.declared.zone.Zone.TheVariants as zones
use Rattle.page_alloc.specs.declared.act.PageAct.TheVariants as acts
use Rattle.page_alloc.specs.declared.act.PageLine.{PageLine}
use Rattle.page_alloc.specs.declared.outcome.PageAnswer.{PageAnswer}
use Rattle.page_alloc.specs.declared.outcome.PageOutcome.{PageOutcome}
use Rattle.page_alloc.specs.PagesView.{page_state_of}
use Rattle.page_alloc.specs.Pages.{PageState, HaveValidOrders, NeedsMemory}
use Rattle.slit_zonelists.specs.Near.{page_step_by_distance, page_answers_of, page_state_after}
use Rattle.slit_zonelists.proofs.LineLaws.{answers_on, after_more}
use Rattle.slit_zonelists.proofs.run.run_page_lines.Goals as goal

abbrev nothing : PageLine
nothing = record { number = 0; act = acts.Pages 0 0 0 zones.Dma }

pub loop-line-preserved : goal.loop-line-preserved
loop-line-preserved c =
    let i = c.loop-line.line-index in
    let lines = c.args.lines.now in
    let k = c.args.lists.now in
    let line = get_or lines i nothing in
    let rest = drop (i + 1) lines in
    let more : drop i lines ≡ line ∷ rest = drop_more lines i nothing c.loop-line-test.true in
    let s = page_state_of c.loop-line.pages in
    let t = page_state_of c.run_page_line.new.pages in
    let o = c.in_ok-outcome.outcome in
    let told = c.loop-line.answers.items in
    let is = c.in_ok-outcome.ensures.ok in
    let old = page_state_of c.args.pages.now in
    record {
      orders = (subst (λ (ls : List PageLine). HaveValidOrders ls) more c.loop-line.invariant.orders).1;
      made = c.in_ok-outcome.ensures.made;
      told = ap (λ (now : List PageAnswer). now ++ page_answers_of k t rest) c.push_within_capacity.ensures.items
          ∙ answers_on k s t line rest told o is
          ∙ ap (λ (ls : List PageLine). told ++ page_answers_of k s ls) (sym more) ∙ c.loop-line.invariant.told;
      so_far = after_more k old t (take i lines) line o
          (subst (λ (u : PageState). (let p : PageOutcome × PageState = (o, t) in p)
          ≡ page_step_by_distance k u line.act) c.loop-line.invariant.so_far is)
          ∙ ap (λ (ls : List PageLine). page_state_after k old ls) (sym (take_more lines i nothing c.loop-line-test.true));
      room =
          let room = c.loop-line.invariant.room in
          let len = c.push_within_capacity.ensures.len in
          let capacity = c.push_within_capacity.ensures.capacity in
          omega (arith, room, len, capacity);
    }

-- what always holds, holds of each error
on_err : {X : Type 0} → (r : Result X Memory) (P : Type 0) → P → OnErr r P
on_err (Ok x) P holds = tt
on_err (Err memory) P holds = holds

pub returns-in_err-outcome-clause-memory : goal.returns-in_err-outcome-clause-memory
returns-in_err-outcome-clause-memory c =
    let i = c.loop-line.line-index in
    let lines = c.args.lines.now in
    let line = get_or lines i nothing in
    let so_far = c.loop-line.invariant.so_far in
    let more = drop_more lines i nothing c.loop-line-test.true in
    on_err c.from_residual-in_err-outcome.result _ (inr (record {
      before = take i lines;
      element = line;
      after = drop (i + 1) lines;
      is = sym (take-append-drop i lines) ∙ ap (λ (ls : List PageLine). take i lines ++ ls) more;
      holds = (
        subst
            (λ (u : PageState). NeedsMemory (page_step_by_distance c.args.lists.now u line.act).0) so_far c.in_err-outcome.ensures.memory,
        ap page_state_of c.in_err-outcome.ensures.err ∙ so_far,
      );
    }))
