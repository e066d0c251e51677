-- The result for the block that was picked, or for none.
use Rattle.std.proofs.Common.{◌≡◌, ◌⊎◌, ◌*◌, None, Result, inl, inr, sym, ◌∙◌, subst, arith, rules}
use Rattle.std.specs.Prelude.{IfOk}
use Rattle.std.specs.Ordering.{nat_cmp}
use Rattle.std.specs.BTreeMap.{insert_entry}
use Rattle.bm_base.specs.declared.range.TheConstants.{FRAME_SIZE}
use Rattle.bm_base.specs.declared.memory.Memory.{Memory}
use Rattle.address_runs.specs.Runs.{IsRunsOf}
use Rattle.buddy_handover.specs.BuddyView.{BuddyView, node_of_free_frame}
use Rattle.buddy_blocks.specs.Buddies.{without_set}
use Rattle.buddy_blocks.specs.PickedBlock.{picked_first_frame}
use Rattle.page_alloc.specs.declared.act.PageAct.TheVariants as acts
use Rattle.page_alloc.specs.declared.outcome.Held.{Held}
use Rattle.page_alloc.specs.declared.outcome.PageOutcome.{PageOutcome}
use Rattle.page_alloc.specs.declared.outcome.PageOutcome.TheVariants as outcomes
use Rattle.page_alloc.specs.PagesView.{PagesView, frames_held_by, page_state_of}
use Rattle.page_alloc.specs.FramePlaces.{IsValidPageState}
use Rattle.page_alloc.specs.Pages.{PageState, page_step}
use Rattle.page_alloc.proofs.BookLaws.{took, took_none, nothing_is, kept_by}
use Rattle.page_alloc.proofs.KeptLaws.{picked_set}
use Rattle.page_alloc.proofs.pages.Pages.take.Goals.{in-Ok-take, in-Err-NoBlock, in-Err-Memory, then-has_block, else-has_block}
use Rattle.page_alloc.proofs.pages.Pages.take.Goals as goal

pub overflow_mul-result : goal.overflow_mul-result
overflow_mul-result c =
    let low = (picked_set
    (node_of_free_frame c.self.inside.buddy) _ c.in-Ok-take.first _ _ c.self.invariant.low c.in-Ok-take.ensures.first).low in
    omega (arith, low)

abbrev before : goal.Joined-take → PagesView
before c = record { buddy = c.self.inside.buddy; ids = c.self.inside.ids.entries }

abbrev later : goal.Joined-take → PagesView
later c = record { buddy = c.match-take.self-inside.buddy; ids = c.match-take.self-inside.ids.entries }

abbrev Came : goal.Joined-take → Result PageOutcome Memory → Type 0
Came c r = IfOk r (λ outcome. (let p : PageOutcome × PageState = (outcome, page_state_of (later c)) in p)
    ≡ page_step (page_state_of (before c)) (acts.Pages c.args.id c.args.order c.args.node c.args.zone))
    × IfOk r (λ outcome. (outcome ≡ outcomes.Taken) ⊎ (outcome ≡ outcomes.NoBlock) → later c ≡ before c)

came : (c : goal.Joined-take) → Came c c.match-take.result × IsValidPageState (page_state_of (later c))
came c =
    let id = c.args.id in
    let es = c.self.inside.ids.entries in
    let none : frames_held_by es id ≡ None = rw c.in-Vacant.is at c.in-Ok.ensures.found in
    elim c.match-take.branch as (λ _. Came c c.match-take.result × IsValidPageState (page_state_of (later c))) [
      | in-Ok-take w ↦
          let first = w.in-Ok-take.first in
          let what : Held = record { first = first; order = c.args.order; node = c.args.node } in
          let entries : c.match-take.self-inside.ids.entries ≡ insert_entry nat_cmp es id what = search rules in
          let buddy : c.match-take.self-inside.buddy ≡ c.take.new.self = search rules in
          let runs = subst (λ (d : BuddyView). IsRunsOf (without_set c.args.order first (node_of_free_frame c.self.inside.buddy)) d.runs)
          (sym buddy)
          w.in-Ok-take.ensures.runs in
          let picked = w.in-Ok-take.ensures.first in
          let is = took (before c) (later c) id c.args.order c.args.node c.args.zone first none picked runs entries in (
            subst (λ (r : Result PageOutcome Memory). Came c r) (sym w.result-is) (
              is,
              λ refused. elim refused [
                | inl taken ↦ cc taken
                | inr nothing ↦ cc nothing
              ],
            ),
            kept_by (before c) (later c) (outcomes.At (FRAME_SIZE * first)) (acts.Pages id c.args.order c.args.node c.args.zone)
                c.requires c.self.invariant is,
          )
      | in-Err-NoBlock w ↦
          let entries : c.match-take.self-inside.ids.entries ≡ es = search rules in
          let buddy : c.match-take.self-inside.buddy ≡ c.self.inside.buddy = search rules in
          let same : later c ≡ before c = λ i. record { buddy = buddy i; ids = entries i } in
          let is = took_none (before c) (later c) id c.args.order c.args.node c.args.zone none
          (w.in-Err-NoBlock.ensures.none w.in-Err-NoBlock.field-0-is) same in (
            subst (λ (r : Result PageOutcome Memory). Came c r) (sym w.result-is) (is, λ refused. same),
            subst (λ (d : PagesView). IsValidPageState (page_state_of d)) (sym same) c.self.invariant,
          )
      | in-Err-Memory w ↦
          let entries : c.match-take.self-inside.ids.entries ≡ es = search rules in
          let buddy : c.match-take.self-inside.buddy ≡ c.self.inside.buddy = search rules in
          let same : later c ≡ before c = λ i. record { buddy = buddy i; ids = entries i } in (
            subst (λ (r : Result PageOutcome Memory). Came c r) (sym w.result-is) (tt, tt),
            subst (λ (d : PagesView). IsValidPageState (page_state_of d)) (sym same) c.self.invariant,
          )
    ]

pub invariant_of-self-in-Vacant : goal.invariant_of-self-in-Vacant
invariant_of-self-in-Vacant c = (came c).1

pub returns-after-take-clause-ok : goal.returns-after-take-clause-ok
returns-after-take-clause-ok c =
    subst (λ (d : PagesView). IfOk c.match-take.result (λ outcome.
    (let p : PageOutcome × PageState = (outcome, page_state_of (later c)) in p)
    ≡ page_step (page_state_of d) (acts.Pages c.args.id c.args.order c.args.node c.args.zone)))
    c.self.view_is (came c).0.0

-- the program ran out of memory for the ID, but no block would serve the request anyway
pub returns-in_default-clause-ok : goal.returns-in_default-clause-ok
returns-in_default-clause-ok c =
    let id = c.args.id in
    let es = c.self.inside.ids.entries in
    let b : PagesView = record { buddy = c.self.inside.buddy; ids = es } in
    let after : PagesView = record { buddy = c.self.inside.buddy; ids = c.entry.follows.lender-at-none.entries } in
    let entries : c.entry.follows.lender-at-none.entries ≡ es = search rules in
    let same : after ≡ b = λ i. record { buddy = c.self.inside.buddy; ids = entries i } in
    let none : frames_held_by es id ≡ None = c.in_default.ensures.absent in
    let act = acts.Pages id c.args.order c.args.node c.args.zone in
    elim c.if-has_block.branch as (λ _.
    IfOk c.if-has_block.result (λ outcome. (let p : PageOutcome × PageState = (outcome, page_state_of after) in p)
    ≡ page_step (page_state_of c.args.self.now) act)) [
      | then-has_block w ↦
          subst (λ (r : Result PageOutcome Memory). IfOk r (λ outcome.
          (let p : PageOutcome × PageState = (outcome, page_state_of after) in p)
          ≡ page_step (page_state_of c.args.self.now) act)) (sym w.result-is) tt
      | else-has_block w ↦
          let picked = nothing_is (picked_first_frame (node_of_free_frame b.buddy) c.args.node c.args.zone c.args.order)
          (sym c.has_block.ensures ∙ w.if-has_block.false) in
          subst (λ (r : Result PageOutcome Memory). IfOk r (λ outcome.
          (let p : PageOutcome × PageState = (outcome, page_state_of after) in p)
          ≡ page_step (page_state_of c.args.self.now) act)) (sym w.result-is)
          (subst (λ (d : PagesView). (let p : PageOutcome × PageState = (outcomes.NoBlock, page_state_of after) in p)
          ≡ page_step (page_state_of d) act)
          c.self.view_is
          (took_none b after id c.args.order c.args.node c.args.zone none picked same))
    ]
