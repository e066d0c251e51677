-- Lemmas on what contracts see of the page allocator, as a state.
use Rattle.std.proofs.Common.{◌≡◌, ℕ, ◌*◌, ◌==◌, Bool, true, false, cond, is_some, Option, Some, None, IsSome, List, [], ◌∷◌, refl, sym, ◌∙◌, ap, subst, arith}
use Rattle.std.proofs.lemmas.Bool.{eqb-true}
use Rattle.std.proofs.lemmas.Bool.Decides.{nat_tests}
use Rattle.std.specs.declared.cmp.Ordering.{Ordering}
use Rattle.std.specs.declared.cmp.Ordering.TheVariants.{Less, Equal, Greater}
use Rattle.std.specs.Ordering.{nat_cmp, match_ordering}
use Rattle.std.specs.BTreeMap.{is_at, insert_entry}
use Rattle.bm_base.specs.declared.range.TheConstants.{FRAME_SIZE}
use Rattle.bm_base.specs.declared.zone.Zone.{Zone}
use Rattle.address_runs.specs.Runs.{IsRunsOf}
use Rattle.buddy_handover.specs.BuddyView.{node_of_free_frame}
use Rattle.buddy_blocks.specs.Frames.{Frames}
use Rattle.buddy_blocks.specs.PickedBlock.{picked_first_frame}
use Rattle.buddy_blocks.specs.Buddies.{without_set}
use Rattle.page_alloc.specs.declared.act.PageAct.{PageAct}
use Rattle.page_alloc.specs.declared.act.PageAct.TheVariants as acts
use Rattle.page_alloc.specs.declared.outcome.Held.{Held}
use Rattle.page_alloc.specs.declared.outcome.PageOutcome.{PageOutcome}
use Rattle.page_alloc.specs.declared.outcome.PageOutcome.TheVariants as outcomes
use Rattle.page_alloc.specs.PagesView.{PagesView, frames_held_by, page_state_of}
use Rattle.page_alloc.specs.FramePlaces.{IsValidPageState}
use Rattle.page_alloc.specs.Pages.{PageState, with_held_frames, allocate_frames, allocate_unless_id_holds, page_step, HasValidOrder, NeedsMemory}
use Rattle.page_alloc.proofs.KeptLaws.{step_kept}
use Rattle.free_areas.proofs.OrderLaws.{number_equal}

-- two states are the same if they agree on each frame and each ID
pub state_is : (f g : Frames) (h k : ℕ → Option Held) → ((x : ℕ) → f x ≡ g x) → ((i : ℕ) → h i ≡ k i)
    → (let s : PageState = record { frames = f; held = h } in s) ≡ (let t : PageState = record { frames = g; held = k } in t)
state_is f g h k one two = λ i. record { frames = λ x. one x i; held = λ q. two q i }

-- the key of the map is the ID
pub key_is : (id q : ℕ) → is_at (nat_cmp id) q ≡ (id == q)
key_is id q = grind (arith, nat_tests)

pub changed : (id q : ℕ) (what : Option Held) (held : ℕ → Option Held) (o : Option Held) → o ≡ cond (is_at (nat_cmp id) q) what (held q)
    → o ≡ with_held_frames id what held q
changed id q what held o is = is ∙ ap (λ b. cond b what (held q)) (key_is id q)

cmp_self : (n : ℕ) → nat_cmp n n ≡ Equal
cmp_self n = grind (arith, nat_tests)

swapped : (s t : Bool) (a b c : Option Held) → (s ≡ true → t ≡ true → ⊥) → cond s a (cond t b c) ≡ cond t b (cond s a c)
swapped true true a b c apart = absurd (apart refl refl)
swapped true false a b c apart = refl
swapped false true a b c apart = refl
swapped false false a b c apart = refl

over : (s : Bool) (a b c : Option Held) → cond s a c ≡ cond s a (cond s b c)
over true a b c = refl
over false a b c = refl

found : (q id : ℕ) → is_at (nat_cmp q) id ≡ true → q ≡ id
found q id is = eqb-true q id (sym (key_is q id) ∙ is)

put_in : (id q : ℕ) (what : Held) (es : List (ℕ × Held))
    → frames_held_by (insert_entry nat_cmp es id what) q ≡ cond (is_at (nat_cmp q) id) (Some what) (frames_held_by es q)
put_in id q what [] = refl
put_in id q what (e ∷ es) = by (nat_cmp id e.0) refl (put_in id q what es)
  where
    by : (r : Ordering) → nat_cmp id e.0 ≡ r
        → frames_held_by (insert_entry nat_cmp es id what) q ≡ cond (is_at (nat_cmp q) id) (Some what) (frames_held_by es q)
        → frames_held_by (match_ordering r ((id, what) ∷ e ∷ es) ((e.0, what) ∷ es) (e ∷ insert_entry nat_cmp es id what)) q
        ≡ cond (is_at (nat_cmp q) id) (Some what) (frames_held_by (e ∷ es) q)
    by Less is later = refl
    by Equal is later =
        over (is_at (nat_cmp q) e.0) (Some what) (Some e.1) (frames_held_by es q)
        ∙ ap (λ k. cond (is_at (nat_cmp q) k) (Some what) (frames_held_by (e ∷ es) q)) (sym (number_equal id e.0 is))
    by Greater is later =
        ap (λ (o : Option Held). cond (is_at (nat_cmp q) e.0) (Some e.1) o) later
        ∙ swapped (is_at (nat_cmp q) e.0) (is_at (nat_cmp q) id) (Some e.1) (Some what) (frames_held_by es q)
        (λ at_e at_id.
        let same : id ≡ e.0 = sym (found q id at_id) ∙ found q e.0 at_e in
        cc (is, cmp_self e.0, ap (λ k. nat_cmp k e.0) same))

tests_alike : (id q : ℕ) → is_at (nat_cmp q) id ≡ is_at (nat_cmp id) q
tests_alike id q = grind (arith, nat_tests)

-- the state after a request that is served
pub took : (b new : PagesView) (id order node : ℕ) (zone : Zone) (first : ℕ) → frames_held_by b.ids id ≡ None
    → picked_first_frame (node_of_free_frame b.buddy) node zone order ≡ Some first
    → IsRunsOf (without_set order first (node_of_free_frame b.buddy)) new.buddy.runs
    → new.ids ≡ insert_entry nat_cmp b.ids id (record { first = first; order = order; node = node })
    → (let p : PageOutcome × PageState = (outcomes.At (FRAME_SIZE * first), page_state_of new) in p)
    ≡ page_step (page_state_of b) (acts.Pages id order node zone)
took b new id order node zone first none picked runs ids =
    let what : Held = record { first = first; order = order; node = node } in
    let same : page_state_of new ≡ (let t : PageState = record {
      frames = without_set order first (node_of_free_frame b.buddy);
      held = with_held_frames id (Some what) (frames_held_by b.ids);
    } in t) =
    state_is (node_of_free_frame new.buddy) (without_set order first (node_of_free_frame b.buddy)) (frames_held_by new.ids)
    (with_held_frames id (Some what) (frames_held_by b.ids)) runs.each
    (λ q. changed id q (Some what) (frames_held_by b.ids) (frames_held_by new.ids q)
    (ap (λ (es : List (ℕ × Held)). frames_held_by es q) ids ∙ put_in id q what b.ids
    ∙ ap (λ t. cond t (Some what) (frames_held_by b.ids q)) (tests_alike id q))) in
    ap (λ (s : PageState). let p : PageOutcome × PageState = (outcomes.At (FRAME_SIZE * first), s) in p) same
    ∙ sym (ap (allocate_unless_id_holds (page_state_of b) id order node zone) none
    ∙ ap (allocate_frames (page_state_of b) id order node) picked)

-- the state after a request that isn't served
pub took_none : (b new : PagesView) (id order node : ℕ) (zone : Zone) → frames_held_by b.ids id ≡ None
    → picked_first_frame (node_of_free_frame b.buddy) node zone order ≡ None → new ≡ b
    → (let p : PageOutcome × PageState = (outcomes.NoBlock, page_state_of new) in p)
    ≡ page_step (page_state_of b) (acts.Pages id order node zone)
took_none b new id order node zone none picked is =
    ap (λ (d : PagesView). let p : PageOutcome × PageState = (outcomes.NoBlock, page_state_of d) in p) is
    ∙ sym (ap (allocate_unless_id_holds (page_state_of b) id order node zone) none
    ∙ ap (allocate_frames (page_state_of b) id order node) picked)

-- a request that is served needs memory of this program
takes_by : (s : PageState) (id order node : ℕ) (o : Option ℕ) → IsSome o → NeedsMemory (allocate_frames s id order node o).0
takes_by s id order node None some = cc some
takes_by s id order node (Some first) some = tt

pub served_takes : (s : PageState) (id order node : ℕ) (zone : Zone) → s.held id ≡ None
    → IsSome (picked_first_frame s.frames node zone order)
    → NeedsMemory (page_step s (acts.Pages id order node zone)).0
served_takes s id order node zone none some =
    subst (λ (o : Option Held). NeedsMemory (allocate_unless_id_holds s id order node zone o).0) (sym none)
    (takes_by s id order node (picked_first_frame s.frames node zone order) some)

pub nothing_is : (o : Option ℕ) → is_some o ≡ false → o ≡ None
nothing_is None is = refl
nothing_is (Some first) is = cc is

-- each line keeps what is always true of the state
pub kept_by : (b new : PagesView) (o : PageOutcome) (act : PageAct) → HasValidOrder act → IsValidPageState (page_state_of b)
    → (let p : PageOutcome × PageState = (o, page_state_of new) in p) ≡ page_step (page_state_of b) act
    → IsValidPageState (page_state_of new)
kept_by b new o act small keeps is =
    subst (λ (s : PageState). IsValidPageState s) (sym (ap (λ (p : PageOutcome × PageState). p.1) is))
    (step_kept (page_state_of b) act small keeps)
