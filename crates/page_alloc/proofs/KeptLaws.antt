-- Lemmas: lines keep free frames apart from held ones, and lose no frame.
use Rattle.std.proofs.Common.{◌≡◌, ◌≢◌, ◌⊎◌, ℕ, ◌+◌, ◌-◌, ◌/◌, ◌%◌, ◌^◌, ◌≤◌, ◌==◌, false, Option, Some, None, refl, sym, ◌∙◌, ap, subst, inl, inr, ⊎_elim, arith}
use Rattle.std.proofs.lemmas.Bool.{cases_lt, cases_Bool, eqb-true, eq-eqb}
use Rattle.std.proofs.lemmas.Nat.{pow_pos}
use Rattle.std.specs.Option.{option_map}
use Rattle.bm_base.specs.declared.zone.Zone.{Zone}
use Rattle.address_runs.specs.Edits.{IsEmptyFrom}
use Rattle.buddy_blocks.specs.declared.block.Block.{Block}
use Rattle.buddy_blocks.specs.declared.run.TheConstants.{MAX_FRAMES}
use Rattle.buddy_blocks.specs.Frames.{Frames, IsInSet, IsInBlock}
use Rattle.buddy_blocks.specs.PickedBlock.{picked_block, picked_first_frame}
use Rattle.buddy_blocks.specs.Buddies.{without_set, with_set}
use Rattle.buddy_blocks.proofs.SetLaws.{in_set, set_until, wider, multiple}
use Rattle.buddy_blocks.proofs.BlockLaws.{found_block}
use Rattle.buddy_blocks.proofs.BuddyLaws.{set_covers, covers_set, in_set_or_not, without_is, was_there, block_or_none, found_or_none}
use Rattle.buddy_blocks.proofs.PickLaws.{picked_tells}
use Rattle.page_alloc.specs.declared.act.PageAct.{PageAct}
use Rattle.page_alloc.specs.declared.act.PageAct.TheVariants as acts
use Rattle.page_alloc.specs.declared.outcome.Held.{Held}
use Rattle.page_alloc.specs.Pages.{PageState, first_page_state, with_held_frames, allocate_frames, allocate_unless_id_holds, free_held_frames, page_step, HasValidOrder}
use Rattle.page_alloc.specs.FramePlaces.{HoldsFrame, IsInOneBlockOrHeld, IsInNoBlockNorHeld, IsAlignedAndNotFree, IsValidPageState}

-- the free and held frames of the state were free in f, on the same nodes; and each free frame of
-- f is free or held in the state
pub record Shares (f : Frames) (s : PageState) : Type 0 where
  pub free : (x n : ℕ) → s.frames x ≡ Some n → f x ≡ Some n
  pub held : (id : ℕ) (what : Held) → s.held id ≡ Some what → (x : ℕ) → IsInSet what.order what.first x → f x ≡ Some what.node
  pub all : (x n : ℕ) → f x ≡ Some n → (s.frames x ≡ Some n) ⊎ ((id : ℕ) × HoldsFrame s id x)

pub record Goes (f : Frames) (s : PageState) : Type 0 where
  pub kept : IsValidPageState s
  pub shares : Shares f s

-- each free frame of f is in one block or held by one ID, and no other frame is
pub in_one : (f : Frames) (s : PageState) (x n : ℕ) → Goes f s → f x ≡ Some n → IsInOneBlockOrHeld s x
in_one f s x n goes is = ⊎_elim
    (λ (free : s.frames x ≡ Some n). elim (block_or_none s.frames x) as (λ _. IsInOneBlockOrHeld s x) [
      | inl none ↦ absurd (cc (sym free ∙ none))
      | inr some ↦ inl (
        record {
          block = some.0;
          is = some.1;
          has = some.2;
          one = λ b block inside.
              let here = found_block s.frames x some.0 some.1 some.2 in
              let there = found_block s.frames x b block inside in
              let both : Some b ≡ Some some.0 = sym there ∙ here in cc;
        },
        λ id holds. cc (sym ((goes.kept.well id holds.what holds.is).taken x holds.inside) ∙ free),
      )
    ])
    (λ (some : (id : ℕ) × HoldsFrame s id x). inr (
      record {
        id = some.0;
        holds = some.1;
        one = λ other holds. goes.kept.apart other some.0 holds.what some.1.what holds.is some.1.is x holds.inside some.1.inside;
      },
      λ b block inside.
          cc (sym (block.good x inside).0 ∙ (goes.kept.well some.0 some.1.what some.1.is).taken x some.1.inside),
    ))
    (goes.shares.all x n is)

pub in_none : (f : Frames) (s : PageState) (x : ℕ) → Goes f s → f x ≡ None → IsInNoBlockNorHeld s x
in_none f s x goes none = (
  λ b block inside. cc (sym (goes.shares.free x b.node (block.good x inside).0) ∙ none),
  λ id holds. cc (sym (goes.shares.held id holds.what holds.is x holds.inside) ∙ none),
)

-- the first state has all free frames, and none is held
pub begun_goes : (f : Frames) → IsEmptyFrom MAX_FRAMES f → Goes f (first_page_state f)
begun_goes f low = record {
  kept = record { low = low; well = λ id what is. cc; apart = λ i j g h is other x one two. cc };
  shares = record { free = λ x n is. is; held = λ id what is x inside. cc; all = λ x n is. inl is };
}

-- what an ID holds after a change for another ID
with_or_not : (id i : ℕ) → (id ≡ i) ⊎ ((id == i) ≡ false)
with_or_not id i = elim (cases_Bool (id == i)) as (λ _. (id ≡ i) ⊎ ((id == i) ≡ false)) [
  | inl on ↦ inl (eqb-true id i on)
  | inr off ↦ inr off
]

with_here : (id : ℕ) (what : Option Held) (held : ℕ → Option Held) → with_held_frames id what held id ≡ what
with_here id what held = rw (eq-eqb id id refl) refl

with_there : (id i : ℕ) (what : Option Held) (held : ℕ → Option Held) → (id == i) ≡ false → with_held_frames id what held i ≡ held i
with_there id i what held off = rw off refl

-- an ID holds what the change gives it, or what it held before
record Had (id i : ℕ) (what : Option Held) (held : ℕ → Option Held) (h : Held) : Type 0 where
  pub either : ((id ≡ i) × (what ≡ Some h)) ⊎ (((id == i) ≡ false) × (held i ≡ Some h))

had : (id i : ℕ) (what : Option Held) (held : ℕ → Option Held) (h : Held) → with_held_frames id what held i ≡ Some h → Had id i what held h
had id i what held h is = elim (with_or_not id i) as (λ _. Had id i what held h) [
  | inl same ↦ record {
    either = inl (
      same,
      let here : with_held_frames id what held i ≡ what = ap (with_held_frames id what held) (sym same) ∙ with_here id what held
          in sym here ∙ is,
    );
  }
  | inr other ↦ record { either = inr (other, sym (with_there id i what held other) ∙ is) }
]

differ : (id i : ℕ) → (id == i) ≡ false → id ≢ i
differ id i off same = cc (sym (eq-eqb id i same) ∙ off)

-- the frames that are picked: aligned, free, on the node, and below the limit
pub record IsFreeSet (f : Frames) (order first node : ℕ) : Type 0 where
  pub aligned : first % 2 ^ order ≡ 0
  pub low : first + 2 ^ order ≤ MAX_FRAMES
  pub free : (x : ℕ) → IsInSet order first x → f x ≡ Some node

pub picked_set : (f : Frames) (order first node : ℕ) (zone : Zone) → IsEmptyFrom MAX_FRAMES f
    → picked_first_frame f node zone order ≡ Some first
    → IsFreeSet f order first node
picked_set f order first node zone low is = elim (found_or_none (picked_block f node zone order)) as (λ _. IsFreeSet f order first node) [
  | inl none ↦
      let nothing : picked_first_frame f node zone order ≡ None = ap (option_map (λ (b : Block). b.first)) none in
      absurd (cc (sym nothing ∙ is))
  | inr some ↦
      let b : Block = some.0 in
      let something : picked_first_frame f node zone order ≡ Some b.first = ap (option_map (λ (c : Block). c.first)) some.1 in
      let here : b.first ≡ first = let both : Some b.first ≡ Some first = sym something ∙ is in cc in
      let it = picked_tells f node zone order b low some.1 in
      let enough = it.serves.enough in
      let at_b : b.first % 2 ^ order ≡ 0 = multiple order b.order b.first enough it.block.aligned in
      let whole : first % 2 ^ order ≡ 0 = ap (λ x. x % 2 ^ order) (sym here) ∙ at_b in
      let all : (x : ℕ) → IsInSet order first x → f x ≡ Some node = λ x inside.
      let in_b : IsInBlock b x = wider order b.order x b.first enough (inside ∙ ap (λ y. y / 2 ^ order) (sym here)) in
      (it.block.good x in_b).0 ∙ ap (λ n. Some n) it.serves.node in
      let some_frames = pow_pos order in
      let last : ℕ = first + 2 ^ order - 1 in
      let last_in : IsInSet order first last = in_set (2 ^ order) first last (omega (arith, whole, some_frames))
      (omega (arith, whole, some_frames)) in
      record {
        aligned = whole;
        low = elim (cases_lt last MAX_FRAMES) as (λ _. first + 2 ^ order ≤ MAX_FRAMES) [
          | inl lt ↦ omega (arith, lt, some_frames)
          | inr ge ↦ absurd (cc (sym (all last last_in) ∙ low last ge))
        ];
        free = all;
      }
]

-- a set of frames is allocated to an ID that holds nothing
module _ (s : PageState) (id order first node : ℕ) where
  abbrev made : Held
  made = record { first = first; order = order; node = node }

  abbrev taken : PageState
  taken = record { frames = without_set order first s.frames; held = with_held_frames id (Some made) s.held }

  in_made : (h : Held) (x : ℕ) → Some made ≡ Some h → IsInSet h.order h.first x → IsInSet order first x
  in_made h x is inside = let same : made ≡ h = cc in subst (λ (k : Held). IsInSet k.order k.first x) (sym same) inside

  taken_kept : order ≤ 10 → IsValidPageState s → IsFreeSet s.frames order first node → IsValidPageState taken
  taken_kept small keeps set =
      let without = without_is order first s.frames in
      let stays_none : (x : ℕ) → s.frames x ≡ None → taken.frames x ≡ None =
      λ x was. elim (in_set_or_not order first x) as (λ _. taken.frames x ≡ None) [
        | inl inside ↦ without.gone x inside
        | inr other ↦ without.kept x other ∙ was
      ] in
      let not_in_set : (i : ℕ) (h : Held) → s.held i ≡ Some h → (x : ℕ) → IsInSet h.order h.first x → IsInSet order first x → ⊥ =
      λ i h is x in_h inside. cc (sym ((keeps.well i h is).taken x in_h) ∙ set.free x inside) in
      record {
        low = λ x high. stays_none x (keeps.low x high);
        well = λ i h is. ⊎_elim
            (λ (mine : (id ≡ i) × (Some made ≡ Some h)).
            let same : made ≡ h = let both = mine.1 in cc in
            subst (λ (g : Held). IsAlignedAndNotFree taken g) same
            (let it : IsAlignedAndNotFree taken made = record {
              small = small;
              aligned = set.aligned;
              low = set.low;
              taken = without.gone;
            } in it))
            (λ (other : ((id == i) ≡ false) × (s.held i ≡ Some h)).
            let was = keeps.well i h other.1 in
            let it : IsAlignedAndNotFree taken h = record {
              small = was.small;
              aligned = was.aligned;
              low = was.low;
              taken = λ x inside. stays_none x (was.taken x inside);
            } in it)
            (had id i (Some made) s.held h is).either;
        apart = λ i j g h is_i is_j x in_g in_h. ⊎_elim
            (λ (mine : (id ≡ i) × (Some made ≡ Some g)). ⊎_elim
            (λ (too : (id ≡ j) × (Some made ≡ Some h)). sym mine.0 ∙ too.0)
            (λ (other : ((id == j) ≡ false) × (s.held j ≡ Some h)).
            absurd (not_in_set j h other.1 x in_h (in_made g x mine.1 in_g)))
            (had id j (Some made) s.held h is_j).either)
            (λ (one : ((id == i) ≡ false) × (s.held i ≡ Some g)). ⊎_elim
            (λ (mine : (id ≡ j) × (Some made ≡ Some h)). absurd (not_in_set i g one.1 x in_g (in_made h x mine.1 in_h)))
            (λ (two : ((id == j) ≡ false) × (s.held j ≡ Some h)). keeps.apart i j g h one.1 two.1 x in_g in_h)
            (had id j (Some made) s.held h is_j).either)
            (had id i (Some made) s.held g is_i).either;
      }

  taken_goes : (f : Frames) → order ≤ 10 → Goes f s → s.held id ≡ None → IsFreeSet s.frames order first node → Goes f taken
  taken_goes f small goes none set =
      let without = without_is order first s.frames in
      record {
        kept = taken_kept small goes.kept set;
        shares = record {
          free = λ x n is. goes.shares.free x n (was_there s.frames taken.frames order first x n without is);
          held = λ i h is x inside. ⊎_elim
              (λ (mine : (id ≡ i) × (Some made ≡ Some h)).
              goes.shares.free x node (set.free x (in_made h x mine.1 inside)) ∙ ap (option_map (λ (k : Held). k.node)) mine.1)
              (λ (other : ((id == i) ≡ false) × (s.held i ≡ Some h)). goes.shares.held i h other.1 x inside)
              (had id i (Some made) s.held h is).either;
          all = λ x n is. ⊎_elim
              (λ (was : s.frames x ≡ Some n). elim (in_set_or_not order first x) as (λ _. (taken.frames x ≡ Some n)
              ⊎ ((i : ℕ) × HoldsFrame taken i x)) [
                | inl inside ↦ inr (
                  id,
                  let it : HoldsFrame taken id x = record {
                    what = made;
                    is = with_here id (Some made) s.held;
                    inside = inside;
                  } in it,
                )
                | inr other ↦ inl (without.kept x other ∙ was)
              ])
              (λ (some : (i : ℕ) × HoldsFrame s i x). elim (with_or_not id some.0) as (λ _. (taken.frames x ≡ Some n)
              ⊎ ((i : ℕ) × HoldsFrame taken i x)) [
                | inl same ↦
                    let had_one = some.1.is in
                    let here : s.held id ≡ Some some.1.what = ap s.held same ∙ had_one in
                    absurd (cc (sym none ∙ here))
                | inr other ↦ inr (
                  some.0,
                  let it : HoldsFrame taken some.0 x = record {
                    what = some.1.what;
                    is = with_there id some.0 (Some made) s.held other ∙ some.1.is;
                    inside = some.1.inside;
                  } in it,
                )
              ])
              (goes.shares.all x n is);
        };
      }

-- the frames that an ID holds are freed
module _ (s : PageState) (id : ℕ) (what : Held) where
  abbrev given : PageState
  given = record { frames = with_set what.order what.first what.node s.frames; held = with_held_frames id None s.held }

  back : (x : ℕ) → IsInSet what.order what.first x → given.frames x ≡ Some what.node
  back x inside = rw (set_covers what.order what.first x inside) refl

  kept : (x : ℕ) → (IsInSet what.order what.first x → ⊥) → given.frames x ≡ s.frames x
  kept x other = rw (covers_set what.order what.first x other) refl

  still : (i : ℕ) (h : Held) → given.held i ≡ Some h → ((id == i) ≡ false) × (s.held i ≡ Some h)
  still i h is = ⊎_elim
      (λ (mine : (id ≡ i) × (None ≡ Some h)). let both = mine.1 in cc)
      (λ (other : ((id == i) ≡ false) × (s.held i ≡ Some h)). other)
      (had id i None s.held h is).either

  given_kept : IsValidPageState s → s.held id ≡ Some what → IsValidPageState given
  given_kept keeps is_held =
      let well = keeps.well id what is_held in
      record {
        low = λ x high. elim (in_set_or_not what.order what.first x) as (λ _. given.frames x ≡ None) [
          | inl inside ↦
              let until = set_until (2 ^ what.order) what.first x (pow_pos what.order) inside in
              let aligned = well.aligned in
              let most = well.low in
              absurd (omega (arith, until, aligned, most, high))
          | inr other ↦ kept x other ∙ keeps.low x high
        ];
        well = λ i h is.
            let other = still i h is in
            let was = keeps.well i h other.1 in
            let it : IsAlignedAndNotFree given h = record {
              small = was.small;
              aligned = was.aligned;
              low = was.low;
              taken = λ x inside.
                  kept x (λ mine. differ id i other.0 (keeps.apart id i what h is_held other.1 x mine inside)) ∙ was.taken x inside;
            } in it;
        apart = λ i j g h is_i is_j x in_g in_h. keeps.apart i j g h (still i g is_i).1 (still j h is_j).1 x in_g in_h;
      }

  given_goes : (f : Frames) → Goes f s → s.held id ≡ Some what → Goes f given
  given_goes f goes is_held = record {
    kept = given_kept goes.kept is_held;
    shares = record {
      free = λ x n is. elim (in_set_or_not what.order what.first x) as (λ _. f x ≡ Some n) [
        | inl inside ↦ goes.shares.held id what is_held x inside ∙ sym (back x inside) ∙ is
        | inr other ↦ goes.shares.free x n (sym (kept x other) ∙ is)
      ];
      held = λ i h is x inside. goes.shares.held i h (still i h is).1 x inside;
      all = λ x n is. elim (in_set_or_not what.order what.first x) as (λ _. (given.frames x ≡ Some n) ⊎ ((i : ℕ) × HoldsFrame given i x)) [
        | inl inside ↦ inl (back x inside ∙ sym (goes.shares.held id what is_held x inside) ∙ is)
        | inr other ↦ ⊎_elim
            (λ (was : s.frames x ≡ Some n). inl (kept x other ∙ was))
            (λ (some : (i : ℕ) × HoldsFrame s i x). elim (with_or_not id some.0) as (λ _. (given.frames x ≡ Some n)
            ⊎ ((i : ℕ) × HoldsFrame given i x)) [
              | inl same ↦
                  let here : s.held id ≡ Some some.1.what = let h = some.1.is in ap s.held same ∙ h in
                  let one : some.1.what ≡ what = let both : Some some.1.what ≡ Some what = sym here ∙ is_held in cc in
                  absurd (other (subst (λ (k : Held). IsInSet k.order k.first x) one some.1.inside))
              | inr differs ↦ inr (
                some.0,
                let it : HoldsFrame given some.0 x = record {
                  what = some.1.what;
                  is = with_there id some.0 None s.held differs ∙ some.1.is;
                  inside = some.1.inside;
                } in it,
              )
            ])
            (goes.shares.all x n is)
      ];
    };
  }

-- each line keeps free frames apart from held ones, and loses none
served_goes : (f : Frames) (s : PageState) (id order node : ℕ) (zone : Zone) (o : Option ℕ) → order ≤ 10 → Goes f s → s.held id ≡ None
    → picked_first_frame s.frames node zone order ≡ o → Goes f (allocate_frames s id order node o).1
served_goes f s id order node zone None small goes none is = goes
served_goes f s id order node zone (Some first) small goes none is =
    taken_goes s id order first node f small goes none (picked_set s.frames order first node zone goes.kept.low is)

asked_goes : (f : Frames) (s : PageState) (id order node : ℕ) (zone : Zone) (o : Option Held) → order ≤ 10 → Goes f s → s.held id ≡ o
    → Goes f (allocate_unless_id_holds s id order node zone o).1
asked_goes f s id order node zone (Some what) small goes is = goes
asked_goes f s id order node zone None small goes is =
    served_goes f s id order node zone (picked_first_frame s.frames node zone order) small goes is refl

back_goes : (f : Frames) (s : PageState) (id : ℕ) (o : Option Held) → Goes f s → s.held id ≡ o → Goes f (free_held_frames s id o).1
back_goes f s id None goes is = goes
back_goes f s id (Some what) goes is = given_goes s id what f goes is

pub step_goes : (f : Frames) (s : PageState) (act : PageAct) → HasValidOrder act → Goes f s → Goes f (page_step s act).1
step_goes f s (acts.Pages id order node zone) small goes = asked_goes f s id order node zone (s.held id) small goes refl
step_goes f s (acts.Near id order node) small goes = goes
step_goes f s (acts.Give id) small goes = back_goes f s id (s.held id) goes refl

-- each line keeps what is always true of a state
served_kept : (s : PageState) (id order node : ℕ) (zone : Zone) (o : Option ℕ) → order ≤ 10 → IsValidPageState s
    → picked_first_frame s.frames node zone order ≡ o → IsValidPageState (allocate_frames s id order node o).1
served_kept s id order node zone None small keeps is = keeps
served_kept s id order node zone (Some first) small keeps is =
    taken_kept s id order first node small keeps (picked_set s.frames order first node zone keeps.low is)

asked_kept : (s : PageState) (id order node : ℕ) (zone : Zone) (o : Option Held) → order ≤ 10 → IsValidPageState s
    → IsValidPageState (allocate_unless_id_holds s id order node zone o).1
asked_kept s id order node zone (Some what) small keeps = keeps
asked_kept s id order node zone None small keeps =
    served_kept s id order node zone (picked_first_frame s.frames node zone order) small keeps refl

back_kept : (s : PageState) (id : ℕ) (o : Option Held) → IsValidPageState s → s.held id ≡ o → IsValidPageState (free_held_frames s id o).1
back_kept s id None keeps is = keeps
back_kept s id (Some what) keeps is = given_kept s id what keeps is

pub step_kept : (s : PageState) (act : PageAct) → HasValidOrder act → IsValidPageState s → IsValidPageState (page_step s act).1
step_kept s (acts.Pages id order node zone) small keeps = asked_kept s id order node zone (s.held id) small keeps
step_kept s (acts.Near id order node) small keeps = keeps
step_kept s (acts.Give id) small keeps = back_kept s id (s.held id) keeps refl

pub begun_kept : (f : Frames) → IsEmptyFrom MAX_FRAMES f → IsValidPageState (first_page_state f)
begun_kept f low = (begun_goes f low).kept
