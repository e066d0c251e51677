-- Memory ends after its last usable frame, which is the end of its last run.
use Rattle.std.proofs.Common.{◌≡◌, ℕ, zero, suc, ◌+◌, ◌-◌, ◌*◌, ◌/◌, ◌%◌, ◌<◌, ◌≤◌, true, is_some, Option, Some, None, List, [], ◌∷◌, refl, sym, ap, ◌∙◌, inl, inr, arith}
use Rattle.std.proofs.lemmas.Bool.Decides.{nat_tests}
use Rattle.std.proofs.Math.Nat.{le_antisymm}
use Rattle.std.proofs.lemmas.Bool.{cases_lt, true≢false}
use Rattle.address_runs.specs.Runs.{RunOf, run_end, value_at, AreRuns, IsRunsOf}
use Rattle.address_runs.specs.Sweep.{StartAtOrPast}
use Rattle.address_runs.proofs.RunsLaws.{inside, past_end, rest_from, start_zero}
use Rattle.e820_model.specs.Map.{TypeAt}
use Rattle.e820_model.specs.Usable.{is_usable_frame, types_below}
use Rattle.e820_model.proofs.UsableLaws.{memory_reached, is_usable_frame-each}
use Rattle.memblock_model.specs.Labels.{LabelView}
use Rattle.memblock_model.specs.Search.{last_below}
use Rattle.memblock_model.proofs.SearchLaws.{last_below-is, last_below-none}
use Rattle.early_memory.specs.EarlyInputs.{FrameRange}
use Rattle.early_memory.specs.Memory.{end_of_last_frame, last_run_end_or, end_of_last_run, memory_end, mirrored_memory, usable_memory}
use Rattle.early_memory.proofs.MirrorLaws.{mirrored-usable}

-- a usable frame ends at or below the limit of addresses
pub low_frame : (limit : ℕ) (f : TypeAt) (frame : ℕ) → is_usable_frame (types_below limit f) frame ≡ true → 4096 * frame + 4096 ≤ limit
low_frame limit f frame usable =
    let last = is_usable_frame-each (types_below limit f) frame usable (4096 * frame + 4095) (omega arith) (omega arith) in
    let both = sym (memory_reached limit f (4096 * frame + 4095)) ∙ last in
    grind (arith, nat_tests, both)

-- an end of memory: each usable frame ends at or below it, and it is 0 or the end of a usable
-- frame
pub record IsEnd (limit : ℕ) (f : TypeAt) (at : ℕ) : Type 0 where
  pub by : (frame : ℕ) → is_usable_frame (types_below limit f) frame ≡ true → 4096 * frame + 4096 ≤ at
  pub last : 0 < at → (frame : ℕ) × (at ≡ 4096 * frame + 4096) × (is_usable_frame (types_below limit f) frame ≡ true)

end_by : (limit : ℕ) (f : TypeAt) (found : Option ℕ) → last_below (is_usable_frame (types_below limit f)) (limit / 4096) ≡ found
    → IsEnd limit f (end_of_last_frame found)
end_by limit f None is = record {
  by = λ frame usable.
      let low = low_frame limit f frame usable in
      absurd (true≢false (sym usable
      ∙ last_below-none (is_usable_frame (types_below limit f)) (limit / 4096) is frame (omega (arith, low))));
  last = λ some. absurd (omega (arith, some));
}
end_by limit f (Some a) is =
    let known = last_below-is (is_usable_frame (types_below limit f)) (limit / 4096) a is in
    record {
      by = λ frame usable.
          let low = low_frame limit f frame usable in
          let most = known.last frame (omega (arith, low)) usable in
          omega (arith, most);
      last = λ some. (a, refl, known.passes);
    }

pub memory_end-is : (limit : ℕ) (f : TypeAt) → IsEnd limit f (memory_end limit f)
unfolding memory_end
memory_end-is limit f = end_by limit f (last_below (is_usable_frame (types_below limit f)) (limit / 4096)) refl

-- an end of memory is at most the limit of addresses, and a multiple of the frame size
pub end_reached : (limit : ℕ) (f : TypeAt) (at : ℕ) → IsEnd limit f at → (at ≤ limit) × (at % 4096 ≡ 0)
end_reached limit f zero known = (omega arith, refl)
end_reached limit f (suc at) known =
    let last = known.last (omega arith) in
    let low = low_frame limit f last.0 last.2 in
    (omega (arith, last.1, low), omega (arith, last.1))

-- there is only one end of memory
pub one_end : (limit : ℕ) (f : TypeAt) (at also : ℕ) → IsEnd limit f at → IsEnd limit f also → at ≤ also
one_end limit f zero also first second = omega arith
one_end limit f (suc at) also first second =
    let last = first.last (omega arith) in
    let by = second.by last.0 last.2 in
    omega (arith, last.1, by)

-- each byte of memory, mirrored or not, is below the end of memory
pub mirrored_below : (limit : ℕ) (f : TypeAt) (mirrors : List FrameRange) (x : ℕ) (label : LabelView)
    → mirrored_memory mirrors (usable_memory limit f) x ≡ Some label → x < memory_end limit f
mirrored_below limit f mirrors x label held =
    let by = (memory_end-is limit f).by (x / 4096) (sym (mirrored-usable limit f mirrors x) ∙ ap is_some held) in omega (arith, by)

pub memory_below : (limit : ℕ) (f : TypeAt) (x : ℕ) (label : LabelView) → usable_memory limit f x ≡ Some label → x < memory_end limit f
memory_below limit f x label held = mirrored_below limit f [] x label held

-- the list gives no value from the end of its last run on, and a value at the address before
record EndsAt {X : Type 0} (rs : List (RunOf X)) (from at : ℕ) : Type 0 where
  later : from ≤ at
  past : (x : ℕ) → at ≤ x → value_at rs x ≡ None
  last : from < at → (v : X) × (value_at rs (at - 1) ≡ Some v)

ends_at : {X : Type 0} (from : ℕ) (rs : List (RunOf X)) → AreRuns rs → StartAtOrPast from rs → EndsAt rs from (last_run_end_or from rs)
ends_at from [] runs start = record { later = omega arith; past = λ x past. refl; last = λ some. absurd (omega (arith, some)) }
ends_at {X} from (r ∷ rs) runs start =
    let at : ℕ = last_run_end_or (run_end r) rs in
    let rest = ends_at (run_end r) rs runs.2 (rest_from r rs runs) in
    record {
      later = omega (arith, rest.later);
      past = λ x past. rw (past_end r x (omega (arith, rest.later, past))) (rest.past x past);
      last = λ some. elim (cases_lt (run_end r) at) as (λ _. (v : X) × (value_at (r ∷ rs) (at - 1) ≡ Some v)) [
        | inl more ↦ ((rest.last more).0, rw (past_end r (at - 1) (omega (arith, more))) (rest.last more).1)
        | inr none ↦
            (let sized = runs.0 in
            (r.value, rw (inside r (at - 1) (omega (arith, rest.later, sized)) (omega (arith, none, sized))) refl))
      ];
    }

-- the runs of memory end where memory ends
runs_are_end : (limit : ℕ) (f : TypeAt) (mirrors : List FrameRange) (rs : List (RunOf LabelView))
    → IsRunsOf (mirrored_memory mirrors (usable_memory limit f)) rs → IsEnd limit f (end_of_last_run rs)
runs_are_end limit f mirrors rs are =
    let at : ℕ = end_of_last_run rs in
    let ends = ends_at 0 rs are.runs (start_zero rs) in
    let is : (x : ℕ) → is_some (value_at rs x) ≡ is_usable_frame (types_below limit f) (x / 4096) =
    λ x. ap is_some (are.each x) ∙ mirrored-usable limit f mirrors x in
    let by : (frame : ℕ) → is_usable_frame (types_below limit f) frame ≡ true → 4096 * frame + 4096 ≤ at =
    λ frame usable. (elim (cases_lt (4096 * frame + 4095) at) as (λ _. 4096 * frame + 4096 ≤ at) [
      | inl below ↦ omega (arith, below)
      | inr past ↦
          (let number : (4096 * frame + 4095) / 4096 ≡ frame = omega arith in
          let some = rw number at (is (4096 * frame + 4095)) in
          absurd (cc (ends.past (4096 * frame + 4095) past, some)))
    ]) in
    record {
      by = by;
      last = λ some.
          let usable = sym (is (at - 1)) ∙ ap is_some (ends.last some).1 in
          let within = by ((at - 1) / 4096) usable in
          ((at - 1) / 4096, omega (arith, within, some), usable);
    }

pub runs_end_memory : (limit : ℕ) (f : TypeAt) (mirrors : List FrameRange) (rs : List (RunOf LabelView))
    → IsRunsOf (mirrored_memory mirrors (usable_memory limit f)) rs → end_of_last_run rs ≡ memory_end limit f
runs_end_memory limit f mirrors rs are =
    let first = runs_are_end limit f mirrors rs are in
    let second = memory_end-is limit f in
    le_antisymm (one_end limit f _ _ first second) (one_end limit f _ _ second first)

-- the end depends only on the types below the limit of addresses
pub memory_end-same : (limit : ℕ) (f g : TypeAt) → types_below limit f ≡ types_below limit g → memory_end limit f ≡ memory_end limit g
unfolding memory_end
memory_end-same limit f g same = ap (λ (t : TypeAt). end_of_last_frame (last_below (is_usable_frame t) (limit / 4096))) same
