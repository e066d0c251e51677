use Rattle.std.proofs.Common.{◌≡◌, ℕ, false, Some, refl, sym, ◌∙◌, arith}
use Rattle.std.proofs.lemmas.Bool.{true≢false}
use Rattle.std.proofs.lemmas.Option.{none-some}
use Rattle.memblock_model.specs.declared.owner.Which.TheVariants as which
use Rattle.growth_model.specs.Growth.{is_full, count_uncovered_pieces}
use Rattle.growth_model.specs.Request.{place_for}
use Rattle.memblock_grow.proofs.PlaceLaws.{knows-mirrors}
use Rattle.memblock_grow.proofs.ReservedLaws.{still-bytes}
use Rattle.memblock_grow.proofs.RequestLaws.{place-is-for, place-small, place-allowed, alloc-none, alloc-fails, alloc-done}
use Rattle.memblock_grow.proofs.request.allocate.Goals as goal
use Rattle.memblock_grow.proofs.request.allocate.Goals.{In-Some}

-- the place is that of the definition
found : (c : In-Some) → place_for c.args.request.now c.args.journal.now.items ≡ Some c.in-Some.base
found c = place-is-for c.requires.kept.1.kept c.args.request.now c.place_for.ensures c.in-Some.is

pub place_for-requires-clause-mirrors : goal.place_for-requires-clause-mirrors
place_for-requires-clause-mirrors c = knows-mirrors c.requires.kept.1.kept

pub returns-in_default-clause-ends : goal.returns-in_default-clause-ends
returns-in_default-clause-ends c =
    alloc-none _ _ _ (place-is-for c.requires.kept.1.kept c.args.request.now c.place_for.ensures c.in_default.is)

pub returns-in_default-clause-bytes : goal.returns-in_default-clause-bytes
returns-in_default-clause-bytes c = still-bytes c.args.tables.now refl (λ x. refl)

pub invariant_of-range : goal.invariant_of-range
invariant_of-range c =
    place-small c.requires.kept.1.kept c.args.request.now (found (goal.at.invariant_of-range c).In-Some) (omega arith)

pub claim-requires-clause-may : goal.claim-requires-clause-may
claim-requires-clause-may c =
    place-allowed c.args.request.now c.args.owner c.requires.kept.1 c.requires.begun
    (found (goal.at.claim-requires-clause-may c).In-Some)

pub returns-in_err-claim-clause-ends : goal.returns-in_err-claim-clause-ends
returns-in_err-claim-clause-ends c =
    alloc-fails _ _ _ _ _ _ (found (goal.at.returns-in_err-claim-clause-ends c).In-Some) c.from_residual.ensures.1
    c.in_err-claim.ensures.ends

pub returns-clause-ends : goal.returns-clause-ends
returns-clause-ends c =
    alloc-done _ _ _ _ (found (goal.at.returns-clause-ends c).In-Some) c.in_ok-claim.ensures.ends

pub returns-clause-inside : goal.returns-clause-inside
returns-clause-inside c =
    place-small c.requires.kept.1.kept c.args.request.now (found (goal.at.returns-clause-inside c).In-Some) (omega arith)

pub returns-in_default-clause-ready : goal.returns-in_default-clause-ready
returns-in_default-clause-ready c = λ place is spare idle.
    absurd (none-some place (sym (place-is-for c.requires.kept.1.kept c.args.request.now c.place_for.ensures c.in_default.is) ∙ is))

-- a claim of that place needs no growth if the table has room
idle_at : (c : In-Some) (place : ℕ) → place_for c.args.request.now c.args.journal.now.items ≡ Some place
    → is_full which.Reserved
    (count_uncovered_pieces which.Reserved (record { base = place; size = c.args.request.now.size })) c.args.journal.now.items
    ≡ false
    → is_full which.Reserved (count_uncovered_pieces which.Reserved (record { base = c.in-Some.base; size = c.args.request.now.size }))
    c.args.journal.now.items ≡ false
idle_at c place is idle = let at : c.in-Some.base ≡ place = cc (sym (found c) ∙ is) in rw at idle

pub returns-in_err-claim-clause-ready : goal.returns-in_err-claim-clause-ready
returns-in_err-claim-clause-ready c = λ place is spare idle.
    let room = idle_at (goal.at.returns-in_err-claim-clause-ready c).In-Some place is idle in
    absurd (true≢false (sym (c.in_err-claim.ensures.ready spare room).0))

pub returns-clause-ready : goal.returns-clause-ready
returns-clause-ready c = λ place is spare idle.
    c.in_ok-claim.ensures.ready spare (idle_at (goal.at.returns-clause-ready c).In-Some place is idle)
