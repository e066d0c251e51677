-- Lemmas on calls that append to a text one after another, each with the contract `PutsText`.
use Rattle.std.proofs.Common.{◌≡◌, ℕ, ◌+◌, ◌<◌, ◌≤◌, List, [], ◌++◌, length, Result, Ok, Err, Vec, Global, vec_capacity, sym, ap, ◌∙◌, append_assoc, append-nil, length-append, arith}
use Rattle.std.specs.Prelude.{OnOk}
use Rattle.bm_base.specs.declared.memory.Memory.{Memory}
use Rattle.bm_base.specs.PutsText.{PutsText}

-- if earlier calls appended their bytes and the last call meets its contract, all calls together
-- meet it
pub goes_on : (old mid new : Vec ℕ Global) (answer : Result (Unit {0}) Memory) (xs ys : List ℕ) → PutsText mid new answer ys
    → mid.items ≡ old.items ++ xs → vec_capacity old ≤ vec_capacity mid → PutsText old new answer (xs ++ ys)
goes_on old mid new (Ok done) xs ys last put room =
    (last.0 ∙ ap (λ t. t ++ ys) put ∙ append_assoc old.items xs ys, let more = last.1 in omega (arith, room, more))
goes_on old mid new (Err error) xs ys last put room =
    let long = simp length-append at (ap (λ (t : List ℕ). length t) put) in
    omega (arith, last, long, length-append xs ys, room)

-- if the call returned `Ok`, the text is the old text followed by the bytes
pub puts_ok : (old new : Vec ℕ Global) (answer : Result (Unit {0}) Memory) (xs : List ℕ)
    → PutsText old new answer xs → OnOk answer (new.items ≡ old.items ++ xs)
puts_ok old new (Ok done) xs puts = puts.0
puts_ok old new (Err error) xs puts = tt

-- a call in the middle of a text: what is written, followed by what is left to write, is still the
-- whole text
pub text_more : (mid new xs left rest whole : List ℕ) → left ≡ xs ++ rest → mid ++ left ≡ whole → new ≡ mid ++ xs → new ++ rest ≡ whole
text_more mid new xs left rest whole is so_far put = rw (put, append_assoc mid xs rest, ← is) so_far

-- if a call ran out of memory, the room was too small for the whole text
pub too_small : (old mid xs left rest whole : List ℕ) (before room : ℕ) → left ≡ xs ++ rest → mid ++ left ≡ old ++ whole
    → before ≤ room → room < length mid + length xs → before < length old + length whole
too_small old mid xs left rest whole before room is so_far less wants =
    let parts = simp length-append at (ap (λ (t : List ℕ). length t) (rw is at so_far)) in
    omega (arith, parts, wants, less)

-- if nothing is left to write, the text is the whole text
pub text_end : (text left whole : List ℕ) → left ≡ [] → text ++ left ≡ whole → text ≡ whole
text_end text left whole none so_far = sym (append-nil text) ∙ ap (λ t. text ++ t) (sym none) ∙ so_far
