-- Lists of entries: if no entry is too far, all end in the address space.
use Rattle.std.proofs.Common.{◌≡◌, ℕ, zero, suc, ◌+◌, ◌^◌, ◌<◌, ◌≤◌, Bool, true, false, Some, None, List, [], ◌∷◌, ◌++◌, length, length-append, refl, sym, ◌∙◌, arith, ⊎_elim}
use Rattle.std.proofs.lemmas.Bool.{cases_lt}
use Rattle.std.proofs.lemmas.Bool.Decides.{nat_tests}
use Rattle.e820_model.specs.declared.entry.Entry.{Entry}
use Rattle.e820_model.specs.Claims.{EntriesFit}
use Rattle.e820_table.specs.Entries.{nth_entry, first_entries, is_entry_too_far, far_entry_from, first_far_entry}

-- appending an entry that isn't too far keeps all ends in the address space
pub EntriesFit-push : (es : List Entry) (e : Entry) → EntriesFit es → e.addr + e.size < 2 ^ 64 → EntriesFit (es ++ e ∷ [])
EntriesFit-push [] e rest ends = (ends, tt)
EntriesFit-push (f ∷ es) e rest ends = (rest.0, EntriesFit-push es e rest.1 ends)

-- if the entry at index `i` isn't too far, the search goes on with the next
pub far_later : (start i n : ℕ) (bytes : List ℕ) → is_entry_too_far (nth_entry start i bytes) ≡ false
    → far_entry_from start i (suc n) bytes ≡ far_entry_from start (i + 1) n bytes
far_later start i n bytes near = rw near refl

-- if the search finds nothing, no entry that it looks at is too far
none_step : (t : Bool) (start i n k : ℕ) (bytes : List ℕ) → is_entry_too_far (nth_entry start i bytes) ≡ t
    → far_entry_from start i (suc n) bytes ≡ None → i ≤ k → k < i + suc n
    → (far_entry_from start (i + 1) n bytes ≡ None → i + 1 ≤ k → k < i + 1 + n → is_entry_too_far (nth_entry start k bytes) ≡ false)
    → is_entry_too_far (nth_entry start k bytes) ≡ false
none_step true start i n k bytes far none from below rest =
    let found : far_entry_from start i (suc n) bytes ≡ Some i = rw far refl in cc
none_step false start i n k bytes near none from below rest =
    ⊎_elim (λ past. rest (sym (far_later start i n bytes near) ∙ none) (omega arith) (omega arith))
    (λ here. let same : k ≡ i = omega arith in rw same near)
    (cases_lt i k)

none_far : (start i n k : ℕ) (bytes : List ℕ) → far_entry_from start i n bytes ≡ None → i ≤ k → k < i + n
    → is_entry_too_far (nth_entry start k bytes) ≡ false
none_far start i zero k bytes none from below = absurd (omega arith)
none_far start i (suc n) k bytes none from below =
    none_step (is_entry_too_far (nth_entry start i bytes)) start i n k bytes refl none from below
    (λ none_after from_next below_end. none_far start (i + 1) n k bytes none_after from_next below_end)

-- if none of the first n entries is too far, all of them end in the address space
EntriesFit-first_entries : (start n : ℕ) (bytes : List ℕ) → ((k : ℕ) → k < n → is_entry_too_far (nth_entry start k bytes) ≡ false)
    → EntriesFit (first_entries start n bytes)
EntriesFit-first_entries start zero bytes near = tt
EntriesFit-first_entries start (suc n) bytes near =
    let ends : (nth_entry start n bytes).addr + (nth_entry start n bytes).size < 2 ^ 64 = grind (arith, nat_tests, near n) in
    EntriesFit-push (first_entries start n bytes) (nth_entry start n bytes)
    (EntriesFit-first_entries start n bytes (λ k below. near k (omega arith))) ends

pub space_of_none : (start n : ℕ) (bytes : List ℕ) → first_far_entry start n bytes ≡ None → EntriesFit (first_entries start n bytes)
space_of_none start n bytes none =
    EntriesFit-first_entries start n bytes (λ k below. none_far start 0 n k bytes none (omega arith) (omega arith))

-- `first_entries` of n has n entries
pub count_first : (start n : ℕ) (bytes : List ℕ) → length (first_entries start n bytes) ≡ n
count_first start zero bytes = refl
count_first start (suc n) bytes =
    let before = count_first start n bytes in
    simp length-append (omega arith)
