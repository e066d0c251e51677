-- The sequence of entries: the offsets from one entry on, and the bound on their number, which is
-- always enough.
use Rattle.std.proofs.Common.{◌≡◌, ◌≢◌, ℕ, zero, suc, ◌+◌, ◌<◌, ◌≤◌, Bool, true, false, List, [], ◌∷◌, ◌++◌, length, length-append, Option, Some, None, IsSome, option_to_list, append_assoc, refl, sym, ap, ◌∙◌, arith}
use Rattle.std.proofs.lemmas.Bool.{false_from_ne_true, false≢true, true_from_ne_false}
use Rattle.std.proofs.lemmas.Bool.Decides.{nat_tests}
use Rattle.std.proofs.lemmas.List.{append-nil}
use Rattle.std.specs.List.{filter_map}
use Rattle.std.specs.Prelude.{nat_le}
use Rattle.srat_reader.specs.declared.table.SratFault.TheVariants as faults
use Rattle.srat_reader.specs.Entries.{entry_length_at, is_whole_entry, is_block_too_far, srat_entry_at}
use Rattle.srat_reader.specs.Table.{entry_offsets_from, entry_offsets, first_srat_fault}

-- a whole entry has at least two bytes, and ends by the end of the table
pub whole_bounds : (at : ℕ) (bytes : List ℕ) → is_whole_entry at bytes ≡ true
    → (at + 2 ≤ length bytes) × (2 ≤ entry_length_at at bytes) × (at + entry_length_at at bytes ≤ length bytes)
unfolding is_whole_entry
whole_bounds at bytes whole = (grind (arith, nat_tests), grind (arith, nat_tests), grind (arith, nat_tests))

-- the offsets from `at` on: none at the end of the table; one if the entry there isn't whole; else
-- that of the entry there and those after it
from_end : (n at : ℕ) (bytes : List ℕ) → length bytes ≤ at → entry_offsets_from n at bytes ≡ []
unfolding entry_offsets_from
from_end zero at bytes ended = refl
from_end (suc n) at bytes ended = grind (arith, nat_tests)

from_whole : (n at : ℕ) (bytes : List ℕ) → at < length bytes → is_whole_entry at bytes ≡ true
    → entry_offsets_from (suc n) at bytes ≡ at ∷ entry_offsets_from n (at + entry_length_at at bytes) bytes
unfolding entry_offsets_from
from_whole n at bytes before whole = grind (arith, nat_tests)

from_broken : (n at : ℕ) (bytes : List ℕ) → at < length bytes → is_whole_entry at bytes ≡ false
    → entry_offsets_from (suc n) at bytes ≡ at ∷ []
unfolding entry_offsets_from
from_broken n at bytes before broken = grind (arith, nat_tests)

-- if two bounds give the same entries after the one at `at`, both bounds plus one give the same
-- entries from `at` on
one_step : (n m at : ℕ) (bytes : List ℕ)
    → (2 ≤ entry_length_at at bytes
    → entry_offsets_from n (at + entry_length_at at bytes) bytes ≡ entry_offsets_from m (at + entry_length_at at bytes) bytes)
    → (ended whole : Bool) → nat_le (length bytes) at ≡ ended → is_whole_entry at bytes ≡ whole
    → entry_offsets_from (suc n) at bytes ≡ entry_offsets_from (suc m) at bytes
one_step n m at bytes after true whole ended is =
    let end : length bytes ≤ at = grind (arith, nat_tests) in
    from_end (suc n) at bytes end ∙ sym (from_end (suc m) at bytes end)
one_step n m at bytes after false false before broken =
    let here : at < length bytes = grind (arith, nat_tests) in
    from_broken n at bytes here broken ∙ sym (from_broken m at bytes here broken)
one_step n m at bytes after false true before whole =
    let here : at < length bytes = grind (arith, nat_tests) in
    from_whole n at bytes here whole
    ∙ ap (λ rest. at ∷ rest) (after (whole_bounds at bytes whole).1)
    ∙ sym (from_whole m at bytes here whole)

-- two bounds that both reach the end of the table give the same entries
enough : (n m at : ℕ) (bytes : List ℕ) → length bytes ≤ n + at → length bytes ≤ m + at
    → entry_offsets_from n at bytes ≡ entry_offsets_from m at bytes
enough zero m at bytes first second = from_end zero at bytes (omega arith) ∙ sym (from_end m at bytes (omega arith))
enough (suc n) zero at bytes first second = from_end (suc n) at bytes (omega arith) ∙ sym (from_end zero at bytes (omega arith))
enough (suc n) (suc m) at bytes first second =
    one_step n m at bytes (λ long. enough n m (at + entry_length_at at bytes) bytes (omega arith) (omega arith))
    (nat_le (length bytes) at) (is_whole_entry at bytes) refl refl

-- the offsets of the entries from offset `at` on
abbrev pub rest_from : ℕ → List ℕ → List ℕ
rest_from at bytes = entry_offsets_from (length bytes) at bytes

pub rest_end : (at : ℕ) (bytes : List ℕ) → length bytes ≤ at → rest_from at bytes ≡ []
rest_end at bytes ended = from_end (length bytes) at bytes ended

pub rest_whole : (at : ℕ) (bytes : List ℕ) → at < length bytes → is_whole_entry at bytes ≡ true
    → rest_from at bytes ≡ at ∷ rest_from (at + entry_length_at at bytes) bytes
rest_whole at bytes before whole =
    let long : 2 ≤ entry_length_at at bytes = (whole_bounds at bytes whole).1 in
    enough (length bytes) (suc (length bytes)) at bytes (omega arith) (omega arith)
    ∙ from_whole (length bytes) at bytes before whole

pub rest_broken : (at : ℕ) (bytes : List ℕ) → at < length bytes → is_whole_entry at bytes ≡ false → rest_from at bytes ≡ at ∷ []
rest_broken at bytes before broken =
    enough (length bytes) (suc (length bytes)) at bytes (omega arith) (omega arith)
    ∙ from_broken (length bytes) at bytes before broken

-- the first fault from an offset on is that of the entry there, or else the first fault after it
pub broken_fault : (at : ℕ) (bytes : List ℕ) → at < length bytes → is_whole_entry at bytes ≡ false
    → first_srat_fault bytes (rest_from at bytes) ≡ Some (faults.EntryLength at)
broken_fault at bytes before broken = rw (rest_broken at bytes before broken) (rw broken refl)

pub far_fault : (at : ℕ) (bytes : List ℕ) → at < length bytes → is_whole_entry at bytes ≡ true
    → is_block_too_far (srat_entry_at at bytes) ≡ true
    → first_srat_fault bytes (rest_from at bytes) ≡ Some (faults.BlockTooFar at)
far_fault at bytes before whole far = rw (rest_whole at bytes before whole) (rw whole (rw far refl))

pub later_fault : (at : ℕ) (bytes : List ℕ) → at < length bytes → is_whole_entry at bytes ≡ true
    → is_block_too_far (srat_entry_at at bytes) ≡ false
    → first_srat_fault bytes (rest_from at bytes) ≡ first_srat_fault bytes (rest_from (at + entry_length_at at bytes) bytes)
later_fault at bytes before whole near = rw (rest_whole at bytes before whole) (rw whole (rw near refl))

pub no_fault : (at : ℕ) (bytes : List ℕ) → length bytes ≤ at → first_srat_fault bytes (rest_from at bytes) ≡ None
no_fault at bytes ended = rw (rest_end at bytes ended) refl

-- if there is no fault from an offset on, the entry there is whole and not too far, and there is
-- no fault after it
pub whole_here : (at : ℕ) (bytes : List ℕ) → at < length bytes → first_srat_fault bytes (rest_from at bytes) ≡ None
    → is_whole_entry at bytes ≡ true
whole_here at bytes before none =
    true_from_ne_false (is_whole_entry at bytes) (λ broken. let fault = broken_fault at bytes before broken in cc)

pub near_here : (at : ℕ) (bytes : List ℕ) → at < length bytes → first_srat_fault bytes (rest_from at bytes) ≡ None
    → is_block_too_far (srat_entry_at at bytes) ≡ false
near_here at bytes before none =
    false_from_ne_true (is_block_too_far (srat_entry_at at bytes)) (λ far.
    let fault = far_fault at bytes before (whole_here at bytes before none) far in cc)

pub no_fault_after_entry : (at : ℕ) (bytes : List ℕ) → at < length bytes → first_srat_fault bytes (rest_from at bytes) ≡ None
    → first_srat_fault bytes (rest_from (at + entry_length_at at bytes) bytes) ≡ None
no_fault_after_entry at bytes before none =
    sym (later_fault at bytes before (whole_here at bytes before none) (near_here at bytes before none)) ∙ none

-- the values of the entries from an offset on are that of the entry there, if it has one, and
-- those after it
pub values_from_entry : {X : Type 0} (f : ℕ → Option X) (at : ℕ) (bytes : List ℕ) (before : List X) → at < length bytes
    → is_whole_entry at bytes ≡ true
    → before ++ filter_map f (rest_from at bytes)
    ≡ (before ++ option_to_list (f at)) ++ filter_map f (rest_from (at + entry_length_at at bytes) bytes)
values_from_entry {X} f at bytes before here whole = rw (rest_whole at bytes here whole) (by (f at) refl) where
  by : (o : Option X) → f at ≡ o
      → before ++ filter_map f (at ∷ rest_from (at + entry_length_at at bytes) bytes)
      ≡ (before ++ option_to_list (f at)) ++ filter_map f (rest_from (at + entry_length_at at bytes) bytes)
  by None is = rw is (rw append-nil refl)
  by (Some x) is = rw is (sym (append_assoc before (x ∷ []) (filter_map f (rest_from (at + entry_length_at at bytes) bytes))))

pub values_at_end : {X : Type 0} (f : ℕ → Option X) (at : ℕ) (bytes : List ℕ) (before : List X) → length bytes ≤ at
    → before ++ filter_map f (rest_from at bytes) ≡ before
values_at_end f at bytes before ended = rw (rest_end at bytes ended) (rw append-nil refl)

-- if the entry at an offset has a value, the list of all values isn't empty
pub values_not_empty : {X : Type 0} (f : ℕ → Option X) (at : ℕ) (bytes : List ℕ) (before : List X) → at < length bytes
    → is_whole_entry at bytes ≡ true → IsSome (f at) → 0 < length (before ++ filter_map f (rest_from at bytes))
values_not_empty {X} f at bytes before here whole some = rw (rest_whole at bytes here whole) (by (f at) refl some) where
  by : (o : Option X) → f at ≡ o → IsSome o → 0 < length (before ++ filter_map f (at ∷ rest_from (at + entry_length_at at bytes) bytes))
  by None is some = absurd (false≢true some)
  by (Some x) is some = rw is (simp length-append (omega arith))

-- no entry has the fault `Memory`, which the bytes can't have
pub not_memory : (bytes offsets : List ℕ) → first_srat_fault bytes offsets ≢ Some faults.Memory
not_memory bytes [] is = cc
not_memory bytes (at ∷ rest) is =
    by (not_memory bytes rest) (is_whole_entry at bytes) (is_block_too_far (srat_entry_at at bytes)) refl refl is where
      by : first_srat_fault bytes rest ≢ Some faults.Memory → (whole far : Bool) → is_whole_entry at bytes ≡ whole
          → is_block_too_far (srat_entry_at at bytes) ≡ far → first_srat_fault bytes (at ∷ rest) ≢ Some faults.Memory
      by after false far broken is said = let named = rw (broken) at said in cc
      by after true true whole far said = let named = rw (whole, far) at said in cc
      by after true false whole near said = after (rw (whole, near) at said)

-- there are no more entries than bytes
few_offsets : (n at : ℕ) (bytes : List ℕ) → length (entry_offsets_from n at bytes) ≤ n
unfolding entry_offsets_from
few_offsets zero at bytes = omega arith
few_offsets (suc n) at bytes =
    by (few_offsets n (at + entry_length_at at bytes) bytes) (nat_le (length bytes) at) (is_whole_entry at bytes) refl refl where
      by : length (entry_offsets_from n (at + entry_length_at at bytes) bytes) ≤ n
          → (ended whole : Bool) → nat_le (length bytes) at ≡ ended → is_whole_entry at bytes ≡ whole
          → length (entry_offsets_from (suc n) at bytes) ≤ suc n
      by after true whole ended is = rw ended (omega arith)
      by after false false before broken = rw (before, broken) (omega arith)
      by after false true before whole = rw (before, whole) (omega arith)

few_kept : {X : Type 0} (f : ℕ → Option X) (xs : List ℕ) → length (filter_map f xs) ≤ length xs
few_kept f [] = omega arith
few_kept {X} f (x ∷ xs) = by (few_kept f xs) (f x) refl where
  by : length (filter_map f xs) ≤ length xs → (o : Option X) → f x ≡ o → length (filter_map f (x ∷ xs)) ≤ length (x ∷ xs)
  by after None is = rw is (omega arith)
  by after (Some y) is = rw is (omega arith)

pub few_entries : {X : Type 0} (f : ℕ → Option X) (bytes : List ℕ) → length (filter_map f (entry_offsets bytes)) ≤ length bytes
few_entries f bytes = omega (arith, few_kept f (entry_offsets bytes), few_offsets (length bytes) 48 bytes)
