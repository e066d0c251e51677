-- Lemmas on the order of a zero page's faults: if its length and its number of entries are right,
-- the entries and the initrd decide.
use Rattle.std.proofs.Common.{◌≡◌, ℕ, ◌≤◌, ◌==◌, nat_lt, true, false, List, length, refl, arith}
use Rattle.std.proofs.lemmas.Bool.Decides.{nat_tests}
use Rattle.e820_table.specs.Entries.{first_far_entry}
use Rattle.e820_table.specs.ZeroPage.{zero_page_entry_count, zero_page_entry_fault, initrd_fault, zero_fault}

pub in_order : (bytes : List ℕ) (count : ℕ) → length bytes ≡ 4096 → count ≡ zero_page_entry_count bytes → 2 ≤ count → count ≤ 128
    → zero_fault bytes ≡ zero_page_entry_fault (first_far_entry 0x2D0 count bytes) (initrd_fault bytes)
in_order bytes count whole is some few =
    let page : (length bytes == 4096) ≡ true = rw whole refl in
    let not_few : nat_lt (zero_page_entry_count bytes) 2 ≡ false = grind (arith, nat_tests) in
    let not_many : nat_lt 128 (zero_page_entry_count bytes) ≡ false = grind (arith, nat_tests) in
    rw (is, page, not_few, not_many) refl
