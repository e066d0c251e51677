-- Worked examples: small maps, from their entries.
use Rattle.std.proofs.Common.{◌≡◌, ℕ, ◌^◌, ◌<◌, ◌+◌, ◌==◌, Bool, true, false, ◌&&◌, ◌||◌, nat_lt, List, [], ◌∷◌, refl, arith}
use Rattle.std.proofs.lemmas.Bool.Decides.{nat_tests}
use Rattle.e820_model.specs.Claims.{Claims, no_claims, is_covered_by, EntriesFit, type_of, settled_claims, union_of_claims, claims_of_entries, after_edit, HasTypes, after_edits, after_bios_trim, zero_page_claims, with_extension, final_claims}
use Rattle.e820_model.specs.declared.entry.Entry.{Entry}
use Rattle.e820_model.specs.declared.entry.Edit.{Edit}
use Rattle.e820_model.specs.declared.entry.Edit.TheVariants as edit
use Rattle.bm_base.specs.Range.{RangeView}
use Rattle.e820_model.proofs.ClaimLaws.{greatest_is}

-- RAM below 2 MiB, with 512 KiB of ACPI data in it from 1 MiB on
abbrev ram_and_acpi : List Entry
ram_and_acpi = record { addr = 0x100000; size = 0x80000; kind = 3 } ∷ (record { addr = 0; size = 0x200000; kind = 1 } ∷ [])

-- an entry covers its first and last byte but not the next; an entry may end at 2^64 - 1 but not
-- above
covered_examples : (is_covered_by (record { addr = 0x1000; size = 0x1000; kind = 1 }) 0x1000 ≡ true)
    × (is_covered_by (record { addr = 0x1000; size = 0x1000; kind = 1 }) 0x1FFF ≡ true)
    × (is_covered_by (record { addr = 0x1000; size = 0x1000; kind = 1 }) 0xFFF ≡ false)
    × (is_covered_by (record { addr = 0x1000; size = 0x1000; kind = 1 }) 0x2000 ≡ false)
covered_examples = (refl, refl, refl, refl)

ends_at_the_end : EntriesFit (record { addr = 0xFFFFFFFFFFFFF000; size = 0xFFF; kind = 2 } ∷ [])
    × (¬ EntriesFit (record { addr = 0xFFFFFFFFFFFFF000; size = 0x1000; kind = 2 } ∷ []))
ends_at_the_end = ((omega arith, tt), λ ends. let small : 0xFFFFFFFFFFFFF000 + 0x1000 < 2 ^ 64 = ends.0 in absurd (omega arith))

-- both entries claim address 1 MiB, neither claims 2 MiB; an empty entry and an entry of type 0
-- claim nothing
claims_examples : (claims_of_entries ram_and_acpi 0x100000 1 ≡ true) × (claims_of_entries ram_and_acpi 0x100000 3 ≡ true)
    × (claims_of_entries ram_and_acpi 0x200000 1 ≡ false)
    × (claims_of_entries (record { addr = 0x1000; size = 0; kind = 1 } ∷ []) 0x1000 1 ≡ false)
    × (claims_of_entries (record { addr = 0; size = 0x1000; kind = 0 } ∷ []) 0 0 ≡ false)
claims_examples = (refl, refl, refl, refl, refl)

-- the type at 1 MiB is ACPI data, although the entry of RAM comes later in the table
later_does_not_win : type_of (claims_of_entries ram_and_acpi) 0x100000 ≡ 3
later_does_not_win =
    greatest_is (claims_of_entries ram_and_acpi 0x100000) 3 (omega arith) (λ some. refl) (λ k higher small. grind (arith, nat_tests))

-- settling leaves only ACPI data at 1 MiB, and adds no claim
settled_examples : (settled_claims (claims_of_entries ram_and_acpi) 0x100000 3 ≡ true)
    × (settled_claims (claims_of_entries ram_and_acpi) 0x100000 1 ≡ false)
    × (settled_claims (claims_of_entries ram_and_acpi) 0x200000 0 ≡ false)
settled_examples = (rw later_does_not_win refl, rw later_does_not_win refl, refl)

-- one page, and what each kind of edit does to it (`memmap=4K@0x1000` and the like)
abbrev page : RangeView
page = record { base = 0x1000; size = 0x1000 }

abbrev ram_and_nvs : Claims
ram_and_nvs x k = k == 1 || k == 4

add_examples : (after_edit (edit.Add page 2) ram_and_nvs 0x1FFF 2 ≡ true) × (after_edit (edit.Add page 2) ram_and_nvs 0x1FFF 1 ≡ true)
    × (after_edit (edit.Add page 2) ram_and_nvs 0x2000 2 ≡ false)
add_examples = (refl, refl, refl)

remove_examples : (after_edit (edit.Remove page 1) ram_and_nvs 0x1000 1 ≡ false)
    × (after_edit (edit.Remove page 1) ram_and_nvs 0x1000 4 ≡ true)
    × (after_edit (edit.Remove page 1) ram_and_nvs 0xFFF 1 ≡ true)
remove_examples = (refl, refl, refl)

remove_all_examples : (after_edit (edit.RemoveAll page) ram_and_nvs 0x1000 1 ≡ false)
    × (after_edit (edit.RemoveAll page) ram_and_nvs 0x1000 4 ≡ false) × (after_edit (edit.RemoveAll page) ram_and_nvs 0x2000 4 ≡ true)
remove_all_examples = (refl, refl, refl)

-- an edit with type 0 has no valid types
type_0_is_none : (¬ HasTypes (edit.Add page 0)) × (¬ HasTypes (edit.Change page 1 0)) × (¬ HasTypes (edit.Change page 0 1))
type_0_is_none = (
  λ some. absurd (omega arith),
  λ some. let none : 0 < 0 = some.1 in absurd (omega arith),
  λ some. let none : 0 < 0 = some.0 in absurd (omega arith),
)

-- edits are applied in order: cleared and then added, or added and then cleared
after_examples : (after_edits (edit.Clear ∷ edit.Add page 1 ∷ []) ram_and_nvs 0x1000 1 ≡ true)
    × (after_edits (edit.Add page 1 ∷ edit.Clear ∷ []) ram_and_nvs 0x1000 1 ≡ false)
    × (after_edits (edit.Remove page 1 ∷ edit.Change page 1 2 ∷ []) ram_and_nvs 0x1000 2 ≡ false)
    × (after_edits [] ram_and_nvs 0x1000 4 ≡ true)
after_examples = (refl, refl, refl, refl)

-- a change replaces one type and keeps the other
change_examples : (after_edit (edit.Change (record { base = 0; size = 0x200000 }) 1 4) (claims_of_entries ram_and_acpi) 0x100000 4 ≡ true)
    × (after_edit (edit.Change (record { base = 0; size = 0x200000 }) 1 4) (claims_of_entries ram_and_acpi) 0x100000 1 ≡ false)
    × (after_edit (edit.Change (record { base = 0; size = 0x200000 }) 1 4) (claims_of_entries ram_and_acpi) 0x100000 3 ≡ true)
change_examples = (refl, refl, refl)

-- the trim reserves the first page but not the second, and removes RAM from 640 KiB up but not
-- below
trim_examples : (after_bios_trim (claims_of_entries ram_and_acpi) 0xFFF 2 ≡ true)
    × (after_bios_trim (claims_of_entries ram_and_acpi) 0x1000 1 ≡ true)
    × (after_bios_trim (claims_of_entries ram_and_acpi) 0xA0000 1 ≡ false)
    × (after_bios_trim (claims_of_entries ram_and_acpi) 0x9FFFF 1 ≡ true)
trim_examples = (refl, refl, refl, refl)

-- all steps: RAM below 2 MiB with ACPI data in it; an extension with a page of ACPI NVS at 1.5 MiB;
-- `memmap=516K$1M`, which reserves the ACPI data and one more page; and an EFI map with RAM below 2
-- MiB and ACPI data in the page at 0x190000
abbrev extension : List Entry
extension = record { addr = 0x180000; size = 0x1000; kind = 4 } ∷ []

abbrev edits : List Edit
edits = edit.Add (record { base = 0x100000; size = 0x81000 }) 2 ∷ []

abbrev efi : List Entry
efi = record { addr = 0; size = 0x200000; kind = 1 } ∷ record { addr = 0x190000; size = 0x1000; kind = 3 } ∷ []

abbrev first_claims : Claims
first_claims = zero_page_claims ram_and_acpi

abbrev second_claims : Claims
second_claims = with_extension extension first_claims

-- the steps after which an address has a single claim, and its type then
abbrev alone : ℕ → ℕ → Bool
alone t k = nat_lt 0 k && k == t

extended : (x t u : ℕ) → type_of (claims_of_entries ram_and_acpi) x ≡ t → u < 2 ^ 32
    → (0 < u → (alone t u || claims_of_entries extension x u) ≡ true)
    → ((k : ℕ) → u < k → k < 2 ^ 32 → (alone t k || claims_of_entries extension x k) ≡ false)
    → type_of (union_of_claims first_claims (claims_of_entries extension)) x ≡ u
extended x t u known small is_in none =
    greatest_is (union_of_claims first_claims (claims_of_entries extension) x) u small (λ some. rw known (is_in some))
    (λ k higher below. rw known (none k higher below))

abbrev third_claims : Claims
third_claims = union_of_claims (after_edits edits second_claims) (claims_of_entries efi)

changed : (x t u : ℕ) → type_of (union_of_claims first_claims (claims_of_entries extension)) x ≡ t → u < 2 ^ 32
    → (0 < u → (after_edit (edit.Add (record { base = 0x100000; size = 0x81000 }) 2) (λ y. alone t) x u || claims_of_entries efi x u)
    ≡ true)
    → ((k : ℕ) → u < k → k < 2 ^ 32
    → (after_edit (edit.Add (record { base = 0x100000; size = 0x81000 }) 2) (λ y. alone t) x k || claims_of_entries efi x k) ≡ false)
    → type_of third_claims x ≡ u
changed x t u known small is_in none =
    greatest_is (third_claims x) u small (λ some. rw known (is_in some)) (λ k higher below. rw known (none k higher below))

-- at 1.5 MiB the extension's type replaces RAM since it is greater, and later the option's lower
-- type doesn't replace it
nvs_with_extension : type_of (union_of_claims first_claims (claims_of_entries extension)) 0x180000 ≡ 4
nvs_with_extension =
    let ram : type_of (claims_of_entries ram_and_acpi) 0x180000 ≡ 1 =
    greatest_is (claims_of_entries ram_and_acpi 0x180000) 1 (omega arith) (λ some. refl) (λ k higher small. grind (arith, nat_tests)) in
    extended 0x180000 1 4 ram (omega arith) (λ some. refl) (λ k higher small. grind (arith, nat_tests))

extension_wins : (with_extension extension first_claims 0x180000 4 ≡ true) × (with_extension extension first_claims 0x180000 1 ≡ false)
extension_wins = (rw nvs_with_extension refl, rw nvs_with_extension refl)

nvs_stays : type_of third_claims 0x180000 ≡ 4
nvs_stays = changed 0x180000 4 4 nvs_with_extension (omega arith) (λ some. refl) (λ k higher small. grind (arith, nat_tests))

nvs_in_the_map : final_claims ram_and_acpi extension edits efi 0x180000 4 ≡ true
nvs_in_the_map = rw nvs_stays refl

-- the page that the EFI map calls ACPI data was RAM before
ram_before : type_of (union_of_claims first_claims (claims_of_entries extension)) 0x190000 ≡ 1
ram_before =
    let ram : type_of (claims_of_entries ram_and_acpi) 0x190000 ≡ 1 =
    greatest_is (claims_of_entries ram_and_acpi 0x190000) 1 (omega arith) (λ some. refl) (λ k higher small. grind (arith, nat_tests)) in
    extended 0x190000 1 1 ram (omega arith) (λ some. refl) (λ k higher small. grind (arith, nat_tests))

efi_wins : (final_claims ram_and_acpi extension edits efi 0x190000 3 ≡ true)
    × (final_claims ram_and_acpi extension edits efi 0x190000 1 ≡ false)
efi_wins =
    let acpi : type_of third_claims 0x190000 ≡ 3 =
    changed 0x190000 1 3 ram_before (omega arith) (λ some. refl) (λ k higher small. grind (arith, nat_tests)) in
    (rw acpi refl, rw acpi refl)

-- the EFI map is added after the edits: `memmap=exactmap` clears the firmware's table, but not the
-- EFI map
after_the_edits : (entries more : List Entry) → final_claims entries more (edit.Clear ∷ []) efi 0x190000 3 ≡ true
after_the_edits entries more =
    let acpi : type_of (union_of_claims no_claims (claims_of_entries efi)) 0x190000 ≡ 3 =
    greatest_is (union_of_claims no_claims (claims_of_entries efi) 0x190000) 3 (omega arith) (λ some. refl)
    (λ k higher small. grind (arith, nat_tests)) in
    rw acpi refl

-- before the trim the first byte and 640 KiB are RAM; after it the first byte is reserved and 640
-- KiB is nothing
ram_until_the_trim : (x : ℕ) → x < 0x100000 → type_of third_claims x ≡ 1
ram_until_the_trim x low =
    let ram : type_of (claims_of_entries ram_and_acpi) x ≡ 1 =
    greatest_is (claims_of_entries ram_and_acpi x) 1 (omega arith) (λ some. grind (arith, nat_tests))
    (λ k higher small. grind (arith, nat_tests)) in
    let still : type_of (union_of_claims first_claims (claims_of_entries extension)) x ≡ 1 =
    extended x 1 1 ram (omega arith) (λ some. grind (arith, nat_tests)) (λ k higher small. grind (arith, nat_tests)) in
    changed x 1 1 still (omega arith) (λ some. grind (arith, nat_tests)) (λ k higher small. grind (arith, nat_tests))

first_byte_in_the_map : (final_claims ram_and_acpi extension edits efi 0 2 ≡ true)
    × (final_claims ram_and_acpi extension edits efi 0 1 ≡ false)
first_byte_in_the_map = let ram : type_of third_claims 0 ≡ 1 = ram_until_the_trim 0 (omega arith) in (rw ram refl, rw ram refl)

ram_below_640K : (final_claims ram_and_acpi extension edits efi 0xA0000 1 ≡ false)
    × (final_claims ram_and_acpi extension edits efi 0x9FFFF 1 ≡ true)
ram_below_640K = (rw (ram_until_the_trim 0xA0000 (omega arith)) refl, rw (ram_until_the_trim 0x9FFFF (omega arith)) refl)
