-- The claims of an address: the set of types that the firmware's entries, the extension, the
-- options and the EFI map give it.
use Rattle.std.specs.Prelude.{ℕ, zero, suc, ◌+◌, ◌^◌, ◌==◌, Bool, false, ◌&&◌, ◌||◌, ◌<◌, not, nat_lt, if◌then◌else◌, List, [], ◌∷◌}
use Rattle.bm_base.specs.Range.{RangeView, covers}
use Rattle.bm_base.specs.declared.range.TheConstants.{FRAME_SIZE}
use Rattle.e820_model.specs.declared.entry.TheConstants.{E820_TYPE_RAM, E820_TYPE_RESERVED}
use Rattle.e820_model.specs.declared.entry.Entry.{Entry}
use Rattle.e820_model.specs.declared.entry.Edit.{Edit}
use Rattle.e820_model.specs.declared.entry.Edit.TheVariants as edit

-- a set of types: whether a type is in the set. Type 0 means no type, so it is in no set.
abbrev pub Types : Type 0
Types = ℕ → Bool

-- for each address, the set of types that claim it
abbrev pub Claims : Type 0
Claims = ℕ → Types

-- the claims of a table without entries: no type claims any address
abbrev pub no_claims : Claims
no_claims x k = false

-- whether the entry covers the address (`struct boot_e820_entry`: address, size, type)
abbrev pub is_covered_by : Entry → ℕ → Bool
is_covered_by e x = covers (record { base = e.addr; size = e.size }) x

-- each entry's address plus its size is at most 2^64 - 1
abbrev pub EntriesFit : List Entry → Type 0
EntriesFit [] = Unit {0}
EntriesFit (e ∷ es) = (e.addr + e.size < 2 ^ 64) × EntriesFit es

-- the types of the entries that cover the address
abbrev pub claims_of_entries : List Entry → Claims
claims_of_entries [] x k = false
claims_of_entries (e ∷ es) x k = (is_covered_by e x && nat_lt 0 k && k == e.kind) || claims_of_entries es x k

-- the greatest type below n in the set, or 0 if the set has no type below n
unfoldable pub greatest_below : Types → ℕ → ℕ
greatest_below s zero = 0
greatest_below s (suc n) = if s n then n else greatest_below s n

-- the greatest type of the set, or 0 if the set is empty; types are below 2^32
unfoldable pub greatest_type : Types → ℕ
greatest_type s = greatest_below s (2 ^ 32)

-- the type of an address: the greatest type that claims it, or 0 if no type does
abbrev pub type_of : Claims → ℕ → ℕ
type_of c x = greatest_type (c x)

-- the claims after settling: each address keeps only its greatest claim (`e820__update_table`)
abbrev pub settled_claims : Claims → Claims
settled_claims c x k = nat_lt 0 k && k == type_of c x

-- the union of two tables' claims: an address has the claims that either of them gives it
abbrev pub union_of_claims : Claims → Claims → Claims
union_of_claims c d x k = c x k || d x k

-- the claims after an edit (`parse_memmap_one`: `e820__range_add`, `e820__range_remove` with and
-- without a type, `e820__range_update`, and the cleared table of `exactmap`)
abbrev pub after_edit : Edit → Claims → Claims
after_edit (edit.Add range kind) c x k = c x k || (covers range x && k == kind)
after_edit (edit.Remove range kind) c x k = c x k && not (covers range x && k == kind)
after_edit (edit.RemoveAll range) c x k = c x k && not (covers range x)
after_edit (edit.Change range from to) c x k =
    if covers range x then ((c x from && k == to) || (c x k && not (k == from))) else c x k
after_edit edit.Clear c x k = false

-- each type in the edit is above 0
abbrev pub HasTypes : Edit → Type 0
HasTypes (edit.Add range kind) = 0 < kind
HasTypes (edit.Remove range kind) = 0 < kind
HasTypes (edit.RemoveAll range) = Unit {0}
HasTypes (edit.Change range from to) = (0 < from) × (0 < to)
HasTypes edit.Clear = Unit {0}

-- all types in the edits are above 0
abbrev pub HaveTypes : List Edit → Type 0
HaveTypes [] = Unit {0}
HaveTypes (e ∷ es) = HasTypes e × HaveTypes es

-- the claims after all edits, in order
abbrev pub after_edits : List Edit → Claims → Claims
after_edits [] c = c
after_edits (e ∷ es) c = after_edits es (after_edit e c)

-- the first page, which belongs to the BIOS even if firmware calls it RAM
abbrev pub first_page : RangeView
first_page = record { base = 0; size = FRAME_SIZE }

-- the addresses from 640 KiB to 1 MiB, which are never RAM in the final map
abbrev pub bios_area : RangeView
bios_area = record { base = 0xA0000; size = 0x60000 }

-- the claims after trimming (`trim_bios_range`): RAM in the first page becomes reserved, and RAM
-- from 640 KiB to 1 MiB is removed
abbrev pub after_bios_trim : Claims → Claims
after_bios_trim c =
    after_edit (edit.Remove bios_area E820_TYPE_RAM) (after_edit (edit.Change first_page E820_TYPE_RAM E820_TYPE_RESERVED) c)

-- the claims after step 1: those of the zero page's entries, of which each address keeps only the
-- greatest (`e820__memory_setup`)
abbrev pub zero_page_claims : List Entry → Claims
zero_page_claims entries = settled_claims (claims_of_entries entries)

-- the claims after step 2: those of the extension's entries are added, and each address keeps only
-- its greatest claim (`e820__memory_setup_extended`)
abbrev pub with_extension : List Entry → Claims → Claims
with_extension extension c = settled_claims (union_of_claims c (claims_of_entries extension))

-- the claims after steps 3 to 5: the options' edits are applied in order, the entries of the
-- firmware's EFI map are added if an option asks for them (`do_add_efi_memmap`), and each address
-- keeps only its greatest claim (`e820__finish_early_params`)
abbrev pub with_options : List Edit → List Entry → Claims → Claims
with_options edits added c = settled_claims (union_of_claims (after_edits edits c) (claims_of_entries added))

-- the claims of the final map: the zero page's entries, then the extension's entries, the options'
-- edits and the entries of the EFI map (`added`), and then RAM is trimmed in the areas of the BIOS.
-- `added` is empty unless there is an EFI map and an option asks for it.
abbrev pub final_claims : List Entry → List Entry → List Edit → List Entry → Claims
final_claims entries extension edits added =
    after_bios_trim (with_options edits added (with_extension extension (zero_page_claims entries)))
