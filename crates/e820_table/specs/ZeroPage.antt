-- The zero page: `struct boot_params`, 4,096 bytes. Only its table of entries and its initrd are
-- read.
use Rattle.std.specs.Prelude.{ℕ, ◌==◌, List, length, slice_index, not, nat_lt, if◌then◌else◌, Option, Some, None}
use Rattle.bm_base.specs.Range.{RangeView}
use Rattle.e820_model.specs.declared.entry.Entry.{Entry}
use Rattle.e820_table.specs.declared.zero_page.ZeroFault.{ZeroFault}
use Rattle.e820_table.specs.declared.zero_page.ZeroFault.TheVariants as faults
use Rattle.e820_table.specs.declared.zero_page.ZeroPage.{ZeroPage}
use Rattle.e820_table.specs.Entries.{first_entries, first_far_entry}
use Rattle.e820_table.specs.Initrd.{initrd_of, is_initrd_far}

-- the number of entries: the byte `e820_entries`, at offset 0x1E8
abbrev pub zero_page_entry_count : List ℕ → ℕ
zero_page_entry_count bytes = slice_index bytes 0x1E8

-- the offset of the first entry in the zero page (`e820_table`)
abbrev pub table_offset : ℕ
table_offset = 0x2D0

-- the entries of the page, in the order of the table
abbrev pub zero_page_entries : List ℕ → List Entry
zero_page_entries bytes = first_entries table_offset (zero_page_entry_count bytes) bytes

-- the information about memory in a zero page: its entries, and the range of its initrd, if there
-- is one
pub record ZeroPageView : Type 0 where
  pub entries : List Entry
  pub initrd : Option RangeView

-- what the bytes of a whole zero page say of memory: its entries, and the range of its initrd
abbrev pub zero_page_of : List ℕ → ZeroPageView
zero_page_of bytes = record { entries = zero_page_entries bytes; initrd = initrd_of bytes }

-- what contracts see of the code's `ZeroPage`
abbrev pub zero_page_view : ZeroPage → ZeroPageView
zero_page_view page = record { entries = page.entries.items; initrd = page.initrd }

-- the fault `InitrdTooFar` if the page has an initrd whose address plus size exceeds 2^64 - 4,096,
-- else None
abbrev pub initrd_fault : List ℕ → Option ZeroFault
initrd_fault bytes = if is_initrd_far bytes then Some faults.InitrdTooFar else None

-- the fault `EntryTooFar` with the index, or the second argument if no index is given. The second
-- argument is the result of the test after that of the entries.
abbrev pub zero_page_entry_fault : Option ℕ → Option ZeroFault → Option ZeroFault
zero_page_entry_fault None after = after
zero_page_entry_fault (Some index) after = Some (faults.EntryTooFar index)

-- the first fault of the bytes. The tests are, in this order: there are 4,096 bytes; at least two
-- entries (`append_e820_table` refuses a table of fewer); at most 128 entries; no entry whose
-- address plus size exceeds 2^64 - 1, from index 0 on; no initrd whose address plus size exceeds
-- 2^64 - 4,096.
abbrev pub zero_fault : List ℕ → Option ZeroFault
zero_fault bytes =
    if not (length bytes == 4096) then Some faults.WrongLength
    else (if nat_lt (zero_page_entry_count bytes) 2 then Some faults.TooFew
    else (if nat_lt 128 (zero_page_entry_count bytes) then Some faults.TooMany
    else zero_page_entry_fault (first_far_entry table_offset (zero_page_entry_count bytes) bytes) (initrd_fault bytes)))
