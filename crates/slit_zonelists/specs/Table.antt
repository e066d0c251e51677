-- The bytes of a SLIT (ACPI, section 5.2.17; `struct acpi_table_slit`): the first fault, and the
-- matrix. Numbers are little-endian.
use Rattle.std.specs.Prelude.{ℕ, ◌*◌, ◌-◌, ◌%◌, ◌==◌, Bool, not, nat_lt, nat_eq, if◌then◌else◌, List, length, drop, codes, Option, Some, None, Result, Ok, Err}
use Rattle.std.specs.List.{sum, starts_with}
use Rattle.byteorder.specs.Endian.{little_number}
use Rattle.slit_zonelists.specs.declared.table.SlitFault.{SlitFault}
use Rattle.slit_zonelists.specs.declared.table.SlitFault.TheVariants as faults
use Rattle.slit_zonelists.specs.SlitView.{SlitView}

-- the number of localities (`locality_count`): the u64 at offset 36
abbrev pub locality_count : List ℕ → ℕ
locality_count bytes = little_number 8 (drop 36 bytes)

-- whether `cells` is the number of cells of a matrix with `count` rows and `count` columns
abbrev pub is_square_of : ℕ → ℕ → Bool
is_square_of count cells = count * count == cells

-- The first fault: fewer bytes than the header's 44; another signature; a stated length (the u32
-- at offset 4) that isn't the number of bytes; bytes that don't sum to 0 modulo 256
-- (`acpi_tb_verify_checksum`); or a number of cells after the header that isn't the square of the
-- number of localities.
abbrev pub first_slit_fault : List ℕ → Option SlitFault
first_slit_fault bytes =
    if nat_lt (length bytes) 44 then Some faults.Short
    else (if not (starts_with nat_eq bytes (codes "SLIT")) then Some faults.Signature
    else (if not (little_number 4 (drop 4 bytes) == length bytes) then Some faults.Length
    else (if not (sum bytes % 256 == 0) then Some faults.Checksum
    else (if not (is_square_of (locality_count bytes) (length bytes - 44)) then Some faults.Localities else None))))

-- the matrix, or the fault if there is one
abbrev pub slit_unless_fault : Option SlitFault → SlitView → Result SlitView SlitFault
slit_unless_fault None m = Ok m
slit_unless_fault (Some fault) m = Err fault

-- the matrix of the bytes, whose cells begin at offset 44, or their first fault
abbrev pub slit_of : List ℕ → Result SlitView SlitFault
slit_of bytes = slit_unless_fault (first_slit_fault bytes) (record { count = locality_count bytes; cells = drop 44 bytes })
