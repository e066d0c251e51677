-- What contracts see of a SLIT: a matrix of distances.
use Rattle.std.specs.Prelude.{◌≡◌, ℕ, ◌+◌, ◌*◌, ◌^◌, ◌<◌, List, length, slice_index}
use Rattle.slit_zonelists.specs.declared.table.Slit.{Slit}

-- the number of domains, and the distances row by row: those from domain 0 to each, then those
-- from domain 1, and so on
pub record SlitView : Type 0 where
  pub count : ℕ
  pub cells : List ℕ

-- the matrix of a SLIT, as contracts see it
abbrev pub slit_view : Slit → SlitView
slit_view slit = record { count = slit.count; cells = slit.cells.items }

-- the matrix has a cell from each domain to each domain
abbrev pub IsSquare : SlitView → Type 0
IsSquare m = length m.cells ≡ m.count * m.count

-- the distance from one domain to another (`acpi_numa_slit_init`)
abbrev pub slit_cell : SlitView → ℕ → ℕ → ℕ
slit_cell m row column = slice_index m.cells (row * m.count + column)

-- each distance is a byte
abbrev pub HasBytes : SlitView → Type 0
HasBytes m = (row column : ℕ) → slit_cell m row column < 2 ^ 8
