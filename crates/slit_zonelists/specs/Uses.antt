-- Defines whether the distances of a SLIT are used (`slit_valid`, `acpi_numa_slit_init`).
use Rattle.std.specs.Prelude.{◌≡◌, ◌⊎◌, ℕ, ◌==◌, ◌<◌, ◌≤◌, Bool, true, not, nat_le, if◌then◌else◌, List, [], ◌∷◌, Option, Some, None}
use Rattle.std.specs.List.{find, filter_map, range_with_len}
use Rattle.std.specs.Option.{option_map}
use Rattle.slit_zonelists.specs.declared.uses.SlitUse.{SlitUse}
use Rattle.slit_zonelists.specs.declared.uses.SlitUse.TheVariants as uses
use Rattle.slit_zonelists.specs.SlitView.{SlitView, slit_cell}

-- a cell from a domain to itself is bad if it isn't 10, and any other is bad if it is 10 or less
abbrev pub is_bad_cell : SlitView → ℕ → ℕ → Bool
is_bad_cell m row column = if row == column then not (slit_cell m row column == 10) else nat_le (slit_cell m row column) 10

-- the first column in which the row has a bad cell
abbrev pub first_bad_column : SlitView → ℕ → Option ℕ
first_bad_column m row = find (is_bad_cell m row) (range_with_len 0 m.count)

-- the first bad cell of the row, by its row and column
abbrev pub first_bad_in_row : SlitView → ℕ → Option (ℕ × ℕ)
first_bad_in_row m row = option_map (λ column. (row, column)) (first_bad_column m row)

-- the first member of a list, if there is one
abbrev pub first_member : {X : Type 0} → List X → Option X
first_member [] = None
first_member (x ∷ xs) = Some x

-- the first bad cell, by row and then by column
abbrev pub first_bad_cell : SlitView → Option (ℕ × ℕ)
first_bad_cell m = first_member (filter_map (first_bad_in_row m) (range_with_len 0 m.count))

-- whether the matrix is used, given its first bad cell: it is used if there is none; else the
-- result names that cell
abbrev pub use_by_bad_cell : Option (ℕ × ℕ) → SlitUse
use_by_bad_cell None = uses.Used
use_by_bad_cell (Some at) = uses.NotValid at.0 at.1

-- whether the matrix is used, and if not, the first reason against it: there is no SLIT, no node
-- has a domain (no SRAT is used), or a cell is bad
abbrev pub slit_use : Option SlitView → List ℕ → SlitUse
slit_use None domains = uses.Absent
slit_use (Some m) [] = uses.NoSrat
slit_use (Some m) (d ∷ ds) = use_by_bad_cell (first_bad_cell m)

-- the cell is bad, and no other bad cell comes before it, in the order of rows and then of columns
pub record IsFirstBadCell (m : SlitView) (row column : ℕ) : Type 0 where
  pub low : row < m.count
  pub left : column < m.count
  pub bad : is_bad_cell m row column ≡ true
  pub least : (r c : ℕ) → r < m.count → c < m.count → is_bad_cell m r c ≡ true → (row < r) ⊎ ((row ≡ r) × (column ≤ c))
