-- A measure for loops over the names of a list.
use Rattle.std.proofs.Common.{ℕ, ◌+◌, List, Option, Some, None, length}

-- 0 after the last name, else one more than the number of bytes that are left
abbrev pub left : Option (List ℕ) → ℕ
left None = 0
left (Some text) = length text + 1
