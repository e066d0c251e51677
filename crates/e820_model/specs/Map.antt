-- The map, which is a list of runs of addresses, each of one type; and the claims that a list of
-- runs makes.
use Rattle.std.specs.Prelude.{ℕ, ◌+◌, ◌^◌, ◌==◌, ◌<◌, Bool, ◌&&◌, ◌||◌, false, if◌then◌else◌, Option, Some, None, List, [], ◌∷◌}
use Rattle.address_runs.specs.Runs.{RunOf, lies_in, runs_of}
use Rattle.e820_model.specs.Claims.{Claims, type_of}

-- a type for each address, or None for an address without a type
abbrev pub TypeAt : Type 0
TypeAt = ℕ → Option ℕ

-- the type, or `None` for 0, which means no type
abbrev pub type_unless_zero : ℕ → Option ℕ
type_unless_zero k = if k == 0 then None else Some k

-- the type of each address: the greatest type that claims it, or `None` if no type does
abbrev pub kinds : Claims → TypeAt
kinds c x = type_unless_zero (type_of c x)

-- whether the two types are equal
abbrev pub same_kind : ℕ → ℕ → Bool
same_kind a b = a == b

-- the map: the runs of addresses of one type (what the kernel prints as `BIOS-e820: [mem ..]`)
unfoldable pub map_of : Claims → List (RunOf ℕ)
map_of c = runs_of same_kind (kinds c)

-- the claims that a list of ranges with types makes; the ranges may overlap
abbrev pub claims_of : List (RunOf ℕ) → Claims
claims_of [] x k = false
claims_of (r ∷ rs) x k = (lies_in r x && k == r.value) || claims_of rs x k

-- no range is empty, each ends below 2^64, and each type is a u32 above 0
abbrev pub AreValidClaims : List (RunOf ℕ) → Type 0
AreValidClaims [] = Unit {0}
AreValidClaims (r ∷ rs) = (0 < r.size) × (r.base + r.size < 2 ^ 64) × (0 < r.value) × (r.value < 2 ^ 32) × AreValidClaims rs
