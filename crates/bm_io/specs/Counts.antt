-- Counters of events outside the program. Each is a u64 that stops at 2^64 - 1.
use Rattle.std.specs.Prelude.{ℕ, ◌+◌, ◌-◌, ◌^◌, ◌≤◌, min}

-- the counter after n more events: it stops at 2^64 - 1 (`u64::saturating_add`)
abbrev pub count_after : ℕ → ℕ → ℕ
count_after before n = min (before + n) (2 ^ 64 - 1)

-- the counter rose: it is greater now, or has reached 2^64 - 1
abbrev pub Rose : ℕ → ℕ → Type 0
Rose before now = count_after before 1 ≤ now

-- the counter rose by more than `limit`, or has reached 2^64 - 1
abbrev pub RoseByMoreThan : ℕ → ℕ → ℕ → Type 0
RoseByMoreThan limit before now = count_after before (limit + 1) ≤ now
