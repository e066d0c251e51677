-- The promise of a call that appends to a text.
use Rattle.std.specs.Prelude.{◌≡◌, ℕ, ◌+◌, ◌<◌, ◌≤◌, List, ◌++◌, length, Result, Ok, Err, Vec, vec_capacity}
use Rattle.std.specs.declared.alloc.Global.{Global}
use Rattle.bm_base.specs.declared.memory.Memory.{Memory}

-- the effect of a call that appends `bytes` to a text, which is `old` before the call and `new`
-- after it. After Ok all bytes are appended, and the capacity isn't smaller than before. The call
-- fails only if `old` had too little room for all bytes, so it can't fail if the room was
-- reserved.
abbrev pub PutsText : Vec ℕ Global → Vec ℕ Global → Result (Unit {0}) Memory → List ℕ → Type 0
PutsText old new (Ok _) bytes = (new.items ≡ old.items ++ bytes) × (vec_capacity old ≤ vec_capacity new)
PutsText old new (Err _) bytes = vec_capacity old < length old.items + length bytes
