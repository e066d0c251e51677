-- The state of each byte (whether it is free, and whether it is in a block), and what the sweep
-- has found up to an address.
use Rattle.std.specs.Prelude.{ℕ, ◌+◌, ◌*◌, ◌/◌, ◌<◌, ◌&&◌, Bool, not, nat_lt, if◌then◌else◌, List, [], ◌∷◌, Option, Some, None}
use Rattle.std.specs.List.{list_any}
use Rattle.bm_base.specs.Range.{RangeView, covers, end_of}
use Rattle.audit_lines.specs.Blocks.{BlockLineView, bytes_of_block}
use Rattle.audit_lines.specs.declared.lines.MapLine.{MapLine}
use Rattle.boot_audit.specs.declared.sweep.ByteState.{ByteState}
use Rattle.boot_audit.specs.declared.sweep.ByteState.TheVariants as states
use Rattle.boot_audit.specs.Frames.{is_in_memory, has_owner}

-- the first range of the list, if there is one, ends above `at`
abbrev pub FirstEndsAbove : ℕ → List RangeView → Type 0
FirstEndsAbove at [] = Unit {0}
FirstEndsAbove at (r ∷ rs) = at < end_of r

-- whether the byte at address `x` is in the range of a line that the sweep considers (`counts`)
abbrev pub is_in_relevant_line : {L : Type 0} → (L → Bool) → (L → RangeView) → List L → ℕ → Bool
is_in_relevant_line counts extent lines x = list_any (λ l. counts l && covers (extent l) x) lines

-- whether the byte at address `x` is in a block of the list
abbrev pub is_byte_in_block : List BlockLineView → ℕ → Bool
is_byte_in_block blocks x = list_any (λ b. covers (bytes_of_block b) x) blocks

-- whether the byte at address `x` is free: below the address `limit`, in memory, and without an
-- owner
abbrev pub is_free_byte : ℕ → List MapLine → List RangeView → ℕ → Bool
is_free_byte limit map owners x = (nat_lt x limit && is_in_memory map x) && not (has_owner owners x)

-- the state of a byte, by whether it is free and whether it is in a block
abbrev pub byte_state_of : Bool → Bool → ByteState
byte_state_of free in_block =
    if free then (if in_block then states.Sound else states.Lost) else (if in_block then states.NotFree else states.Sound)

-- the state of the byte at address `x`
unfoldable pub byte_state_at : ℕ → List MapLine → List RangeView → List BlockLineView → ℕ → ByteState
byte_state_at limit map owners blocks x = byte_state_of (is_free_byte limit map owners x) (is_byte_in_block blocks x)

-- the lowest frame whose 4096 bytes are all at addresses from `from` up to but not including
-- `until`
abbrev pub first_whole_frame : ℕ → ℕ → Option ℕ
first_whole_frame from until =
    if nat_lt until (4096 * ((from + 4095) / 4096) + 4096) then None else Some ((from + 4095) / 4096)

-- the frame that was found first, or else the frame that was found next
abbrev pub or_first : Option ℕ → Option ℕ → Option ℕ
or_first None found = found
or_first (Some frame) found = Some frame

-- what the sweep knows after a piece of bytes that have one state and end at address `until`: the
-- lowest lost frame (free, but in no block), and the address at which the lost bytes that end at
-- `until` start. The first two arguments are these values before the piece. If the bytes of the
-- piece aren't lost, the second value is `until`.
abbrev pub advance_lost_frame : Option ℕ → ℕ → ℕ → ByteState → Option ℕ × ℕ
advance_lost_frame lost from until states.Lost = (or_first lost (first_whole_frame from until), from)
advance_lost_frame lost from until states.Sound = (lost, until)
advance_lost_frame lost from until states.NotFree = (lost, until)
