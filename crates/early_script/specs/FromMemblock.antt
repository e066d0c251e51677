-- What lines read from memblock, and the outcome for a refusal of memblock.
use Rattle.std.specs.Prelude.{◌≡◌, ℕ, Result, Ok, Err}
use Rattle.bm_base.specs.declared.memory.Memory.{Memory}
use Rattle.phys_store.specs.Bytes.{byte_of}
use Rattle.growth_model.specs.declared.refusal.Refusal.{Refusal}
use Rattle.growth_model.specs.declared.refusal.Refusal.TheVariants as refusal
use Rattle.memblock_grow.specs.MemblockView.{MemblockView}
use Rattle.early_script.specs.declared.outcome.Outcome.{Outcome}
use Rattle.early_script.specs.declared.outcome.Outcome.TheVariants as outcomes
use Rattle.early_script.specs.LiveView.{LiveView}
use Rattle.early_script.specs.Effects.{ScriptState}

-- the state before a line, for these live IDs and this memblock
abbrev pub state_of_memblock : LiveView → MemblockView → ScriptState
state_of_memblock ids m = record { kernel = m.kernel; items = m.journal.items; ids = ids }

-- the byte at each address, as the store of the memblock has it
abbrev pub memblock_bytes : MemblockView → ℕ → ℕ
memblock_bytes m = byte_of m.tables.store

-- the result of a line that memblock refused: the reason is the outcome, except that out of memory
-- is an error and ends the script
abbrev pub AnswersRefusal : Result Outcome Memory → Refusal → Type 0
AnswersRefusal (Ok answer) refusal.NoGap = answer ≡ outcomes.NoGap
AnswersRefusal (Ok answer) (refusal.NoGapForTable w room) = answer ≡ outcomes.NoGapForTable w room
AnswersRefusal (Ok answer) refusal.Memory = ⊥
AnswersRefusal (Err memory) refusal.NoGap = ⊥
AnswersRefusal (Err memory) (refusal.NoGapForTable w room) = ⊥
AnswersRefusal (Err memory) refusal.Memory = Unit {0}
