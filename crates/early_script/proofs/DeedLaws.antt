-- What holds after a line, by its act.
use Rattle.std.proofs.Common.{◌≡◌, ℕ, None, List, [], ◌++◌, Result, IsOk, refl}
use Rattle.std.proofs.lemmas.List.{append-nil}
use Rattle.bm_base.specs.declared.memory.Memory.{Memory}
use Rattle.script_reader.specs.declared.act.Act.{Act}
use Rattle.growth_model.specs.Bytes.{Fill, Follows, AreBytesFromHistory}
use Rattle.memblock_grow.specs.MemblockView.{MemblockView}
use Rattle.early_script.specs.declared.outcome.Outcome.{Outcome}
use Rattle.early_script.specs.LiveView.{LiveView}
use Rattle.early_script.specs.Effects.{ScriptState, LineEffect, OnlyAnswers, EndsAsLine, byte_after_line, fills_after_line, act_effect}
use Rattle.early_script.specs.FromMemblock.{state_of_memblock, memblock_bytes}
use Rattle.early_script.proofs.RunLaws.{only-answers, bytes-quiet}
use Rattle.early_script.proofs.HoldLaws.{holds-quiet}

-- a line that only returns an outcome leaves the state unchanged
pub nothing-done : (s : ScriptState) → record { kernel = s.kernel; items = s.items ++ []; ids = s.ids } ≡ s
nothing-done s = rw append-nil refl

-- a call ended as the effect says, in its result and in each byte
pub record Ran (r : Result Outcome Memory) (old new : ScriptState) (f g : ℕ → ℕ) (d : LineEffect) : Type 0 where
  pub acts : EndsAsLine r old new d
  pub answered : OnlyAnswers old d → IsOk r
  pub bytes : (x : ℕ) → g x ≡ byte_after_line r old new d x (f x)
  pub holds : (fills : List Fill) → AreBytesFromHistory old.kernel old.items fills f
      → AreBytesFromHistory new.kernel new.items (fills_after_line r d fills) g

-- the call ended by the effect of the act, from the IDs and the memblock before to those after
abbrev pub RanAct : Result Outcome Memory → LiveView → MemblockView → LiveView → MemblockView → Act → Type 0
RanAct r ids m next n a =
    Ran r (state_of_memblock ids m) (state_of_memblock next n) (memblock_bytes m) (memblock_bytes n)
    (act_effect (state_of_memblock ids m) (memblock_bytes m) a)

-- the same is true of an equal act, and of one whose effect fills nothing
module _ (r : Result Outcome Memory) (ids : LiveView) (m : MemblockView) (next : LiveView) (n : MemblockView) (a b : Act) (is : a ≡ b) where
  abbrev d : LineEffect
  d = act_effect (state_of_memblock ids m) (memblock_bytes m) b

  pub ran-as : EndsAsLine r (state_of_memblock ids m) (state_of_memblock next n) d
      → ((x : ℕ) → memblock_bytes n x ≡ byte_after_line r (state_of_memblock ids m) (state_of_memblock next n) d x (memblock_bytes m x))
      → ((fills : List Fill) → AreBytesFromHistory m.kernel m.journal.items fills (memblock_bytes m)
      → AreBytesFromHistory n.kernel n.journal.items (fills_after_line r d fills) (memblock_bytes n)) → RanAct r ids m next n a
  ran-as acts bytes holds = rw is (record {
    acts = acts;
    answered = λ only. only-answers r (state_of_memblock ids m) (state_of_memblock next n) d only acts;
    bytes = bytes;
    holds = holds;
  })

  pub ran-quiet : d.fill ≡ None → EndsAsLine r (state_of_memblock ids m) (state_of_memblock next n) d
      → Follows m.kernel m.journal.items n.journal.items (memblock_bytes m) (memblock_bytes n) → RanAct r ids m next n a
  ran-quiet none acts follows =
      ran-as acts (bytes-quiet r (state_of_memblock ids m) (state_of_memblock next n) d (memblock_bytes m) (memblock_bytes n) none follows)
      (λ fills holds.
      holds-quiet r (state_of_memblock ids m) (state_of_memblock next n) d (memblock_bytes m)
      (memblock_bytes n) fills none acts follows holds)
