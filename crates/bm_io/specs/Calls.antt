-- Puts and fetches as sequences of calls of the operating system. The parameters `writes`, `reads`
-- and `opens` are the relations for a single call: the ghost members of `RawWriter`, `RawReader`
-- and `RawFiles`.
use Rattle.std.specs.Prelude.{◌≡◌, ℕ, ◌+◌, ◌<◌, ◌≤◌, List, [], ◌++◌, length, drop, Option, Some, None, Result, Ok, Err, ◌⊎◌, Vec}
use Rattle.std.specs.declared.alloc.Global.{Global}
use Rattle.bm_io.specs.declared.reading.Fetch.{Fetch}
use Rattle.bm_io.specs.declared.reading.Fetch.TheVariants as fetch
use Rattle.bm_io.specs.declared.writing.Put.{Put}
use Rattle.bm_io.specs.declared.writing.Put.TheVariants as put

-- `HasTaken writes bytes before n after`: the stream took the first n of `bytes`, by writes that
-- lead from its state `before` to its state `after`. Each write was offered all bytes that were
-- not taken yet, and took at least one.
pub data HasTaken {W : Type 0} (writes : W → List ℕ → Option ℕ → W → Type 0) (bytes : List ℕ) (before : W) : ℕ → W → Type 0 where
  nothing_taken : HasTaken writes bytes before 0 before
  took : {k n : ℕ} {mid after : W} → HasTaken writes bytes before k mid
      → writes mid (drop k bytes) (Some n) after → 0 < n → HasTaken writes bytes before (k + n) after

-- `HasGiven reads before bytes after`: the file gave these bytes, by reads that lead from the
-- state `before` to the state `after` and gave at least one byte each
pub data HasGiven {F : Type 0} (reads : F → Option (List ℕ) → F → Type 0) (before : F) : List ℕ → F → Type 0 where
  nothing_given : HasGiven reads before [] before
  gave : {given bytes : List ℕ} {mid after : F} → HasGiven reads before given mid
      → reads mid (Some bytes) after → 0 < length bytes → HasGiven reads before (given ++ bytes) after

-- the result of a put: Ok once all bytes were taken, Failed at the first write that failed or took
-- no byte, never Memory
abbrev pub IsPutBy : {W : Type 0} → (W → List ℕ → Option ℕ → W → Type 0) → W → List ℕ → Result (Unit {0}) Put → W → Type 0
IsPutBy writes before bytes (Ok done) after = HasTaken writes bytes before (length bytes) after
IsPutBy {W} writes before bytes (Err put.Failed) after =
    (k : ℕ) × (mid : W) × (k < length bytes) × HasTaken writes bytes before k mid
    × (writes mid (drop k bytes) None after ⊎ writes mid (drop k bytes) (Some 0) after)
IsPutBy writes before bytes (Err put.Memory) after = ⊥

-- the result of reading a file that may have at most `limit` bytes, and `taken`, the number of
-- bytes read. Ok at the first read that gives nothing; Failed at the first that fails; TooLong at
-- the first that exceeds the limit. Memory is possible after any read that gave bytes.
abbrev pub IsReadBy : {F : Type 0} → (F → Option (List ℕ) → F → Type 0) → F → ℕ → Result (Vec ℕ Global) Fetch → ℕ → F → Type 0
IsReadBy {F} reads before limit (Ok bytes) taken after =
    (end : F) × HasGiven reads before bytes.items end × (length bytes.items ≤ limit) × reads end (Some []) after
    × (taken ≡ length bytes.items)
IsReadBy {F} reads before limit (Err fetch.Failed) taken after =
    (given : List ℕ) × (mid : F) × HasGiven reads before given mid × (length given ≤ limit) × reads mid None after
    × (taken ≡ length given)
IsReadBy {F} reads before limit (Err fetch.TooLong) taken after =
    (given : List ℕ) × (last : List ℕ) × (mid : F) × HasGiven reads before given mid × (length given ≤ limit)
    × reads mid (Some last) after × (limit < length given + length last) × (taken ≡ length given + length last)
IsReadBy reads before limit (Err fetch.Memory) taken after =
    (given : List ℕ) × HasGiven reads before given after × (0 < length given) × (length given ≤ limit) × (taken ≡ length given)

-- the result of a fetch, and the number of bytes read: Failed if the file couldn't be opened, else
-- the result of reading the file
abbrev pub IsFetchedBy : {D F : Type 0} → (D → List ℕ → Option F → D → Type 0) → (F → Option (List ℕ) → F → Type 0)
    → D → List ℕ → ℕ → Result (Vec ℕ Global) Fetch → ℕ → D → Type 0
IsFetchedBy {D} {F} opens reads before name limit answer taken after =
    (opens before name None after × (answer ≡ Err fetch.Failed) × (taken ≡ 0))
    ⊎ ((file : F) × (end : F) × opens before name (Some file) after × IsReadBy reads file limit answer taken end)
