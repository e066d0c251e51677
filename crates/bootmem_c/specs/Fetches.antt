-- The counters of fetches from the files that the caller passes (lent files).
use Rattle.std.specs.Prelude.{◌≡◌, ℕ, ◌-◌, ◌^◌, ◌<◌, Bool, List, length, min, Some, is_some, if◌then◌else◌, Result, Ok, Err, Vec}
use Rattle.std.specs.Str.{bytes_eq}
use Rattle.std.specs.declared.alloc.Global.{Global}
use Rattle.bm_io.specs.declared.reading.Fetch.{Fetch}
use Rattle.bm_io.specs.declared.reading.Fetch.TheVariants as fetch
use Rattle.bm_io.specs.MemFiles.{MemFileView, file_bytes}
use Rattle.bootmem_c.specs.declared.crossing.File.{File}

-- the lent files, and how many fetches failed because no file had the name
pub record LentFilesView : Type 0 where
  pub files : List MemFileView
  pub misses : ℕ

-- whether the file has this name
abbrev pub is_lent_as : List ℕ → File → Bool
is_lent_as name file = bytes_eq file.name.now name

-- what the result of a fetch adds to `misses`: 1 if no file has the name, else 0
abbrev pub misses_of : Result (Vec ℕ Global) Fetch → ℕ
misses_of (Ok bytes) = 0
misses_of (Err fetch.Failed) = 1
misses_of (Err fetch.TooLong) = 0
misses_of (Err fetch.Memory) = 0

-- The counter of faults for a name. If no lent file has the name, it is the number of failed
-- fetches of all names (below 2^32). If a lent file has the name, its fetches never fail, and the
-- counter is always 2^64 - 2. It isn't 2^64 - 1, since a counter with that value counts as risen
-- (`Rose`).
abbrev pub faults_at : LentFilesView → List ℕ → ℕ
faults_at state name = if is_some (file_bytes state.files name) then 2 ^ 64 - 2 else min state.misses (2 ^ 32)

-- a lent file has the name, and it has more bytes than the limit
abbrev pub IsLonger : List MemFileView → List ℕ → ℕ → Type 0
IsLonger files name limit = (bytes : List ℕ) × (file_bytes files name ≡ Some bytes) × (limit < length bytes)
