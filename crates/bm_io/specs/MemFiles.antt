-- Files in memory.
use Rattle.std.specs.Prelude.{◌≡◌, ℕ, ◌<◌, Bool, if◌then◌else◌, List, [], ◌∷◌, length, map, Option, Some, None, IsNone, Contains, ◌⊎◌, Result, Ok, Err, Vec, string_bytes}
use Rattle.std.specs.Str.{bytes_eq}
use Rattle.std.specs.declared.alloc.Global.{Global}
use Rattle.bm_io.specs.declared.reading.Fetch.{Fetch}
use Rattle.bm_io.specs.declared.reading.Fetch.TheVariants as fetch
use Rattle.bm_io.specs.declared.mem_files.MemFile.{MemFile}

-- what contracts see of a `MemFile`: its name and its bytes
pub record MemFileView : Type 0 where
  pub name : List ℕ
  pub bytes : List ℕ

-- what contracts see of a `MemFiles`: the files, the numbers of the calls that will fail, and how
-- many calls, failed calls and bytes read there were so far
pub record MemFilesView : Type 0 where
  pub files : List MemFileView
  pub failing : List ℕ
  pub calls : ℕ
  pub faults : ℕ
  pub taken : ℕ

-- what contracts see of one file
abbrev pub file_view : MemFile → MemFileView
file_view f = record { name = string_bytes f.name; bytes = f.bytes.items }

-- what contracts see of a list of files
abbrev pub file_views : List MemFile → List MemFileView
file_views files = map file_view files

-- whether the file has the name
abbrev pub has_name : List ℕ → MemFile → Bool
has_name name f = bytes_eq (string_bytes f.name) name

-- the bytes of the first file with the name, or `None` if no file has it
abbrev pub file_bytes : List MemFileView → List ℕ → Option (List ℕ)
file_bytes [] name = None
file_bytes (f ∷ fs) name = if bytes_eq f.name name then Some f.bytes else file_bytes fs name

-- no two files have the same name
abbrev pub HaveOwnNames : List MemFileView → Type 0
HaveOwnNames [] = Unit {0}
HaveOwnNames (f ∷ fs) = IsNone (file_bytes fs f.name) × HaveOwnNames fs

-- the fetch with this number fails: the number is in `failing`, or no file has the name
abbrev pub IsRefused : MemFilesView → ℕ → List ℕ → Type 0
IsRefused held number name = Contains held.failing number ⊎ IsNone (file_bytes held.files name)

-- there is a file with the name, and it has more bytes than the limit
abbrev pub IsOverLimit : MemFilesView → List ℕ → ℕ → Type 0
IsOverLimit held name limit = (bytes : List ℕ) × (file_bytes held.files name ≡ Some bytes) × (limit < length bytes)

-- what a fetch with this result adds to the count of failed calls: 1 for Failed, else 0
abbrev pub fetch_failures : Result (Vec ℕ Global) Fetch → ℕ
fetch_failures (Ok bytes) = 0
fetch_failures (Err fetch.Failed) = 1
fetch_failures (Err fetch.TooLong) = 0
fetch_failures (Err fetch.Memory) = 0

-- what a fetch with this result adds to the count of bytes read: the length of the file if it was
-- returned or too long, else 0
abbrev pub bytes_taken : Result (Vec ℕ Global) Fetch → Option (List ℕ) → ℕ
bytes_taken answer None = 0
bytes_taken (Ok given) (Some bytes) = length bytes
bytes_taken (Err fetch.Failed) (Some bytes) = 0
bytes_taken (Err fetch.TooLong) (Some bytes) = length bytes
bytes_taken (Err fetch.Memory) (Some bytes) = 0
