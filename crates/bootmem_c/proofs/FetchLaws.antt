-- How a fetch of a lent file changes the counter of each name.
use Rattle.std.proofs.Common.{◌≡◌, ℕ, ◌+◌, ◌-◌, ◌^◌, ◌<◌, ◌≤◌, List, Option, Some, None, Result, Err, Vec, Global, refl, arith, ap, min}
use Rattle.std.specs.Prelude.{IsNone, is_some, if◌then◌else◌}
use Rattle.bm_io.specs.Counts.{Rose, RoseByMoreThan}
use Rattle.bm_io.specs.MemFiles.{MemFileView, file_bytes}
use Rattle.bm_io.specs.declared.reading.Fetch.{Fetch}
use Rattle.bm_io.specs.declared.reading.Fetch.TheVariants as fetch
use Rattle.bootmem_c.specs.Fetches.{LentFilesView, faults_at, misses_of}

-- a counter that stays at its greatest value counts as risen
pub bytes_stay : (limit : ℕ) → RoseByMoreThan limit (2 ^ 64 - 1) (2 ^ 64 - 1)
bytes_stay limit = omega arith

-- the counter of a name, from the bytes of its file if there is one
abbrev at : Option (List ℕ) → ℕ → ℕ
at held misses = if is_some held then 2 ^ 64 - 2 else min misses (2 ^ 32)

at_stays : (held : Option (List ℕ)) (old new : ℕ) → old ≤ new → at held old ≤ at held new
at_stays None old new more = omega (arith, more)
at_stays (Some bytes) old new more = omega arith

at_fits : (held : Option (List ℕ)) (misses : ℕ) → at held misses < 2 ^ 64
at_fits None misses = omega arith
at_fits (Some bytes) misses = omega arith

-- a failed fetch raises the counter of a name that no lent file has
at_rose : (held : Option (List ℕ)) (old new : ℕ) → IsNone held → new ≡ old + 1 → new < 2 ^ 32 → Rose (at held old) (at held new)
at_rose None old new none grew few = omega (arith, grew, few)
at_rose (Some bytes) old new none grew few = absurd (cc)

same_held : (old new : LentFilesView) → new.files ≡ old.files → (name : List ℕ)
    → faults_at new name ≡ at (file_bytes old.files name) new.misses
same_held old new kept name = ap (λ (files : List MemFileView). at (file_bytes files name) new.misses) kept

pub faults_rose : (answer : Result (Vec ℕ Global) Fetch) (old new : LentFilesView) (name : List ℕ) → answer ≡ Err fetch.Failed
    → new.files ≡ old.files → IsNone (file_bytes old.files name) → new.misses ≡ old.misses + misses_of answer → new.misses < 2 ^ 32
    → Rose (faults_at old name) (faults_at new name)
faults_rose answer old new name is kept none grew few =
    let one : misses_of answer ≡ 1 = rw is refl in
    let grew : new.misses ≡ old.misses + 1 = rw one at grew in
    omega (arith, at_rose (file_bytes old.files name) old.misses new.misses none grew few, same_held old new kept name)

pub faults_stay : (answer : Result (Vec ℕ Global) Fetch) (old new : LentFilesView) → new.files ≡ old.files
    → new.misses ≡ old.misses + misses_of answer → (any : List ℕ) → faults_at old any ≤ faults_at new any
faults_stay answer old new kept grew any =
    omega (arith, at_stays (file_bytes old.files any) old.misses new.misses (omega (arith, grew)), same_held old new kept any)

pub faults_fit : (state : LentFilesView) (any : List ℕ) → faults_at state any < 2 ^ 64
faults_fit state any = at_fits (file_bytes state.files any) state.misses

-- if the counter of a name rose, no lent file has the name
held_not_rose : (held : Option (List ℕ)) (misses now : ℕ) → now < 2 ^ 64 - 1 → Rose (at held misses) now → held ≡ None
held_not_rose None misses now few rose = refl
held_not_rose (Some bytes) misses now few rose = absurd (omega (arith, few, rose))

below : (held : Option (List ℕ)) (misses : ℕ) → at held misses < 2 ^ 64 - 1
below None misses = omega arith
below (Some bytes) misses = omega arith

pub rose_unheld : (old new : LentFilesView) (name : List ℕ) → Rose (faults_at old name) (faults_at new name)
    → file_bytes old.files name ≡ None
rose_unheld old new name rose =
    held_not_rose (file_bytes old.files name) old.misses (faults_at new name) (below (file_bytes new.files name) new.misses) rose
