-- Worked examples: small counters, files and outputs.
use Rattle.std.proofs.Common.{◌≡◌, ℕ, ◌-◌, ◌^◌, true, false, List, Option, Some, None, [], ◌∷◌, Ok, Err, codes, refl, inl, inr, arith}
use Rattle.bm_io.specs.declared.reading.Fetch.TheVariants as fetch
use Rattle.bm_io.specs.declared.writing.Put.TheVariants as put
use Rattle.bm_io.specs.declared.writing.Sink.{Ghosts as SinkOf}
use Rattle.bm_io.specs.Counts.{count_after, Rose, RoseByMoreThan}
use Rattle.bm_io.specs.Known.{IsKnownAs, AppendsFront, TakesKnown, GivesKnown}
use Rattle.bm_io.specs.MemFiles.{MemFileView, MemFilesView, file_bytes, HaveOwnNames, IsRefused}
use Rattle.bm_io.specs.Puts.{Puts}
use Rattle.bm_io.specs.Calls.{HasTaken, nothing_taken, took, HasGiven, nothing_given, gave, IsPutBy, IsReadBy, IsFetchedBy}
use Rattle.bm_io.specs.MemSink.{MemSinkView}
use Rattle.bm_io.proofs.PutsLaws.{put_ok_keeps_wants}

-- a counter goes up and stops at 2^64 - 1
counts : (count_after 5 3 ≡ 8) × (count_after (2 ^ 64 - 2) 3 ≡ 2 ^ 64 - 1)
counts = (refl, refl)

-- a counter that rises becomes greater, unless it is 2^64 - 1 already
rose_examples : Rose 5 6 × Rose (2 ^ 64 - 1) (2 ^ 64 - 1)
rose_examples = (omega arith, omega arith)

it_stood : Rose 5 5 → ⊥
it_stood rose = omega arith

rose_by_more : RoseByMoreThan 16 4 21 × RoseByMoreThan 16 (2 ^ 64 - 3) (2 ^ 64 - 1)
rose_by_more = (omega arith, omega arith)

rose_by_the_limit : RoseByMoreThan 16 4 20 → ⊥
rose_by_the_limit more = omega arith

-- if contents are known, `zp` holds these three bytes; if they are unknown, nothing is claimed
known_bytes_examples : IsKnownAs (Some (λ name. Some (codes "abc"))) (codes "zp") (codes "abc") × IsKnownAs None (codes "zp") []
known_bytes_examples = (refl, tt)

not_so_told : IsKnownAs (Some (λ name. Some (codes "abc"))) (codes "zp") [] → ⊥
not_so_told told = cc told

-- two files; the second call fails
abbrev two_files : MemFilesView
two_files = record {
  files = record { name = codes "zp"; bytes = codes "abc" } ∷ record { name = codes "line"; bytes = [] } ∷ [];
  failing = 2 ∷ [];
  calls = 0;
  faults = 0;
  taken = 0;
}

own_names : HaveOwnNames two_files.files
own_names = (refl, (refl, tt))

one_name_twice : HaveOwnNames (record { name = codes "zp"; bytes = [] } ∷ record { name = codes "zp"; bytes = codes "a" } ∷ []) → ⊥
one_name_twice own = let none : true ≡ false = own.0 in cc none

-- a call fails if its number is planned to fail, or if no file has the name
refused_by_number : IsRefused two_files 2 (codes "zp")
refused_by_number = inl (0, omega arith, refl)

refused_by_name : IsRefused two_files 1 (codes "z")
refused_by_name = inr refl

-- an output before and after its second call, which failed: half of the chunk was appended
abbrev before_failure : MemSinkView
before_failure = record { written = codes "ab"; failing = 2 ∷ []; calls = 1; faults = 0; wants = 0 }

abbrev after_failure : MemSinkView
after_failure = record { written = codes "abc"; failing = 2 ∷ []; calls = 2; faults = 1; wants = 0 }

half_of_a_chunk : AppendsFront (Some before_failure.written) (Some after_failure.written) (codes "cd")
half_of_a_chunk = (1, omega arith, refl)

-- an output in memory: its bytes and counters are known
abbrev held_sink : SinkOf MemSinkView
held_sink = record { written = λ s. Some s.written; faults = λ s. s.faults; wants = λ s. s.wants }

-- the second call failed and raised the counter of faults; with an unchanged counter the failure
-- would break the contract
failed_put : Puts held_sink before_failure after_failure (Err put.Failed) (codes "cd")
failed_put = record {
  whole = tt;
  front = half_of_a_chunk;
  failed = λ is. omega arith;
  wanting = λ is. cc;
  no_want = inr refl;
  faults_stay = omega arith;
  wants_stay = omega arith;
}

no_cause : Puts held_sink before_failure before_failure (Err put.Failed) (codes "cd") → ⊥
no_cause puts = let rose = puts.failed refl in omega (arith, rose)

-- an output may count a fault, retry, append everything and return Ok. A put that returns Ok can't
-- have run out of memory
retried_put : Puts held_sink before_failure after_failure (Ok tt) (codes "c")
retried_put = record {
  whole = refl;
  front = tt;
  failed = λ is. cc;
  wanting = λ is. cc;
  no_want = inr refl;
  faults_stay = omega arith;
  wants_stay = omega arith;
}

ok_never_counts_want : Puts held_sink before_failure (record after_failure { wants = 1 }) (Ok tt) (codes "c") → ⊥
ok_never_counts_want puts = let still = put_ok_keeps_wants puts in omega (arith, still)

-- a write that failed took none of the bytes
none_taken : TakesKnown (Some (codes "x")) (Some (codes "xa")) (codes "abc") None → ⊥
none_taken kept = cc kept

-- a read that gives nothing while bytes are left breaks the contract
not_at_the_end : GivesKnown (Some (codes "c")) (Some (codes "c")) (Some []) → ⊥
not_at_the_end gives = let end : codes "c" ≡ [] = gives.1 refl in cc end

-- three bytes in two writes: the second write is offered the bytes that the first one didn't take
abbrev known_writes : List ℕ → List ℕ → Option ℕ → List ℕ → Type 0
known_writes before bytes taken after = TakesKnown (Some before) (Some after) bytes taken

by_two_writes : HasTaken known_writes (codes "abc") [] 3 (codes "abc")
by_two_writes = took {k = 2} {n = 1} {mid = codes "ab"}
    (took {k = 0} {n = 2} {mid = []} nothing_taken refl (omega arith)) refl (omega arith)

-- a put fails if its second write fails, even though the first one took bytes
refused_by_a_write : IsPutBy known_writes [] (codes "abc") (Err put.Failed) (codes "ab")
refused_by_a_write = (2, codes "ab", omega arith, took {k = 0} {n = 2} {mid = []} nothing_taken refl (omega arith), inl refl)

refused_by_itself : (after : List ℕ) → IsPutBy known_writes [] [] (Err put.Failed) after → ⊥
refused_by_itself after refused = let some = refused.2 in omega (arith, some)

-- three bytes in two reads, and then the end
abbrev known_reads : List ℕ → Option (List ℕ) → List ℕ → Type 0
known_reads before given after = GivesKnown (Some before) (Some after) given

by_two_reads : HasGiven known_reads (codes "abc") (codes "abc") []
by_two_reads = gave {given = codes "ab"} {bytes = codes "c"} {mid = codes "c"}
    (gave {given = []} {bytes = codes "ab"} {mid = codes "abc"} nothing_given (refl, λ none. cc) (omega arith))
    (refl, λ none. refl) (omega arith)

-- with a limit of two bytes the second read exceeds it
one_too_many : IsReadBy known_reads (codes "abc") 2 (Err fetch.TooLong) 3 []
one_too_many = (
  codes "ab",
  codes "c",
  codes "c",
  gave {given = []} {bytes = codes "ab"} {mid = codes "abc"} nothing_given (refl, λ none. cc) (omega arith),
  omega arith,
  (refl, λ none. refl),
  omega arith,
  refl,
)

-- a read that fails after two bytes: they count as read, and none is returned
read_fails_after_two : IsReadBy known_reads (codes "abc") 9 (Err fetch.Failed) 2 (codes "c")
read_fails_after_two = (
  codes "ab",
  codes "c",
  gave {given = []} {bytes = codes "ab"} {mid = codes "abc"} nothing_given (refl, λ none. cc) (omega arith),
  omega arith,
  refl,
  refl,
)

-- a fetch of a name that can't be opened, and of an empty file whose first read fails
abbrev known_opens : List MemFileView → List ℕ → Option (List ℕ) → List MemFileView → Type 0
known_opens before name opened after = (opened ≡ file_bytes before name) × (after ≡ before)

unopened : IsFetchedBy known_opens known_reads two_files.files (codes "z") 9 (Err fetch.Failed) 0 two_files.files
unopened = inl ((refl, refl), refl, refl)

failed_at_once : IsFetchedBy known_opens known_reads two_files.files (codes "line") 9 (Err fetch.Failed) 0 two_files.files
failed_at_once = inr ([], [], (refl, refl), ([], [], nothing_given, omega arith, refl, refl))
