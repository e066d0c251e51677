-- Bytes that are written in several chunks.
use Rattle.std.proofs.Common.{◌≡◌, ℕ, ◌+◌, ◌<◌, ◌≤◌, List, [], ◌∷◌, ◌++◌, length, take, drop, get_or, Option, Result, Ok, Err, inl, inr, refl, sym, ◌∙◌, ap, arith, append-nil, length-append, take-append-drop, drop-cons, add-one}
use Rattle.std.proofs.lemmas.List.{take-append-le, take_more}
use Rattle.std.proofs.lemmas.Grind.{flat_map-append}
use Rattle.std.proofs.Math.Seq.{take-append-add}
use Rattle.std.specs.List.{flat_map}
use Rattle.std.specs.Io.KnownBytes.{Appends}
use Rattle.std.proofs.KnownBytes.{Appends-trans}
use Rattle.bm_io.specs.Known.{AppendsFront}
use Rattle.bm_io.specs.Puts.{Puts}
use Rattle.bm_io.specs.declared.writing.Put.{Put}
use Rattle.bm_io.specs.declared.writing.Sink.{Ghosts as SinkOf}

-- the bytes of the first i + 1 chunks are those of the first i chunks and then those of chunk i
pub joined_more : {P : Type 0} (bytes : P → List ℕ) (chunks : List P) (i : ℕ) (d : P) → i < length chunks
    → flat_map bytes (take (i + 1) chunks) ≡ flat_map bytes (take i chunks) ++ bytes (get_or chunks i d)
joined_more bytes chunks i d inside =
    ap (λ t. flat_map bytes t) (take_more chunks i d inside) ∙ flat_map-append bytes (take i chunks) (get_or chunks i d ∷ [])
    ∙ ap (λ (t : List ℕ). flat_map bytes (take i chunks) ++ t) (append-nil (bytes (get_or chunks i d)))

-- the bytes of all chunks are those before one chunk, those of that chunk, and those after it
pub joined_at : {P : Type 0} (bytes : P → List ℕ) (chunks : List P) (i : ℕ) (d : P) → i < length chunks
    → flat_map bytes (take i chunks) ++ (bytes (get_or chunks i d) ++ flat_map bytes (drop (i + 1) chunks)) ≡ flat_map bytes chunks
joined_at bytes chunks i d inside =
    let rest : drop i chunks ≡ get_or chunks i d ∷ drop (i + 1) chunks = rw (add-one i) (drop-cons chunks i d inside) in
    ap (λ t. flat_map bytes (take i chunks) ++ flat_map bytes t) (sym rest)
    ∙ sym (flat_map-append bytes (take i chunks) (drop i chunks)) ∙ ap (λ t. flat_map bytes t) (take-append-drop i chunks)

-- if two lists of bytes make an empty list when concatenated, both are empty
pub both_empty_first : (xs ys : List ℕ) → xs ++ ys ≡ [] → xs ≡ []
both_empty_first [] ys none = refl
both_empty_first (x ∷ xs) ys none = cc

pub both_empty_second : (xs ys : List ℕ) → xs ++ ys ≡ [] → ys ≡ []
both_empty_second [] ys none = none
both_empty_second (x ∷ xs) ys none = cc

-- appending some bytes whole, and then the first bytes of others, appends the first bytes of all
front_then : (old mid new : Option (List ℕ)) (first bytes rest : List ℕ)
    → Appends old mid first → AppendsFront mid new bytes → AppendsFront old new (first ++ (bytes ++ rest))
front_then old mid new first bytes rest before front =
    let n : ℕ = front.0 in
    let out : first ++ take n bytes ≡ take (length first + n) (first ++ (bytes ++ rest)) =
    ap (λ (t : List ℕ). first ++ t) (sym (take-append-le n bytes rest front.1)) ∙ sym (take-append-add first (bytes ++ rest) n) in (
      length first + n,
      rw (length-append first (bytes ++ rest), length-append bytes rest) (omega (arith, front.1)),
      rw (← out) (Appends-trans old mid new first (take n bytes) before front.2),
    )

-- a put that returns Ok leaves `wants`, the count of puts that ran out of memory, unchanged
pub put_ok_keeps_wants : {S : Type 0} {sink : SinkOf S} {old new : S} {done : Unit {0}} {bytes : List ℕ} → Puts sink old new (Ok done) bytes
    → sink.wants new ≡ sink.wants old
put_ok_keeps_wants puts = elim puts.no_want [
  | inl wanting ↦ cc
  | inr same ↦ same
]

-- if a put fails after others that returned Ok, all of them together fail with its error
pub puts_refused : {S : Type 0} (sink : SinkOf S) (old mid new : S) (answer : Result (Unit {0}) Put) (error : Put)
    (first bytes rest all : List ℕ)
    → answer ≡ Err error → first ++ (bytes ++ rest) ≡ all → Appends (sink.written old) (sink.written mid) first
    → sink.faults old ≤ sink.faults mid → sink.wants mid ≡ sink.wants old
    → Puts sink mid new (Err error) bytes → Puts sink old new answer all
puts_refused sink old mid new answer error first bytes rest all is joined before faults wants refused = rw (is, ← joined) record {
  whole = tt;
  front = front_then (sink.written old) (sink.written mid) (sink.written new) first bytes rest before refused.front;
  failed = λ is. let rose = refused.failed is in omega (arith, faults, rose);
  wanting = rw (← wants) refused.wanting;
  no_want = rw (← wants) refused.no_want;
  faults_stay = omega (arith, faults, refused.faults_stay);
  wants_stay = rw (← wants) refused.wants_stay;
}
