-- Lemmas on an extent that grows in both directions, gets the bytes of others, and replaces them.
use Rattle.std.proofs.Common.{◌≡◌, ℕ, zero, suc, ◌+◌, ◌-◌, ◌<◌, ◌≤◌, false, List, [], ◌∷◌, ◌++◌, length, get_or, set, take, drop, map, replicate, refl, sym, ◌∙◌, ap, subst, arith, inl, inr, length-append}
use Rattle.std.proofs.lemmas.Bool.{cases_Bool, cases_eq, cases_lt, false≢true}
use Rattle.std.proofs.lemmas.Bool.Decides.{nat_tests}
use Rattle.std.proofs.lemmas.List.{ext_get_or, drop_more, get_or-drop, get_or-take, get_or-map, get_or-replicate, length-replicate, length-drop, length-take, length-map, take-map, drop-map, map-append, map-set, set-set, get_or-set_same, get_or-set_other, take-set-le, drop-set-lt, drop-set-add, places}
use Rattle.std.proofs.Math.Seq.{take-set-lt}
use Rattle.std.specs.List.{CopiedTo, SameFrom, slice_range}
use borrow.Rule.Slice.PartMut.{put_mid}
use Rattle.phys_store.specs.declared.extents.Extent.{Extent}
use Rattle.phys_store.specs.Bytes.{ExtentView, end_of_extent, is_in_extent, byte_of, is_prepared_at, bytes_at}
use Rattle.phys_store.specs.Extents.{extent_view, AreSortedAndApart, nth_extent, AreTouchedExtents, extent_with_bytes_of, merge_extents}
use Rattle.phys_store.proofs.Joining.{nth_part, nth_piece, there}
use Rattle.phys_store.proofs.ByteLists.{length-bytes_at, get-bytes_at, told_bytes}
use Rattle.phys_store.proofs.Lookup.{is_in_extent-in, is_in_extent-below, is_in_extent-above, is_in_extent-low, is_in_extent-high, ready-below, placed}
use Rattle.phys_store.proofs.Writes.{length-mid, mid-in, mid-out}

-- an extent with this address and these bytes
abbrev pub piece : ℕ → List ℕ → ExtentView
piece b bs = record { base = b; bytes = bs }

pub same_piece : (b c : ℕ) (xs ys : List ℕ) → b ≡ c → xs ≡ ys → piece b xs ≡ piece c ys
same_piece b c xs ys base bytes = rw (base, bytes) refl

-- the list after one extent has replaced several, as contracts see it
pub stands : (es new : List Extent) (e : Extent) (f b from to : ℕ) → new ≡ take f es ++ e ∷ drop b es →
    extent_view e ≡ extent_with_bytes_of (take (b - f) (drop f (map extent_view es))) from to
    → map extent_view new ≡ merge_extents (map extent_view es) f b from to
stands es new e f b from to is whole =
    let c : ExtentView = extent_with_bytes_of (take (b - f) (drop f (map extent_view es))) from to in
    ap (map extent_view) is ∙ map-append extent_view (take f es) (e ∷ drop b es)
    ∙ ap (λ (q : ExtentView). map extent_view (take f es) ++ q ∷ map extent_view (drop b es)) whole
    ∙ ap (λ (l : List ExtentView). l ++ c ∷ map extent_view (drop b es)) (sym (take-map extent_view f es))
    ∙ ap (λ (l : List ExtentView). take f (map extent_view es) ++ c ∷ l) (sym (drop-map extent_view b es))

-- zeros are the bytes where no extent is
pub none_covered : (ps : List ExtentView) (f from to : ℕ) (bs : List ℕ) → bs ≡ replicate (to - from) 0 →
    bs ≡ bytes_at (byte_of (take (f - f) ps)) from (to - from)
none_covered ps f from to bs is =
    let none : f - f ≡ 0 = omega arith in
    told_bytes (byte_of (take (f - f) ps)) from (to - from) bs (ap length is ∙ length-replicate (to - from) 0)
    (λ k below. rw none (ap (λ (zs : List ℕ). get_or zs k 0) is ∙ get_or-replicate (to - from) k 0 0 below))

append_low : (xs zs : List ℕ) (k : ℕ) → k < length xs → get_or (xs ++ zs) k 0 ≡ get_or xs k 0
append_low xs zs k below = grind (arith, places)

append_high : (xs : List ℕ) (n k : ℕ) → length xs ≤ k → get_or (xs ++ replicate n 0) k 0 ≡ 0
append_high xs n k above = grind (arith, places)

append_part : (xs : List ℕ) (cut j : ℕ) → cut ≤ length xs → length xs ≤ j → j < length xs + (length xs - cut) →
    get_or (xs ++ take (length xs - cut) (drop cut xs)) j 0 ≡ get_or xs (cut + (j - length xs)) 0
append_part xs cut j part from to = grind (arith, places)

-- appending the last bytes, and then moving up those before them, moves up all of them
pub moved_up : (old more_of new : List ℕ) (from more end : ℕ) → end ≡ length old → from + more ≤ end →
    more_of ≡ old ++ slice_range old (end - more) (length old) → length new ≡ length more_of →
    CopiedTo more_of new from (from + more) (end - more - from) → SameFrom more_of new (from + more + (end - more - from)) →
    drop (from + more) new ≡ drop from old
moved_up old more_of new from more end at fits is len copied after =
    let cut : ℕ = end - more in
    let all : more_of ≡ old ++ take (length old - cut) (drop cut old) = is in
    let long : length more_of ≡ length old + more =
    ap length all ∙ length-append old (take (length old - cut) (drop cut old))
    ∙ ap (λ n. length old + n) (length-take (length old - cut) (drop cut old) ∙ omega (arith, length-drop cut old, at, fits)) in
    ext_get_or 0 (drop (from + more) new) (drop from old)
    (length-drop (from + more) new ∙ omega (arith, len, long) ∙ sym (length-drop from old))
    (λ k below. let inner : k < length old - from = omega (arith, below, length-drop (from + more) new, len, long) in
    get_or-drop (from + more) new k 0 ∙ elim (cases_lt (from + k) cut) [
      | inl low ↦ copied (from + more + k) 0 (omega arith) (omega (arith, low))
          ∙ ap (λ j. get_or more_of j 0) (omega arith) ∙ ap (λ (l : List ℕ). get_or l (from + k) 0) all
          ∙ append_low old (take (length old - cut) (drop cut old)) (from + k) (omega (arith, low, at)) ∙ sym (get_or-drop from old k 0)
      | inr high ↦ after (from + more + k) 0 (omega (arith, high, fits))
          ∙ ap (λ (l : List ℕ). get_or l (from + more + k) 0) all
          ∙ append_part old cut (from + more + k) (omega (arith, at)) (omega (arith, high, at, fits)) (omega (arith, inner, at, fits))
          ∙ ap (λ j. get_or old j 0) (omega (arith, high, at, fits)) ∙ sym (get_or-drop from old k 0)
    ])

-- an extent with room before it, and zeros after it, is extended in both directions
pub widened : (p : ExtentView) (low high f1 f2 up : ℕ) (xs zs ys : List ℕ) → 0 < length p.bytes → drop f1 xs ≡ p.bytes →
    low ≤ p.base → end_of_extent p ≤ high → p.base - low ≤ f1 → f2 ≡ f1 - (p.base - low) → up ≡ high - end_of_extent p
    → zs ≡ xs ++ replicate up 0 →
    length ys ≡ f1 - f2 → ((j : ℕ) → j < f1 - f2 → get_or ys j 0 ≡ 0) →
    drop f2 (put_mid f2 (f1 - f2) zs ys) ≡ bytes_at (byte_of (p ∷ [])) low (high - low)
widened p low high f1 f2 up xs zs ys some bytes from to room at over all len told =
    let m : ℕ = f1 - f2 in
    let long : length xs ≡ f1 + length p.bytes = omega (arith, length-drop f1 xs, ap length bytes, some) in
    let size : length zs ≡ length xs + up =
    ap length all ∙ length-append xs (replicate up 0) ∙ ap (λ n. length xs + n) (length-replicate up 0) in
    let within : f2 + m ≤ length zs = omega (arith, size, long, at) in
    let put : List ℕ = put_mid f2 m zs ys in
    told_bytes (byte_of (p ∷ [])) low (high - low) (drop f2 put)
    (length-drop f2 put ∙ omega (arith, length-mid f2 m zs ys len within, size, long, at, room, over, from, to))
    (λ k below. get_or-drop f2 put k 0 ∙ elim (cases_lt k m) [
      | inl front ↦ mid-in f2 m zs ys k len within front ∙ told k front
          ∙ sym (rw (is_in_extent-below p (low + k) (omega (arith, front, at, room, from))) refl)
      | inr rest ↦ mid-out f2 m zs ys (f2 + k) len within (grind (arith, nat_tests))
          ∙ ap (λ (l : List ℕ). get_or l (f2 + k) 0) all ∙ elim (cases_lt k (m + length p.bytes)) [
            | inl inner ↦ append_low xs (replicate up 0) (f2 + k) (omega (arith, long, inner, at, room))
                ∙ ap (λ j. get_or xs j 0) (omega (arith, rest, at, room)) ∙ sym (get_or-drop f1 xs (low + k - p.base) 0)
                ∙ ap (λ (l : List ℕ). get_or l (low + k - p.base) 0) bytes
                ∙ sym (rw (is_in_extent-in p (low + k) (omega (arith, rest, at, room, from)) (omega (arith, inner, at, room, from))) refl)
            | inr after ↦ append_high xs up (f2 + k) (omega (arith, long, after, at, room))
                ∙ sym (rw (is_in_extent-above p (low + k) (omega (arith, after, at, room, from))) refl)
          ]
    ])

-- the bytes after the bytes of one more extent have been copied; extents are copied from the last
-- to the first
pub absorbed : (ps tail : List ExtentView) (i from to f k m : ℕ) (bs ys : List ℕ) → i < length ps → length bs ≡ f + (to - from) →
    from ≤ (nth_extent ps i).base → end_of_extent (nth_extent ps i) ≤ to → k ≡ f + ((nth_extent ps i).base - from)
    → m ≡ length (nth_extent ps i).bytes →
    ys ≡ (nth_extent ps i).bytes →
    ((x : ℕ) → from ≤ x → x < to → get_or (drop f bs) (x - from) 0 ≡ byte_of (drop (i + 1) ps ++ tail) x) →
    (x : ℕ) → from ≤ x → x < to → get_or (drop f (put_mid k m bs ys)) (x - from) 0 ≡ byte_of (drop i ps ++ tail) x
absorbed ps tail i from to f k m bs ys count len low high at long is told x least below =
    let p = nth_extent ps i in
    let size : length ys ≡ m = ap length is ∙ sym long in
    let within : k + m ≤ length bs = omega (arith, at, long, len, low, high) in
    get_or-drop f (put_mid k m bs ys) (x - from) 0
    ∙ rw (drop_more ps i (record { base = 0; bytes = [] }) count) (elim (cases_Bool (is_in_extent p x)) [
      | inl lies ↦ let from_it = is_in_extent-low p x lies in let to_it = is_in_extent-high p x lies in
          rw lies (ap (λ j. get_or (put_mid k m bs ys) j 0) (omega (arith, at, low))
          ∙ mid-in k m bs ys (x - p.base) size within (omega (arith, long)) ∙ ap (λ (zs : List ℕ). get_or zs (x - p.base) 0) is)
      | inr out ↦ rw out (mid-out k m bs ys (f + (x - from)) size within (grind (arith, nat_tests))
          ∙ sym (get_or-drop f bs (x - from) 0) ∙ told x least below)
    ])

-- parts of a list of extents that don't touch don't touch
apart_from : (d e : ℕ) (ps : List ExtentView) → d ≤ e → AreSortedAndApart e ps → AreSortedAndApart d ps
apart_from d e [] less apart = tt
apart_from d e (q ∷ ps) less apart = (omega (arith, apart.0), apart.1, apart.2, apart.3)

apart_take : (e n : ℕ) (ps : List ExtentView) → AreSortedAndApart e ps → AreSortedAndApart e (take n ps)
apart_take e zero ps apart = tt
apart_take e (suc n) [] apart = tt
apart_take e (suc n) (q ∷ ps) apart = (apart.0, apart.1, apart.2, apart_take (end_of_extent q + 1) n ps apart.3)

apart_drop : (e n : ℕ) (ps : List ExtentView) → AreSortedAndApart e ps → AreSortedAndApart e (drop n ps)
apart_drop e zero ps apart = apart
apart_drop e (suc n) [] apart = tt
apart_drop e (suc n) (q ∷ ps) apart =
    apart_from e (end_of_extent q + 1) (drop n ps) (omega (arith, apart.0)) (apart_drop (end_of_extent q + 1) n ps apart.3)

pub apart_part : (f n : ℕ) (ps : List ExtentView) → AreSortedAndApart 0 ps → AreSortedAndApart 0 (take n (drop f ps))
apart_part f n ps apart = apart_take 0 n (drop f ps) (apart_drop 0 f ps apart)

-- the last extent counts only for addresses that no other has
last_counts : (ps : List ExtentView) (w : ExtentView) (x : ℕ) → is_prepared_at ps x ≡ false → byte_of (ps ++ w ∷ []) x ≡ byte_of (w ∷ []) x
last_counts [] w x none = refl
last_counts (q ∷ ps) w x none = elim (cases_Bool (is_in_extent q x)) [
  | inl lies ↦ absurd (false≢true (sym none ∙ rw lies refl))
  | inr out ↦ rw out (last_counts ps w x (sym (rw out refl) ∙ none))
]

last_zero : (ps : List ExtentView) (w : ExtentView) (x : ℕ) → byte_of (w ∷ []) x ≡ 0 → byte_of (ps ++ w ∷ []) x ≡ byte_of ps x
last_zero [] w x none = none
last_zero (q ∷ ps) w x none = rw (last_zero ps w x none) refl

-- taking an extent out of the list, and appending it in an extended form, changes no byte
pub taken_out : (e : ℕ) (ps : List ExtentView) (i : ℕ) (p w none : ExtentView) → AreSortedAndApart e ps → i < length ps
    → get_or ps i p ≡ p →
    length none.bytes ≡ 0 → (x : ℕ) → byte_of (w ∷ []) x ≡ byte_of (p ∷ []) x → byte_of (set ps i none ++ w ∷ []) x ≡ byte_of ps x
taken_out e [] i p w none apart count there empty x same = absurd (omega arith)
taken_out e (q ∷ ps) zero p w none apart count there empty x same =
    let off : is_in_extent none x ≡ false = grind (arith, nat_tests) in
    let here : byte_of (w ∷ []) x ≡ byte_of (q ∷ []) x = same ∙ ap (λ (r : ExtentView). byte_of (r ∷ []) x) (sym there) in
    rw off (elim (cases_Bool (is_in_extent q x)) [
      | inl lies ↦ let below = is_in_extent-high q x lies in
          last_counts ps w x (ready-below (end_of_extent q + 1) ps x apart.3 (omega arith)) ∙ here ∙ rw lies refl
      | inr out ↦ last_zero ps w x (here ∙ rw out refl) ∙ sym (rw out refl)
    ])
taken_out e (q ∷ ps) (suc i) p w none apart count there empty x same =
    rw (taken_out (end_of_extent q + 1) ps i p w none apart.3 (omega arith) there empty x same) refl

-- one extent has the bytes of the extents that it is made of
covers_in : (ps : List ExtentView) (from to x : ℕ) → from ≤ x → x < to → byte_of (extent_with_bytes_of ps from to ∷ []) x ≡ byte_of ps x
covers_in ps from to x low high =
    let long = length-bytes_at (byte_of ps) from (to - from) in
    rw (is_in_extent-in (extent_with_bytes_of ps from to) x low (omega (arith, long)))
    (get-bytes_at (byte_of ps) from (to - from) (x - from) (omega arith) ∙ ap (byte_of ps) (omega arith))

-- two functions that agree on these addresses give the same bytes
same_bytes : (g h : ℕ → ℕ) (from n : ℕ) → ((x : ℕ) → from ≤ x → x < from + n → g x ≡ h x) → bytes_at g from n ≡ bytes_at h from n
same_bytes g h from n same =
    told_bytes h from n (bytes_at g from n) (length-bytes_at g from n)
    (λ k below. get-bytes_at g from n k below ∙ same (from + k) (omega arith) (omega (arith, below)))

-- extending the largest of several extents, and copying the others into it, gives the one extent
-- that replaces them all
pub united : (es now ds new : List Extent) (p w none e : Extent) (f b k from to : ℕ) → AreSortedAndApart 0 (map extent_view es) →
    AreTouchedExtents (map extent_view es) f b from to → from ≤ to → f ≤ k → k < b → p ≡ get_or es k p → now ≡ set (set es k w) k none
    → ds ≡ now →
    extent_view w ≡ extent_with_bytes_of (extent_view p ∷ []) from to → length (extent_view none).bytes ≡ 0 →
    extent_view e ≡ extent_with_bytes_of (map extent_view (take (b - f) (drop f ds)) ++ extent_view w ∷ []) from to →
    new ≡ take f now ++ e ∷ drop b now → map extent_view new ≡ merge_extents (map extent_view es) f b from to
united es now ds new p w none e f b k from to apart joins order least below value after same wide empty made is =
    let n : ℕ = b - f in
    let i : ℕ = k - f in
    let ps : List ExtentView = map extent_view es in
    let count : k < length es = omega (arith, joins.most, length-map es extent_view, below) in
    let once : now ≡ set es k none = after ∙ set-set es k w none in
    let front : take f now ≡ take f es = ap (take f) once ∙ take-set-le f es k none least in
    let tail : drop b now ≡ drop b es = ap (drop b) once ∙ drop-set-lt b es k none below in
    let whole_part : map extent_view (take n (drop f es)) ≡ take n (drop f ps) =
    sym (take-map extent_view n (drop f es)) ∙ ap (take n) (sym (drop-map extent_view f es)) in
    let part : map extent_view (take n (drop f ds)) ≡ set (take n (drop f ps)) i (extent_view none) =
    ap (λ (l : List Extent). map extent_view (take n (drop f l))) (same ∙ once ∙ ap (λ j. set es j none) (omega (arith, least)))
    ∙ ap (λ (l : List Extent). map extent_view (take n l)) (drop-set-add f es i none)
    ∙ ap (map extent_view) (take-set-lt n (drop f es) i none (omega (arith, least, below)))
    ∙ map-set extent_view (take n (drop f es)) i none
    ∙ ap (λ (l : List ExtentView). set l i (extent_view none)) whole_part in
    let inner : i < length (take n (drop f ps)) =
    omega (arith, length-take n (drop f ps), length-drop f ps, length-map es extent_view, least, below, count) in
    let there : get_or (take n (drop f ps)) i (extent_view p) ≡ extent_view p =
    get_or-take n (drop f ps) i (extent_view p) (omega (arith, least, below)) ∙ get_or-drop f ps i (extent_view p)
    ∙ ap (λ j. get_or ps j (extent_view p)) (omega (arith, least))
    ∙ get_or-map extent_view es k p (extent_view p) count ∙ ap extent_view (sym value) in
    let each : (x : ℕ) → from ≤ x → x < to →
    byte_of (map extent_view (take n (drop f ds)) ++ extent_view w ∷ []) x ≡ byte_of (take n (drop f ps)) x =
    λ x low high. ap (λ (l : List ExtentView). byte_of (l ++ extent_view w ∷ []) x) part
    ∙ taken_out 0 (take n (drop f ps)) i (extent_view p) (extent_view w) (extent_view none) (apart_part f n ps apart) inner there empty x
    (ap (λ (q : ExtentView). byte_of (q ∷ []) x) wide ∙ covers_in (extent_view p ∷ []) from to x low high) in
    stands es new e f b from to (is ∙ ap (λ (l : List Extent). l ++ e ∷ drop b now) front
    ∙ ap (λ (l : List Extent). take f es ++ e ∷ l) tail)
    (made ∙ same_piece from from _ _ refl
    (same_bytes (byte_of (map extent_view (take n (drop f ds)) ++ extent_view w ∷ [])) (byte_of (take n (drop f ps))) from (to - from)
    (λ x low high. each x low (omega (arith, high, order)))))

pub past_covering : (ps : List ExtentView) (from to : ℕ) → from ≤ to → end_of_extent (extent_with_bytes_of ps from to) ≡ to
past_covering ps from to order = let long = length-bytes_at (byte_of ps) from (to - from) in omega (arith, long, order)

-- the other extents lie in the extended extent, and so does the empty extent that is in its place
-- in the list
pub others_in : (es ds : List Extent) (none : Extent) (f b k from to : ℕ) → AreTouchedExtents (map extent_view es) f b from to
    → from ≤ to → k < b
    →
    ds ≡ set es k none → none.base ≡ from → length (extent_view none).bytes ≡ 0 →
    (i : ℕ) → i < length (take (b - f) (drop f ds)) →
    (from ≤ (nth_extent (map extent_view (take (b - f) (drop f ds))) i).base)
    × (end_of_extent (nth_extent (map extent_view (take (b - f) (drop f ds))) i) ≤ to)
others_in es ds none f b k from to joins order below same base empty i count =
    let ps : List ExtentView = map extent_view es in
    let j : ℕ = f + i in
    let less : j < b = omega (arith, length-take (b - f) (drop f ds), count, joins.order) in
    let inner : k < length ps = omega (arith, joins.most, below) in
    let is : nth_extent (map extent_view (take (b - f) (drop f ds))) i ≡ nth_extent (set ps k (extent_view none)) j =
    nth_part ds f (b - f) i count
    ∙ ap (λ (l : List ExtentView). nth_extent l j) (ap (map extent_view) same ∙ map-set extent_view es k none) in
    let here : j ≡ k → nth_extent (set ps k (extent_view none)) j ≡ extent_view none =
    λ eq. ap (λ m. nth_extent (set ps k (extent_view none)) m) eq
    ∙ get_or-set_same ps k (extent_view none) (record { base = 0; bytes = [] }) inner in
    let there : (j ≡ k → ⊥) → nth_extent (set ps k (extent_view none)) j ≡ nth_extent ps j =
    λ other. get_or-set_other ps k j (extent_view none) (record { base = 0; bytes = [] }) other in
    let old : nth_extent (set ps k (extent_view none)) j ≡ nth_extent ps j →
    (from ≤ (nth_extent (set ps k (extent_view none)) j).base) × (end_of_extent (nth_extent (set ps k (extent_view none)) j) ≤ to) =
    λ eq. rw eq (joins.low j (omega arith) less, joins.high j (omega arith) less) in
    rw is (elim (cases_eq j k) [
      | inl same ↦ rw (here same) (omega (arith, base), omega (arith, base, empty, order))
      | inr other ↦ old (there other)
    ])

-- the extent that is kept: it has bytes, and lies within the new addresses
pub record IsKept (es : List Extent) (p : Extent) (k from to : ℕ) : Type 0 where
  pub count : k < length es
  pub some : 0 < length (extent_view p).bytes
  pub low : from ≤ p.base
  pub high : end_of_extent (extent_view p) ≤ to

pub kept_piece : (es : List Extent) (p : Extent) (f b k from to : ℕ) → AreSortedAndApart 0 (map extent_view es)
    → AreTouchedExtents (map extent_view es) f b from to
    → f ≤ k → k < b → p ≡ get_or es k p → IsKept es p k from to
kept_piece es p f b k from to apart joins least below value =
    let ps : List ExtentView = map extent_view es in
    let count : k < length es = omega (arith, joins.most, length-map es extent_view, below) in
    let inner : k < length ps = omega (arith, count, length-map es extent_view) in
    let is : nth_extent ps k ≡ extent_view p = nth_piece es k p count value in
    record {
      count = count;
      some = subst (λ (q : ExtentView). 0 < length q.bytes) is (placed 0 ps k (nth_extent ps k) apart inner (there ps k inner)).1;
      low = subst (λ (q : ExtentView). from ≤ q.base) is (joins.low k least below);
      high = subst (λ (q : ExtentView). end_of_extent q ≤ to) is (joins.high k least below);
    }
