-- Places of tables, as ranges and owners of bytes: how a claim, a free and a move change them.
use Rattle.std.proofs.Common.{◌≡◌, ℕ, ◌+◌, ◌*◌, ◌/◌, ◌%◌, ◌<◌, ◌≤◌, Bool, true, false, if◌then◌else◌, Option, Some, None, sym, ◌∙◌, ap, arith}
use Rattle.std.proofs.lemmas.Bool.{true≢false, false_from_ne_true}
use Rattle.std.proofs.lemmas.Bool.Decides.{nat_tests}
use Rattle.bm_base.specs.Range.{RangeView, covers}
use Rattle.address_runs.specs.Edits.{uncover_range, replace_in_range}
use Rattle.memblock_model.specs.declared.owner.Owner.{Owner}
use Rattle.memblock_model.specs.Items.{Owners}
use Rattle.growth_model.specs.Growth.{frames_for_bytes}
use Rattle.growth_model.specs.Tables.{may_hold_table, IsTablePlace, ShareNoFrame, AreDisjoint, IsUnclaimed, AreTablePlaces}

-- the frames of a range that begins with a frame
abbrev pub frames : RangeView → RangeView
frames a = frames_for_bytes a.base a.size

pub covers-from : (a : RangeView) (x : ℕ) → covers a x ≡ true → (a.base ≤ x) × (x < a.base + a.size)
covers-from a x h = grind (arith, nat_tests, h)

pub covers-to : (a : RangeView) (x : ℕ) → a.base ≤ x → x < a.base + a.size → covers a x ≡ true
covers-to a x le lt = grind (arith, nat_tests)

-- the first byte of each of these frames is a byte of the range
frame-first : (a : RangeView) (x : ℕ) → a.base % 4096 ≡ 0 → covers (frames a) x ≡ true → covers a (4096 * (x / 4096)) ≡ true
frame-first a x aligned h = grind (arith, nat_tests, aligned, h)

-- these frames have the whole frame of each of their bytes
frame-whole : (a : RangeView) (x y : ℕ) → a.base % 4096 ≡ 0 → covers (frames a) x ≡ true → y / 4096 ≡ x / 4096 → covers (frames a) y ≡ true
frame-whole a x y aligned h same = grind (arith, nat_tests, aligned, h, same)

-- these frames have each byte of the range
pub frames-more : (a : RangeView) (x : ℕ) → covers a x ≡ true → covers (frames a) x ≡ true
frames-more a x h = grind (arith, nat_tests, h)

first-frame : (x : ℕ) → 4096 * (x / 4096) / 4096 ≡ x / 4096
first-frame x = omega arith

pub Apart-swap : (a b : RangeView) → ShareNoFrame a b → ShareNoFrame b a
Apart-swap a b apart x y at_x at_y same = apart y x at_y at_x (sym same)

-- the frames of one place don't overlap the other place, if the two share no frame
pub apart-clear : (a b : RangeView) → a.base % 4096 ≡ 0 → ShareNoFrame a b → AreDisjoint (frames a) b
apart-clear a b aligned apart x at_a at_b = apart (4096 * (x / 4096)) x (frame-first a x aligned at_a) at_b (first-frame x)

-- an unclaimed byte is in no place where a table may lie
unkept : (own : Owners) (x : ℕ) → own x ≡ None → may_hold_table (own x) ≡ true → ⊥
unkept own x none kept = true≢false (sym kept ∙ ap may_hold_table none)

pub unclaimed-clear : (own : Owners) (a b : RangeView) → IsUnclaimed own a → IsTablePlace own b → AreDisjoint a b
unclaimed-clear own a b free seat x at_a at_b = unkept own x (free x at_a) (seat.kept x at_b)

-- a new place among unclaimed bytes shares no frame with an old one, and neither do their frames
pub new-apart : (own : Owners) (n b : RangeView) → n.base % 4096 ≡ 0 → IsUnclaimed own (frames n) → IsTablePlace own b → ShareNoFrame n b
new-apart own n b aligned free seat x y at_n at_b same =
    unkept own y (free y (frame-whole n x y aligned (frames-more n x at_n) (sym same))) (seat.kept y at_b)

pub old-clear : (own : Owners) (a n : RangeView) → n.base % 4096 ≡ 0 → IsUnclaimed own (frames n) → IsTablePlace own a
    → AreDisjoint (frames a) (frames n)
old-clear own a n aligned free seat x at_a at_n =
    unkept own (4096 * (x / 4096))
    (free (4096 * (x / 4096)) (frame-whole n x (4096 * (x / 4096)) aligned at_n (first-frame x)))
    (seat.kept (4096 * (x / 4096)) (frame-first a x seat.aligned at_a))

-- a claim for an owner in whose memory a table may lie
kept-claim : (b : Bool) (o : Owner) (old : Option Owner) → may_hold_table (Some o) ≡ true → may_hold_table old ≡ true
    → may_hold_table (if b then Some o else old) ≡ true
kept-claim true o old new was = new
kept-claim false o old new was = was

pub IsTablePlace-claim : (own : Owners) (a r : RangeView) (o : Owner) → may_hold_table (Some o) ≡ true → IsTablePlace own a
    → IsTablePlace (replace_in_range r o own) a
IsTablePlace-claim own a r o new seat = record {
  aligned = seat.aligned;
  kept = λ x at. kept-claim (covers r x) o (own x) new (seat.kept x at);
}

-- a claim of other bytes, for any owner, and a free of other bytes keep a place for a table
pub IsTablePlace-clear : (own : Owners) (a r : RangeView) (o : Owner) → AreDisjoint r a → IsTablePlace own a
    → IsTablePlace (replace_in_range r o own) a
IsTablePlace-clear own a r o clear seat = record {
  aligned = seat.aligned;
  kept = λ x at. rw (false_from_ne_true (covers r x) (λ in_r. clear x in_r at)) (seat.kept x at);
}

pub IsTablePlace-free : (own : Owners) (a r : RangeView) → AreDisjoint r a → IsTablePlace own a → IsTablePlace (uncover_range r own) a
IsTablePlace-free own a r clear seat = record {
  aligned = seat.aligned;
  kept = λ x at. rw (false_from_ne_true (covers r x) (λ in_r. clear x in_r at)) (seat.kept x at);
}

-- a claim for an owner in whose memory a table may lie makes its range a place for a table
pub IsTablePlace-new : (own : Owners) (n r : RangeView) (o : Owner) → n.base % 4096 ≡ 0 → may_hold_table (Some o) ≡ true
    → ((x : ℕ) → covers n x ≡ true → covers r x ≡ true) → IsTablePlace (replace_in_range r o own) n
IsTablePlace-new own n r o aligned new inside = record {
  aligned = aligned;
  kept = λ x at. let here : covers r x ≡ true = inside x at in rw here new;
}

pub AreTablePlaces-swap : (own : Owners) (m r : RangeView) → AreTablePlaces own m r → AreTablePlaces own r m
AreTablePlaces-swap own m r both = record { first = both.second; second = both.first; apart = Apart-swap m r both.apart }

pub AreTablePlaces-claim : (own : Owners) (m r a : RangeView) (o : Owner) → may_hold_table (Some o) ≡ true → AreTablePlaces own m r
    → AreTablePlaces (replace_in_range a o own) m r
AreTablePlaces-claim own m r a o new both = record {
  first = IsTablePlace-claim own m a o new both.first;
  second = IsTablePlace-claim own r a o new both.second;
  apart = both.apart;
}

pub AreTablePlaces-clear : (own : Owners) (m r a : RangeView) (o : Owner) → AreDisjoint a m → AreDisjoint a r → AreTablePlaces own m r
    → AreTablePlaces (replace_in_range a o own) m r
AreTablePlaces-clear own m r a o first second both = record {
  first = IsTablePlace-clear own m a o first both.first;
  second = IsTablePlace-clear own r a o second both.second;
  apart = both.apart;
}

pub AreTablePlaces-free : (own : Owners) (m r a : RangeView) → AreDisjoint a m → AreDisjoint a r → AreTablePlaces own m r
    → AreTablePlaces (uncover_range a own) m r
AreTablePlaces-free own m r a first second both = record {
  first = IsTablePlace-free own m a first both.first;
  second = IsTablePlace-free own r a second both.second;
  apart = both.apart;
}

-- both tables lie in suitable places after the second one has moved to a new place, whose frames
-- are claimed
pub AreTablePlaces-move : (own : Owners) (m r n : RangeView) (o : Owner) → may_hold_table (Some o) ≡ true → n.base % 4096 ≡ 0
    → IsUnclaimed own (frames n)
    → AreTablePlaces own m r → AreTablePlaces (replace_in_range (frames n) o own) m n
AreTablePlaces-move own m r n o new aligned free both = record {
  first = IsTablePlace-claim own m (frames n) o new both.first;
  second = IsTablePlace-new own n (frames n) o aligned new (frames-more n);
  apart = Apart-swap n m (new-apart own n m aligned free both.first);
}

-- they still do after the frames that it left are freed
pub AreTablePlaces-leave : (own : Owners) (m r n : RangeView) (o : Owner) → may_hold_table (Some o) ≡ true → n.base % 4096 ≡ 0
    → IsUnclaimed own (frames n)
    → AreTablePlaces own m r → AreTablePlaces (uncover_range (frames r) (replace_in_range (frames n) o own)) m n
AreTablePlaces-leave own m r n o new aligned free both =
    AreTablePlaces-free (replace_in_range (frames n) o own) m n (frames r)
    (apart-clear r m both.second.aligned (Apart-swap m r both.apart))
    (λ x at_r at_n. old-clear own r n aligned free both.second x at_r (frames-more n x at_n))
    (AreTablePlaces-move own m r n o new aligned free both)
