-- What the states of a frame's bytes say about the frame.
use Rattle.std.proofs.Common.{◌≡◌, ◌≢◌, ℕ, ◌+◌, ◌*◌, ◌/◌, ◌%◌, ◌^◌, ◌<◌, ◌≤◌, ◌&&◌, ◌||◌, Bool, true, false, not, nat_le, nat_lt, if◌then◌else◌, Option, Some, None, List, [], ◌∷◌, refl, sym, ap, ◌∙◌, arith}
use Rattle.std.proofs.Math.Bool.{and-false}
use Rattle.std.proofs.Math.Nat.{mul_assoc, div-add-mod}
use Rattle.std.proofs.lemmas.Bool.{and_from, and_parts}
use Rattle.std.proofs.lemmas.Bool.Decides.{Decides-eqb, nat_tests}
use Rattle.bm_base.specs.Range.{RangeView, covers}
use Rattle.bm_base.specs.Frames.{bytes_of_frame}
use Rattle.bm_base.proofs.EachLaws.{each_in-all, each_in-fails}
use Rattle.audit_lines.specs.Blocks.{BlockLineView, bytes_of_block}
use Rattle.audit_lines.specs.declared.lines.MapLine.{MapLine}
use Rattle.boot_audit.specs.declared.sweep.ByteState.TheVariants as states
use Rattle.boot_audit.specs.Frames.{frames_of_block, is_in_a_block, is_in_memory, is_aligned, has_owner, is_untouched, is_usable}
use Rattle.boot_audit.specs.Sweep.{is_byte_in_block, is_free_byte, byte_state_at, byte_state_of}
use Rattle.boot_audit.specs.Verdicts.{first_line_passing, is_free, is_lost, is_in_block_but_not_free}
use Rattle.boot_audit.proofs.SweepLaws.{Tells}

-- for n frames from frame m on, an address is one of their bytes exactly if its frame is one of the
-- n
at_frame : (a m n f x : ℕ) → a ≡ 4096 * m → x / 4096 ≡ f
    → (nat_le a x && nat_lt x (a + 4096 * n)) ≡ (nat_le (a / 4096) f && nat_lt f (a / 4096 + n))
at_frame a m n f x is frame = grind (arith, nat_tests)

byte_by : (a n f x : ℕ) → a % (4096 * n) ≡ 0 → x / 4096 ≡ f
    → (nat_le a x && nat_lt x (a + 4096 * n)) ≡ (nat_le (a / 4096) f && nat_lt f (a / 4096 + n))
byte_by a n f x aligned frame =
    let whole : 4096 * n * (a / (4096 * n)) + a % (4096 * n) ≡ a = div-add-mod a (4096 * n) in
    let split : 4096 * n * (a / (4096 * n)) ≡ 4096 * (n * (a / (4096 * n))) = mul_assoc 4096 n (a / (4096 * n)) in
    at_frame a (n * (a / (4096 * n))) n f x (omega arith) frame

block_byte : (b : BlockLineView) (f x : ℕ) → is_aligned b ≡ true → x / 4096 ≡ f → covers (bytes_of_block b) x ≡ covers (frames_of_block b) f
block_byte b f x aligned frame = byte_by b.at (2 ^ b.order) f x ((Decides-eqb (b.at % (4096 * 2 ^ b.order)) 0).0 aligned) frame

abbrev or_of : Bool → Bool → Bool
or_of a b = a || b

blocks_byte : (blocks : List BlockLineView) (n f x : ℕ) → first_line_passing (λ b. not (is_aligned b)) n blocks ≡ None → x / 4096 ≡ f
    → is_byte_in_block blocks x ≡ is_in_a_block blocks f
blocks_byte [] n f x aligned frame = refl
blocks_byte (b ∷ bs) n f x aligned frame =
    let parts = aligned_first (is_aligned b) n (first_line_passing (λ c. not (is_aligned c)) (n + 1) bs) aligned in
    ap (λ (c : Bool). or_of c (is_byte_in_block bs x)) (block_byte b f x parts.0 frame)
    ∙ ap (or_of (covers (frames_of_block b) f)) (blocks_byte bs (n + 1) f x parts.1 frame)
  where
    aligned_first : (passes : Bool) (line : ℕ) (others : Option ℕ) → (if not passes then Some line else others) ≡ None
        → (passes ≡ true) × (others ≡ None)
    aligned_first true line others is = (refl, is)
    aligned_first false line others is = cc

-- what each state says of a byte: whether it is free, and whether it is in a block
lost_says : (free blocked : Bool) → byte_state_of free blocked ≡ states.Lost → (free ≡ true) × (blocked ≡ false)
lost_says true true is = cc
lost_says true false is = (refl, refl)
lost_says false true is = cc
lost_says false false is = cc

not_free_says : (free blocked : Bool) → byte_state_of free blocked ≡ states.NotFree → (free ≡ false) × (blocked ≡ true)
not_free_says true true is = cc
not_free_says true false is = cc
not_free_says false true is = (refl, refl)
not_free_says false false is = cc

free_in_block : (free blocked : Bool) → blocked ≡ true → byte_state_of free blocked ≢ states.NotFree → free ≡ true
free_in_block true blocked in_it other = refl
free_in_block false true in_it other = absurd (other refl)
free_in_block false false in_it other = cc

module _ (limit : ℕ) (map_lines : List MapLine) (owners : List RangeView) where
  free_byte : ℕ → Bool
  free_byte x = is_free_byte limit map_lines owners x

  pub all_free : (f : ℕ) → ((x : ℕ) → 4096 * f ≤ x → x < 4096 * f + 4096 → is_free_byte limit map_lines owners x ≡ true)
      → is_free limit map_lines owners f ≡ true
  unfolding is_usable is_untouched
  all_free f each =
      and_from (is_usable limit map_lines f) (is_untouched owners f)
      (each_in-all (bytes_of_frame f) (λ x. nat_lt x limit && is_in_memory map_lines x)
      (λ x above below. (and_parts (nat_lt x limit && is_in_memory map_lines x) (not (has_owner owners x)) (each x above below)).0))
      (each_in-all (bytes_of_frame f) (λ x. not (has_owner owners x))
      (λ x above below. (and_parts (nat_lt x limit && is_in_memory map_lines x) (not (has_owner owners x)) (each x above below)).1))

  by_parts : (f x : ℕ) (usable untouched : Bool) → (nat_lt x limit && is_in_memory map_lines x) ≡ usable
      → not (has_owner owners x) ≡ untouched
      → (usable && untouched) ≡ false → 4096 * f ≤ x → x < 4096 * f + 4096 → is_free limit map_lines owners f ≡ false
  unfolding is_usable is_untouched
  by_parts f x false untouched first second fails above below =
      let out : is_usable limit map_lines f ≡ false =
      each_in-fails (bytes_of_frame f) (λ y. nat_lt y limit && is_in_memory map_lines y) x above below first in
      ap (λ (u : Bool). u && is_untouched owners f) out
  by_parts f x true false first second fails above below =
      let out : is_untouched owners f ≡ false = each_in-fails (bytes_of_frame f) (λ y. not (has_owner owners y)) x above below second in
      ap (λ (u : Bool). is_usable limit map_lines f && u) out ∙ and-false (is_usable limit map_lines f)
  by_parts f x true true first second fails above below = cc

  pub one_unfree : (f x : ℕ) → is_free_byte limit map_lines owners x ≡ false → 4096 * f ≤ x → x < 4096 * f + 4096
      → is_free limit map_lines owners f ≡ false
  one_unfree f x fails above below =
      by_parts f x (nat_lt x limit && is_in_memory map_lines x) (not (has_owner owners x)) refl refl fails above below

  module _ (blocks : List BlockLineView) (aligned : first_line_passing (λ b. not (is_aligned b)) 1 blocks ≡ None) where
    in_block_is : (f x : ℕ) → 4096 * f ≤ x → x < 4096 * f + 4096 → is_byte_in_block blocks x ≡ is_in_a_block blocks f
    in_block_is f x above below = blocks_byte blocks 1 f x aligned (omega arith)

    lost_all : (f : ℕ) → ((x : ℕ) → 4096 * f ≤ x → x < 4096 * f + 4096 → byte_state_at limit map_lines owners blocks x ≡ states.Lost)
        → is_lost limit map_lines owners blocks f ≡ true
    unfolding byte_state_at
    lost_all f each =
        let free : is_free limit map_lines owners f ≡ true = all_free f (λ x above below.
        (lost_says (is_free_byte limit map_lines owners x) (is_byte_in_block blocks x) (each x above below)).0) in
        let first : is_byte_in_block blocks (4096 * f) ≡ false =
        (lost_says (is_free_byte limit map_lines owners (4096 * f)) (is_byte_in_block blocks (4096 * f))
        (each (4096 * f) (omega arith) (omega arith))).1 in
        let out : is_in_a_block blocks f ≡ false = sym (in_block_is f (4096 * f) (omega arith) (omega arith)) ∙ first in
        and_from (is_free limit map_lines owners f) (not (is_in_a_block blocks f)) free (ap not out)

    lost_by : (f x : ℕ) (free blocked : Bool) → is_free_byte limit map_lines owners x ≡ free → is_byte_in_block blocks x ≡ blocked
        → byte_state_of free blocked ≢ states.Lost → 4096 * f ≤ x → x < 4096 * f + 4096 → is_lost limit map_lines owners blocks f ≡ false
    lost_by f x false blocked first second other above below =
        ap (λ (u : Bool). u && not (is_in_a_block blocks f)) (one_unfree f x first above below)
    lost_by f x true true first second other above below =
        let out : is_in_a_block blocks f ≡ true = sym (in_block_is f x above below) ∙ second in
        ap (λ (u : Bool). is_free limit map_lines owners f && not u) out ∙ and-false (is_free limit map_lines owners f)
    lost_by f x true false first second other above below = absurd (other refl)

    lost_one : (f x : ℕ) → 4096 * f ≤ x → x < 4096 * f + 4096 → byte_state_at limit map_lines owners blocks x ≢ states.Lost
        → is_lost limit map_lines owners blocks f ≡ false
    unfolding byte_state_at
    lost_one f x above below other =
        lost_by f x (is_free_byte limit map_lines owners x) (is_byte_in_block blocks x) refl refl other above below

    not_free_one : (f x : ℕ) → 4096 * f ≤ x → x < 4096 * f + 4096 → byte_state_at limit map_lines owners blocks x ≡ states.NotFree
        → is_in_block_but_not_free limit map_lines owners blocks f ≡ true
    unfolding byte_state_at
    not_free_one f x above below is =
        let says = not_free_says (is_free_byte limit map_lines owners x) (is_byte_in_block blocks x) is in
        and_from (is_in_a_block blocks f) (not (is_free limit map_lines owners f)) (sym (in_block_is f x above below) ∙ says.1)
        (ap not (one_unfree f x says.0 above below))

    free_by : (f : ℕ) (blocked : Bool) → is_in_a_block blocks f ≡ blocked
        → ((x : ℕ) → 4096 * f ≤ x → x < 4096 * f + 4096 → byte_state_at limit map_lines owners blocks x ≢ states.NotFree)
        → is_in_block_but_not_free limit map_lines owners blocks f ≡ false
    unfolding byte_state_at
    free_by f false out none = ap (λ (u : Bool). u && not (is_free limit map_lines owners f)) out
    free_by f true in_it none =
        let free : is_free limit map_lines owners f ≡ true = all_free f (λ x above below.
        free_in_block (is_free_byte limit map_lines owners x) (is_byte_in_block blocks x) (in_block_is f x above below ∙ in_it)
        (none x above below)) in
        ap (λ (u : Bool). is_in_a_block blocks f && not u) free ∙ and-false (is_in_a_block blocks f)

    pub bytes_tell : Tells (byte_state_at limit map_lines owners blocks) (is_lost limit map_lines owners blocks)
        (is_in_block_but_not_free limit map_lines owners blocks)
    bytes_tell = record {
      lost_true = lost_all;
      lost_false = lost_one;
      free_false = not_free_one;
      free_true = λ f none. free_by f (is_in_a_block blocks f) refl none;
    }

-- the state of a byte, computed from four tests
pub around : (limit : ℕ) (map_lines : List MapLine) (owners : List RangeView) (blocks : List BlockLineView) (x : ℕ)
    (below inside owned held : Bool)
    → nat_lt x limit ≡ below → is_in_memory map_lines x ≡ inside → has_owner owners x ≡ owned → is_byte_in_block blocks x ≡ held
    → byte_state_at limit map_lines owners blocks x ≡ byte_state_of ((below && inside) && not owned) held
unfolding byte_state_at
around limit map_lines owners blocks x below inside owned held first second third fourth = rw (first, second, third, fourth) refl

-- lists that agree on a byte give it the same state
pub same_state : (limit : ℕ) (runs map_lines : List MapLine) (left owners : List RangeView) (rest blocks : List BlockLineView) (x : ℕ)
    → is_in_memory runs x ≡ is_in_memory map_lines x → has_owner left x ≡ has_owner owners x
    → is_byte_in_block rest x ≡ is_byte_in_block blocks x
    → byte_state_at limit map_lines owners blocks x ≡ byte_state_at limit runs left rest x
unfolding byte_state_at
same_state limit runs map_lines left owners rest blocks x first second third = rw (first, second, third) refl
