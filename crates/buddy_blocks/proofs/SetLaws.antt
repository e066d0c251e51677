-- Lemmas on aligned sets of frames: the frames in a set, the sets of two orders around a frame,
-- and zones.
use Rattle.std.proofs.Common.{◌≡◌, ℕ, ◌+◌, ◌-◌, ◌*◌, ◌/◌, ◌%◌, ◌^◌, ◌<◌, ◌≤◌, sym, ◌∙◌, ap, subst, arith}
use Rattle.std.proofs.lemmas.Bool.Decides.{nat_tests}
use Rattle.std.proofs.lemmas.Nat.{pow-add, div-mul-add}
use Rattle.std.proofs.Math.Nat.{mod-add-div', mod-lt, zero-mod, div-div-eq-div-mul, mul-mod_left}
use Rattle.std.proofs.Math.Pow.{mod-mod-pow}
use Rattle.bm_base.specs.Zones.{zone_of}

-- a set of s frames begins at a multiple of s
pub base_is : (s x : ℕ) → x - x % s ≡ x / s * s
base_is s x = omega (arith, mod-add-div' x s)

pub in_set : (s a x : ℕ) → a - a % s ≤ x → x < a - a % s + s → x / s ≡ a / s
in_set s a x above below =
    let rest : ℕ = x - (a - a % s) in
    let at : x ≡ a / s * s + rest = omega (arith, base_is s a) in
    ap (λ y. y / s) at ∙ div-mul-add (a / s) s rest (omega arith)

pub set_from : (s a x : ℕ) → x / s ≡ a / s → a - a % s ≤ x
set_from s a x same = omega (arith, base_is s a, mod-add-div' x s, ap (λ q. q * s) same)

pub set_until : (s a x : ℕ) → 0 < s → x / s ≡ a / s → x < a - a % s + s
set_until s a x some same = omega (arith, base_is s a, mod-add-div' x s, mod-lt x some, ap (λ q. q * s) same)

-- frames in one set are in one set of each larger order
wider_by : (o d x y : ℕ) → x / 2 ^ o ≡ y / 2 ^ o → x / 2 ^ (o + d) ≡ y / 2 ^ (o + d)
wider_by o d x y same =
    let size : 2 ^ (o + d) ≡ 2 ^ o * 2 ^ d = pow-add 2 o d in
    ap (λ s. x / s) size ∙ sym (div-div-eq-div-mul x (2 ^ o) (2 ^ d)) ∙ ap (λ q. q / 2 ^ d) same
    ∙ div-div-eq-div-mul y (2 ^ o) (2 ^ d) ∙ ap (λ s. y / s) (sym size)

pub wider : (o p x y : ℕ) → o ≤ p → x / 2 ^ o ≡ y / 2 ^ o → x / 2 ^ p ≡ y / 2 ^ p
wider o p x y order same =
    let more : o + (p - o) ≡ p = omega arith in
    subst (λ (q : ℕ). x / 2 ^ q ≡ y / 2 ^ q) more (wider_by o (p - o) x y same)

-- a multiple of a size is a multiple of each smaller size
pub multiple : (o p x : ℕ) → o ≤ p → x % 2 ^ p ≡ 0 → x % 2 ^ o ≡ 0
multiple o p x order whole =
    let more : p ≡ (p - o) + o = omega arith in
    let there : x % 2 ^ ((p - o) + o) ≡ 0 = subst (λ (q : ℕ). x % 2 ^ q ≡ 0) more whole in
    sym (mod-mod-pow x (p - o) o) ∙ ap (λ r. r % 2 ^ o) there ∙ zero-mod (2 ^ o)

-- two different multiples of s are at least s apart
pub apart : (s x y : ℕ) → x % s ≡ 0 → y % s ≡ 0 → x < y → x + s ≤ y
apart s x y first second order =
    let more : (x / s) * s < (y / s) * s = omega (arith, mod-add-div' x s, mod-add-div' y s, first, second) in
    grind (arith, mod-add-div' x s, mod-add-div' y s)

-- the first frame of a set is a multiple of its size
pub base_whole : (s x : ℕ) → (x - x % s) % s ≡ 0
base_whole s x = ap (λ y. y % s) (base_is s x) ∙ mul-mod_left (x / s) s

-- the frames of a set are in one zone
pub one_zone : (o x y : ℕ) → o ≤ 10 → y / 2 ^ o ≡ x / 2 ^ o → zone_of y ≡ zone_of x
one_zone o x y small same =
    let at_ten : y / 2 ^ 10 ≡ x / 2 ^ 10 = wider o 10 y x small same in
    grind (arith, nat_tests)
