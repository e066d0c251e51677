-- A value that spells a form of `crashkernel=` is read as that form.
use Rattle.std.proofs.Common.{◌≡◌, ℕ, ◌+◌, ◌*◌, ◌^◌, ◌≤◌, ◌==◌, nat_lt, if◌then◌else◌, Bool, true, false, ◌||◌, is_some, Option, Some, None, List, [], ◌∷◌, ◌++◌, length, drop, refl, sym, ap, ◌∙◌, append_assoc, length-append, length-drop, eq-eqb, codes, Ok, Err, IfOk, arith}
use Rattle.std.proofs.lemmas.Bool.{ne_eqb}
use Rattle.std.proofs.lemmas.Bool.Decides.{nat_tests}
use Rattle.std.proofs.lemmas.List.{append-nil}
use Rattle.std.specs.Char.{is_digit}
use Rattle.std.specs.Option.{option_map}
use Rattle.bm_base.specs.OptionSteps.{◌>>=◌}
use Rattle.bm_base.specs.declared.size.NumFault.{NumFault}
use Rattle.bm_base.specs.declared.size.NumFault.TheVariants.{NoDigits, TooLarge}
use Rattle.bm_base.specs.Size.{begins_with_digit, number_value, number_end, suffix_at, suffix_of, with_suffix, size_of, IsSize}
use Rattle.bm_base.proofs.SizeLaws.{number_end-le, size_of-mark}
use Rattle.text_words.specs.declared.separators.Separators.TheVariants.{Byte}
use Rattle.text_words.specs.Parts.{split_once, parts_in}
use Rattle.text_words.specs.Words.{IsClosed}
use Rattle.text_words.proofs.PartsLaws.{parts-one, parts-spelled}
use Rattle.boot_options.specs.declared.crash.CrashRange.{CrashRange}
use Rattle.boot_options.specs.MapOptions.{whole_size}
use Rattle.boot_options.specs.Crash.{CrashFormView, High, Low, Plain, crash_range_of, crash_ranges_of, end_of_range, crash_form_of, range_if_in_order, is_above, text_and_base, simple_form, form_by_suffix}
use Rattle.boot_options.specs.Spelling.{SpellRanges, SpellsEnd, SpellsForm, SpellsRange, a_base, by_ranges, high, join_with_commas, low, no_base, one_size}
use Rattle.boot_options.proofs.SpellingLaws.{then-some, whole_size-end}

-- the mark isn't in the text
abbrev pub Lacks : ℕ → List ℕ → Type 0
Lacks mark [] = Unit {0}
Lacks mark (b ∷ bs) = (b == mark ≡ false) × Lacks mark bs

pub lacks-append : (mark : ℕ) (xs ys : List ℕ) → Lacks mark xs → Lacks mark ys → Lacks mark (xs ++ ys)
lacks-append mark [] ys front back = back
lacks-append mark (x ∷ xs) ys front back = (front.0, lacks-append mark xs ys front.1 back)

pub split_once-none : (mark : ℕ) (text : List ℕ) → Lacks mark text → split_once mark text ≡ None
split_once-none mark [] lacks = refl
split_once-none mark (b ∷ bs) lacks = rw (lacks.0, split_once-none mark bs lacks.1) refl

pub split_once-mark : (mark : ℕ) (text rest : List ℕ) → Lacks mark text → split_once mark (text ++ (mark ∷ rest)) ≡ Some (text, rest)
split_once-mark mark [] rest lacks = rw (eq-eqb mark mark refl) refl
split_once-mark mark (b ∷ bs) rest lacks = rw (lacks.0, split_once-mark mark bs rest lacks.1) refl

-- a size doesn't take more bytes than the text has
either-le : (t : Bool) (x y : ℕ × ℕ) → x.1 ≤ 1 → y.1 ≤ 1 → (if t then x else y).1 ≤ 1
either-le true x y front back = front
either-le false x y front back = back

suffix_at-le : (b : ℕ) → (suffix_at b).1 ≤ 1
suffix_at-le b =
    either-le ((b == 75) || (b == 107)) _ _ (omega arith) (either-le ((b == 77) || (b == 109)) _ _ (omega arith)
    (either-le ((b == 71) || (b == 103)) _ _ (omega arith) (either-le ((b == 84) || (b == 116)) _ _ (omega arith)
    (either-le ((b == 80) || (b == 112)) _ _ (omega arith) (either-le ((b == 69) || (b == 101)) _ _ (omega arith) (omega arith))))))

suffix_of-le : (text : List ℕ) → (suffix_of text).1 ≤ length text
suffix_of-le [] = omega arith
suffix_of-le (b ∷ bs) = let small : (suffix_at b).1 ≤ 1 = suffix_at-le b in omega (arith, small)

size-within : (text : List ℕ) → IfOk {T = ℕ × ℕ} (size_of text) (λ found. found.1 ≤ length text)
size-within text = by_digit (begins_with_digit text)
  where
    by_fit : (t : Bool) (value taken : ℕ) → taken ≤ length text
        → IfOk {T = ℕ × ℕ} {E = NumFault} (if t then Ok (value, taken) else Err TooLarge) (λ found. found.1 ≤ length text)
    by_fit true value taken fits = fits
    by_fit false value taken fits = tt

    short : (end : ℕ) → end ≤ length text → end + (suffix_of (drop end text)).1 ≤ length text
    short end within = omega (arith, suffix_of-le (drop end text), within, length-drop end text)

    by_digit : (t : Bool)
        → IfOk {T = ℕ × ℕ} {E = NumFault}
        (if t then with_suffix (number_value text) (number_end text) (suffix_of (drop (number_end text) text)) else Err NoDigits)
        (λ found. found.1 ≤ length text)
    by_digit true =
        by_fit (nat_lt (number_value text * (suffix_of (drop (number_end text) text)).0) (2 ^ 64))
        (number_value text * (suffix_of (drop (number_end text) text)).0)
        (number_end text + (suffix_of (drop (number_end text) text)).1) (short (number_end text) (number_end-le text))
    by_digit false = tt

-- a text that is a size contains no mark
no_mark : (front rest : List ℕ) (mark n : ℕ) → is_digit mark 36 ≡ false → IsSize (front ++ (mark ∷ rest)) n → ⊥
no_mark front rest mark n is size =
    let front_size : size_of front ≡ Ok (n, length (front ++ (mark ∷ rest))) = sym (size_of-mark front rest mark is) ∙ size in
    let within : length (front ++ (mark ∷ rest)) ≤ length front = rw front_size at (size-within front) in
    let longer : length front + length (mark ∷ rest) ≤ length front = rw length-append at within in
    omega (arith, longer)

lacks-from : (front s : List ℕ) (mark n : ℕ) → is_digit mark 36 ≡ false → IsSize (front ++ s) n → Lacks mark s
lacks-from front [] mark n is size = tt
lacks-from front (b ∷ bs) mark n is size = (
  ne_eqb b mark (λ same. no_mark front bs b n (rw same is) size),
  lacks-from (front ++ (b ∷ [])) bs mark n is (rw (append_assoc front (b ∷ []) bs) size),
)

pub lacks-size : (s : List ℕ) (mark n : ℕ) → is_digit mark 36 ≡ false → IsSize s n → Lacks mark s
lacks-size s mark n is size = lacks-from [] s mark n is size

-- the size and the base of a plain form are read as spelled
place-none : (s : List ℕ) → Lacks 64 s → text_and_base s ≡ Some (s, 0)
place-none s lacks = rw (split_once-none 64 s lacks) refl

place-base : (s b : List ℕ) (base : ℕ) → Lacks 64 s → IsSize b base → text_and_base (s ++ (64 ∷ b)) ≡ Some (s, base)
place-base s b base lacks size =
    rw (split_once-mark 64 s b lacks) (ap (λ (o : Option ℕ). option_map (λ x. (s, x)) o) (whole_size-end b base size))

-- a plain form of one size is read as spelled, with a base and without
abbrev one : ℕ → ℕ → CrashFormView
one size base = Plain (record { ranges = record { start = 0; end = None; size = size } ∷ []; base = base })

simple-placed : (value s : List ℕ) (base n : ℕ) → text_and_base value ≡ Some (s, base) → IsSize s n → simple_form value ≡ Some (one n base)
simple-placed value s base n is size =
    then-some (text_and_base value) (λ place. whole_size place.0 >>= λ size. Some (one size place.1)) (s, base) is
    ∙ then-some (whole_size s) (λ size. Some (one size base)) n (whole_size-end s n size)

form-simple_form : (value : List ℕ) → Lacks 58 value → Lacks 44 value → crash_form_of value ≡ simple_form value
unfolding crash_form_of
form-simple_form value colons commas = rw (split_once-none 58 value colons, split_once-none 44 value commas) refl

form-simple : (s : List ℕ) (n : ℕ) → IsSize s n → crash_form_of s ≡ Some (one n 0)
form-simple s n size =
    form-simple_form s (lacks-size s 58 n refl size) (lacks-size s 44 n refl size)
    ∙ simple-placed s s 0 n (place-none s (lacks-size s 64 n refl size)) size

form-placed : (s b : List ℕ) (n base : ℕ) → IsSize s n → IsSize b base → crash_form_of (s ++ (64 ∷ b)) ≡ Some (one n base)
form-placed s b n base size at =
    form-simple_form (s ++ (64 ∷ b))
    (lacks-append 58 s (64 ∷ b) (lacks-size s 58 n refl size) (refl, lacks-size b 58 base refl at))
    (lacks-append 44 s (64 ∷ b) (lacks-size s 44 n refl size) (refl, lacks-size b 44 base refl at))
    ∙ simple-placed (s ++ (64 ∷ b)) s base n (place-base s b base (lacks-size s 64 n refl size) at) size

-- a size with a suffix is read as spelled
form-suffixed : (s name : List ℕ) (n : ℕ) (form : CrashFormView) → IsSize s n → Lacks 58 name → form_by_suffix name n ≡ Some form
    → crash_form_of (s ++ (44 ∷ name)) ≡ Some form
unfolding crash_form_of
form-suffixed s name n form size colons is =
    let none : split_once 58 (s ++ (44 ∷ name)) ≡ None
    = split_once-none 58 (s ++ (44 ∷ name)) (lacks-append 58 s (44 ∷ name) (lacks-size s 58 n refl size) (refl, colons)) in
    rw (none, split_once-mark 44 s name (lacks-size s 44 n refl size))
    (then-some (whole_size s) (λ size. form_by_suffix name size) n (whole_size-end s n size) ∙ is)

form-high : (s : List ℕ) (n : ℕ) → IsSize s n → crash_form_of (s ++ codes ",high") ≡ Some (High n)
form-high s n size = form-suffixed s (codes "high") n (High n) size (refl, (refl, (refl, (refl, tt)))) refl

form-low : (s : List ℕ) (n : ℕ) → IsSize s n → crash_form_of (s ++ codes ",low") ≡ Some (Low n)
form-low s n size = form-suffixed s (codes "low") n (Low n) size (refl, (refl, (refl, tt))) refl

-- the end of a range, and then a range, are read as spelled
end-spelled : (text : List ℕ) (end : Option ℕ) (start : ℕ) → SpellsEnd text end start
    → (end_of_range text ≡ Some end) × (is_above end start ≡ true)
end-spelled text None start spells = (rw spells refl, refl)
end-spelled text (Some end) start spells = (by_text text spells.0, grind (arith, nat_tests, spells.1))
  where
    by_text : (text : List ℕ) → IsSize text end → end_of_range text ≡ Some (Some end)
    by_text [] size = absurd (cc)
    by_text (b ∷ bs) size = ap (λ (o : Option ℕ). option_map (λ e. Some e) o) (whole_size-end (b ∷ bs) end size)

lacks-end : (text : List ℕ) (end : Option ℕ) (start mark : ℕ) → is_digit mark 36 ≡ false → SpellsEnd text end start → Lacks mark text
lacks-end text None start mark is spells = rw spells tt
lacks-end text (Some end) start mark is spells = lacks-size text mark end is spells.0

-- a mark other than `-` and `:` isn't in the text of a range
lacks-range : (text : List ℕ) (r : CrashRange) (mark : ℕ) → is_digit mark 36 ≡ false → 45 == mark ≡ false → 58 == mark ≡ false
    → SpellsRange text r → Lacks mark text
lacks-range text r mark is dash colon spells =
    rw spells.text
    (lacks-append mark spells.start_text _ (lacks-size spells.start_text mark r.start is spells.start) (
      dash,
      lacks-append mark spells.end_text _ (lacks-end spells.end_text r.end r.start mark is spells.end)
          (colon, lacks-size spells.size_text mark r.size is spells.size),
    ))

-- the first colon after the start of a range is its own, whatever text follows the range
split_once-range : (text rest : List ℕ) (r : CrashRange) → (spells : SpellsRange text r)
    → split_once 58 (text ++ rest) ≡ Some (spells.start_text ++ (45 ∷ spells.end_text), spells.size_text ++ rest)
split_once-range text rest r spells =
    let bounds : List ℕ = spells.start_text ++ (45 ∷ spells.end_text) in
    let halves : text ++ rest ≡ bounds ++ (58 ∷ (spells.size_text ++ rest)) =
    ap (λ (t : List ℕ). t ++ rest)
    (spells.text ∙ sym (append_assoc spells.start_text (45 ∷ spells.end_text) (58 ∷ spells.size_text)))
    ∙ append_assoc bounds (58 ∷ spells.size_text) rest in
    rw halves (split_once-mark 58 bounds (spells.size_text ++ rest)
    (lacks-append 58 spells.start_text (45 ∷ spells.end_text) (lacks-size spells.start_text 58 r.start refl spells.start)
    (refl, lacks-end spells.end_text r.end r.start 58 refl spells.end)))

range-spelled : (text : List ℕ) (r : CrashRange) → SpellsRange text r → crash_range_of text ≡ Some r
range-spelled text r spells =
    let bounds : List ℕ = spells.start_text ++ (45 ∷ spells.end_text) in
    let at_colon : split_once 58 text ≡ Some (bounds, spells.size_text) =
    rw (append-nil text, append-nil spells.size_text) at (split_once-range text [] r spells) in
    let at_dash : split_once 45 bounds ≡ Some (spells.start_text, spells.end_text) =
    split_once-mark 45 spells.start_text spells.end_text (lacks-size spells.start_text 45 r.start refl spells.start) in
    let end = end-spelled spells.end_text r.end r.start spells.end in
    then-some (split_once 58 text) _ (bounds, spells.size_text) at_colon
    ∙ then-some (split_once 45 bounds) _ (spells.start_text, spells.end_text) at_dash
    ∙ then-some (whole_size spells.start_text) _ r.start (whole_size-end spells.start_text r.start spells.start)
    ∙ then-some (end_of_range spells.end_text) _ r.end end.0
    ∙ then-some (whole_size spells.size_text) (λ size. range_if_in_order (record { start = r.start; end = r.end; size = size })) r.size
    (whole_size-end spells.size_text r.size spells.size)
    ∙ rw end.1 refl

-- ranges with commas between them are read as spelled
pub lacks-closed : (text : List ℕ) → Lacks 44 text → IsClosed (Byte 44) false text
lacks-closed [] lacks = refl
lacks-closed (b ∷ bs) lacks = (lacks.0, lacks-closed bs lacks.1)

ranges-spelled : (text : List ℕ) (texts : List (List ℕ)) (rs : List CrashRange) → SpellRanges (text ∷ texts) rs
    → crash_ranges_of (parts_in (Byte 44) (join_with_commas (text ∷ texts))) ≡ Some rs
ranges-spelled text [] [] spell = absurd spell
ranges-spelled text [] (r ∷ []) spell =
    rw (parts-one (Byte 44) false text (lacks-closed text (lacks-range text r 44 refl refl refl spell.0)))
    (then-some (crash_range_of text) (λ range. crash_ranges_of [] >>= λ ranges. Some (range ∷ ranges)) r (range-spelled text r spell.0))
ranges-spelled text [] (r ∷ q ∷ rs) spell = absurd spell.1
ranges-spelled text (u ∷ texts) [] spell = absurd spell
ranges-spelled text (u ∷ texts) (r ∷ rs) spell =
    let closed : IsClosed (Byte 44) false text = lacks-closed text (lacks-range text r 44 refl refl refl spell.0) in
    rw (parts-spelled (Byte 44) false text 44 (join_with_commas (u ∷ texts)) closed refl)
    (then-some (crash_range_of text)
    (λ range. crash_ranges_of (parts_in (Byte 44) (join_with_commas (u ∷ texts))) >>= λ ranges. Some (range ∷ ranges)) r
    (range-spelled text r spell.0)
    ∙ then-some (crash_ranges_of (parts_in (Byte 44) (join_with_commas (u ∷ texts)))) (λ ranges. Some (r ∷ ranges)) rs
    (ranges-spelled u texts rs spell.1))

-- the text of ranges has no `@`, and has a colon
lacks-joined : (texts : List (List ℕ)) (rs : List CrashRange) → SpellRanges texts rs → Lacks 64 (join_with_commas texts)
lacks-joined [] [] spell = tt
lacks-joined [] (r ∷ rs) spell = absurd spell
lacks-joined (text ∷ texts) [] spell = absurd spell
lacks-joined (text ∷ []) (r ∷ rs) spell = lacks-range text r 64 refl refl refl spell.0
lacks-joined (text ∷ u ∷ texts) (r ∷ rs) spell =
    lacks-append 64 text (44 ∷ join_with_commas (u ∷ texts)) (lacks-range text r 64 refl refl refl spell.0)
    (refl, lacks-joined (u ∷ texts) rs spell.1)

front-joined : (text : List ℕ) (texts : List (List ℕ)) (after : List ℕ)
    → (rest : List ℕ) × (join_with_commas (text ∷ texts) ++ after ≡ text ++ rest)
front-joined text [] after = (after, refl)
front-joined text (u ∷ texts) after =
    ((44 ∷ join_with_commas (u ∷ texts)) ++ after, append_assoc text (44 ∷ join_with_commas (u ∷ texts)) after)

has-colon : (text : List ℕ) (texts : List (List ℕ)) (rs : List CrashRange) (after : List ℕ) → SpellRanges (text ∷ texts) rs
    → is_some (split_once 58 (join_with_commas (text ∷ texts) ++ after)) ≡ true
has-colon text texts [] after spell = absurd spell
has-colon text texts (r ∷ rs) after spell =
    let front = front-joined text texts after in rw (front.1, split_once-range text front.0 r spell.0) refl

form-ranges_form : (value front : List ℕ) (base : ℕ) (rs : List CrashRange) → is_some (split_once 58 value) ≡ true
    → text_and_base value ≡ Some (front, base) → crash_ranges_of (parts_in (Byte 44) front) ≡ Some rs
    → crash_form_of value ≡ Some (Plain (record { ranges = rs; base = base }))
unfolding crash_form_of
form-ranges_form value front base rs colon place ranges =
    rw colon
    (then-some (text_and_base value)
    (λ place. crash_ranges_of (parts_in (Byte 44) place.0) >>= λ ranges. Some (Plain (record { ranges = ranges; base = place.1 })))
    (front, base) place
    ∙ then-some (crash_ranges_of (parts_in (Byte 44) front)) (λ ranges. Some (Plain (record { ranges = ranges; base = base }))) rs ranges)

form-ranges : (text : List ℕ) (texts : List (List ℕ)) (rs : List CrashRange) → SpellRanges (text ∷ texts) rs
    → crash_form_of (join_with_commas (text ∷ texts)) ≡ Some (Plain (record { ranges = rs; base = 0 }))
form-ranges text texts rs spell =
    let whole : join_with_commas (text ∷ texts) ++ [] ≡ join_with_commas (text ∷ texts) = append-nil (join_with_commas (text ∷ texts)) in
    form-ranges_form (join_with_commas (text ∷ texts)) (join_with_commas (text ∷ texts)) 0 rs
    (rw whole at (has-colon text texts rs [] spell))
    (place-none (join_with_commas (text ∷ texts)) (lacks-joined (text ∷ texts) rs spell)) (ranges-spelled text texts rs spell)

form-ranges-placed : (text : List ℕ) (texts : List (List ℕ)) (rs : List CrashRange) (b : List ℕ) (base : ℕ)
    → SpellRanges (text ∷ texts) rs → IsSize b base
    → crash_form_of (join_with_commas (text ∷ texts) ++ (64 ∷ b)) ≡ Some (Plain (record { ranges = rs; base = base }))
form-ranges-placed text texts rs b base spell size =
    form-ranges_form (join_with_commas (text ∷ texts) ++ (64 ∷ b)) (join_with_commas (text ∷ texts)) base rs
    (has-colon text texts rs (64 ∷ b) spell)
    (place-base (join_with_commas (text ∷ texts)) b base (lacks-joined (text ∷ texts) rs spell) size) (ranges-spelled text texts rs spell)

-- each value that spells a form is read as that form
pub form-read : (value : List ℕ) (form : CrashFormView) → SpellsForm value form → crash_form_of value ≡ Some form
form-read value form (one_size s _ size _ is no_base) = rw (append-nil s) (form-simple s size is)
form-read value form (one_size s _ size base is (a_base b _ at)) = form-placed s b size base is at
form-read value form (by_ranges text _ texts ranges _ spell no_base) =
    rw (append-nil (join_with_commas (text ∷ texts))) (form-ranges text texts ranges spell)
form-read value form (by_ranges text _ texts ranges base spell (a_base b _ at)) = form-ranges-placed text texts ranges b base spell at
form-read value form (high s size is) = form-high s size is
form-read value form (low s size is) = form-low s size is
