-- Bounds of the forms of `crashkernel=`: a plain form has at least one range, and each range ends
-- above its start.
use Rattle.std.proofs.Common.{◌≡◌, ℕ, ◌<◌, if◌then◌else◌, Bool, true, false, is_some, Option, Some, None, List, [], ◌∷◌, length, refl, IfSome, arith, codes}
use Rattle.std.proofs.lemmas.Bool.{ltb-true}
use Rattle.std.specs.Prelude.{◌&&◌, not}
use Rattle.std.specs.Str.{bytes_eq}
use Rattle.bm_base.specs.OptionSteps.{◌>>=◌}
use Rattle.text_words.specs.declared.separators.Separators.{Separators}
use Rattle.text_words.specs.declared.separators.Separators.TheVariants.{Byte}
use Rattle.text_words.specs.Parts.{split_once, parts_from, parts_in, quoted_after, separates, prepend_byte}
use Rattle.boot_options.specs.declared.crash.CrashRange.{CrashRange}
use Rattle.boot_options.specs.MapOptions.{whole_size}
use Rattle.boot_options.specs.Crash.{AreInOrder, CrashFormView, High, IsPlain, Low, Plain, comma, crash_range_of, crash_ranges_of, end_of_range, crash_form_of, range_if_in_order, is_above, text_and_base, ranges_form, simple_form, suffix_form, form_without_colon}
use Rattle.boot_options.proofs.MapOptionBounds.{ifsome-if, ifsome-then}

abbrev pub IsSoundForm : CrashFormView → Type 0
IsSoundForm (Plain form) = IsPlain form
IsSoundForm (High size) = Unit {0}
IsSoundForm (Low size) = Unit {0}

abbrev pub IsInOrder : CrashRange → Type 0
IsInOrder r = IfSome r.end (λ end. r.start < end)

sound-in_order : (r : CrashRange) → IfSome (range_if_in_order r) IsInOrder
sound-in_order r = by_test (is_above r.end r.start) refl
  where
    above : (end : Option ℕ) (start : ℕ) → is_above end start ≡ true → IfSome end (λ e. start < e)
    above None start is = tt
    above (Some end) start is = ltb-true start end is

    by_test : (t : Bool) → is_above r.end r.start ≡ t → IfSome (if t then Some r else None) IsInOrder
    by_test true is = above r.end r.start is
    by_test false is = tt

sound-range : (text : List ℕ) → IfSome (crash_range_of text) IsInOrder
sound-range text =
    ifsome-then IsInOrder (split_once 58 text) _ (λ halves.
    ifsome-then IsInOrder (split_once 45 halves.0) _ (λ bounds.
    ifsome-then IsInOrder (whole_size bounds.0) _ (λ start.
    ifsome-then IsInOrder (end_of_range bounds.1) _ (λ end.
    ifsome-then IsInOrder (whole_size halves.1) _ (λ size.
    sound-in_order (record { start = start; end = end; size = size }))))))

-- there are n ranges, and each ends above its start
abbrev Are : ℕ → List CrashRange → Type 0
Are n rs = (length rs ≡ n) × AreInOrder rs

sound-ranges : (texts : List (List ℕ)) → IfSome (crash_ranges_of texts) (Are (length texts))
sound-ranges [] = (refl, tt)
sound-ranges (text ∷ texts) = with_one (crash_range_of text) (sound-range text) (crash_ranges_of texts) (sound-ranges texts)
  where
    with_one : (r : Option CrashRange) → IfSome r IsInOrder → (rs : Option (List CrashRange)) → IfSome rs (Are (length texts))
        → IfSome (r >>= λ range. rs >>= λ ranges. Some (range ∷ ranges)) (Are (length (text ∷ texts)))
    with_one None is rs are = tt
    with_one (Some r) is None are = tt
    with_one (Some r) is (Some rs) are = (grind (arith, are.0), (is, are.1))

-- a text has at least one part
front-some : (b : ℕ) (parts : List (List ℕ)) → 0 < length (prepend_byte b parts)
front-some b [] = omega arith
front-some b (p ∷ ps) = omega arith

parts-some : (s : Separators) (quoted : Bool) (text : List ℕ) → 0 < length (parts_from s quoted text)
parts-some s quoted [] = omega arith
parts-some s quoted (b ∷ bs) = by_test (separates s b && not quoted)
  where
    by_test : (t : Bool)
        → 0 < length (if t then [] ∷ parts_from s quoted bs else prepend_byte b (parts_from s (quoted_after s quoted b) bs))
    by_test true = omega arith
    by_test false = front-some b (parts_from s (quoted_after s quoted b) bs)

sound-ranges_form : (value : List ℕ) → IfSome (ranges_form value) IsSoundForm
sound-ranges_form value =
    ifsome-then IsSoundForm (text_and_base value) _ (λ place.
    with_ranges place.1 (length (parts_in (Byte comma) place.0)) (parts-some (Byte comma) false place.0)
    (crash_ranges_of (parts_in (Byte comma) place.0)) (sound-ranges (parts_in (Byte comma) place.0)))
  where
    with_ranges : (base n : ℕ) → 0 < n → (rs : Option (List CrashRange)) → IfSome rs (Are n)
        → IfSome (rs >>= λ ranges. Some (Plain (record { ranges = ranges; base = base }))) IsSoundForm
    with_ranges base n some None are = tt
    with_ranges base n some (Some rs) are = record { some = omega (arith, are.0); order = are.1 }

sound-simple_form : (value : List ℕ) → IfSome (simple_form value) IsSoundForm
sound-simple_form value =
    ifsome-then IsSoundForm (text_and_base value) _ (λ place.
    ifsome-then IsSoundForm (whole_size place.0) _ (λ size. record { some = omega arith; order = (tt, tt) }))

sound-suffix_form : (halves : List ℕ × List ℕ) → IfSome (suffix_form halves) IsSoundForm
sound-suffix_form halves =
    ifsome-then IsSoundForm (whole_size halves.0) _ (λ size.
    ifsome-if IsSoundForm (bytes_eq halves.1 (codes "high")) _ _ tt
    (ifsome-if IsSoundForm (bytes_eq halves.1 (codes "low")) _ _ tt tt))

sound-without_colon : (value : List ℕ) (halves : Option (List ℕ × List ℕ)) → IfSome (form_without_colon value halves) IsSoundForm
sound-without_colon value None = sound-simple_form value
sound-without_colon value (Some halves) = sound-suffix_form halves

pub sound-form : (value : List ℕ) → IfSome (crash_form_of value) IsSoundForm
unfolding crash_form_of
sound-form value =
    ifsome-if IsSoundForm (is_some (split_once 58 value)) _ _ (sound-ranges_form value) (sound-without_colon value (split_once 44 value))
