-- The value of `crashkernel=` (`parse_crashkernel_simple`, `parse_crashkernel_mem` and
-- `parse_crashkernel_suffix` of kernel/crash_core.c). A definition gives None if its text is
-- malformed.
use Rattle.std.specs.Prelude.{ℕ, ◌<◌, Bool, true, is_some, nat_lt, if◌then◌else◌, Option, Some, None, IfSome, List, [], ◌∷◌, length, codes}
use Rattle.std.specs.Option.{option_map}
use Rattle.std.specs.Str.{bytes_eq}
use Rattle.bm_base.specs.OptionSteps.{◌>>=◌}
use Rattle.text_words.specs.declared.separators.Separators.TheVariants.{Byte}
use Rattle.text_words.specs.Parts.{split_once, parts_in}
use Rattle.boot_options.specs.declared.crash.CrashRange.{CrashRange}
use Rattle.boot_options.specs.declared.crash.CrashPlain.{CrashPlain}
use Rattle.boot_options.specs.declared.crash.CrashOption.{CrashOption}
use Rattle.boot_options.specs.MapOptions.{whole_size}

-- the byte `:`, between a range of total memory and its size
abbrev pub colon : ℕ
colon = 58

-- the byte `-`, between the start and the end of a range of total memory
abbrev pub dash : ℕ
dash = 45

-- the byte `,`, between ranges of total memory, or before `high` or `low`
abbrev pub comma : ℕ
comma = 44

-- the byte `@`, before the first address of the area
abbrev pub at_sign : ℕ
at_sign = 64

-- the plain form of `crashkernel=`: ranges of total memory, each with a size, and the first address
-- of the area; the base 0 means that the kernel chooses it
pub record CrashPlainView : Type 0 where
  pub ranges : List CrashRange
  pub base : ℕ

-- one value of `crashkernel=`, by its form: plain, `S,high` or `S,low`
pub data CrashFormView : Type 0 where
  Plain : (form : CrashPlainView) → CrashFormView
  High : (size : ℕ) → CrashFormView
  Low : (size : ℕ) → CrashFormView

-- the end of a range of total memory, from the text after its `-`: the size that the text spells,
-- or `Some None` if the text is empty, which means no end; None if it is malformed
abbrev pub end_of_range : List ℕ → Option (Option ℕ)
end_of_range [] = Some None
end_of_range (b ∷ bs) = option_map (λ end. Some end) (whole_size (b ∷ bs))

-- whether the end is above the start; true if there is no end
abbrev pub is_above : Option ℕ → ℕ → Bool
is_above None start = true
is_above (Some end) start = nat_lt start end

-- the range, or None if it ends at or below its start
abbrev pub range_if_in_order : CrashRange → Option CrashRange
range_if_in_order r = if is_above r.end r.start then Some r else None

-- the range of total memory and its size, from a text `start-end:S` or `start-:S`; None if the text
-- is malformed, or if the end isn't above the start
abbrev pub crash_range_of : List ℕ → Option CrashRange
crash_range_of text = do
  halves ← split_once colon text
  bounds ← split_once dash halves.0
  start ← whole_size bounds.0
  end ← end_of_range bounds.1
  size ← whole_size halves.1
  range_if_in_order (record { start = start; end = end; size = size })

-- the ranges of total memory that the texts spell, one each; None if a text is malformed
abbrev pub crash_ranges_of : List (List ℕ) → Option (List CrashRange)
crash_ranges_of [] = Some []
crash_ranges_of (text ∷ texts) = do
  range ← crash_range_of text
  ranges ← crash_ranges_of texts
  Some (range ∷ ranges)

-- the text before the first `@` of a plain form, and the base, the size that the text after it
-- spells. The second argument has both texts. It is None without an `@`; the result is then the
-- whole text and base 0. None if the base is malformed.
abbrev pub text_and_base_at : List ℕ → Option (List ℕ × List ℕ) → Option (List ℕ × ℕ)
text_and_base_at text None = Some (text, 0)
text_and_base_at text (Some halves) = option_map (λ base. (halves.0, base)) (whole_size halves.1)

-- the text before the first `@` of a plain form, and the base, the size that the text after it
-- spells; the whole text and base 0 if there is no `@`; None if the base is malformed
abbrev pub text_and_base : List ℕ → Option (List ℕ × ℕ)
text_and_base text = text_and_base_at text (split_once at_sign text)

-- the form of a value with one or more ranges of total memory, with commas between them, and an
-- optional base; None if it is malformed
abbrev pub ranges_form : List ℕ → Option CrashFormView
ranges_form value = do
  place ← text_and_base value
  ranges ← crash_ranges_of (parts_in (Byte comma) place.0)
  Some (Plain (record { ranges = ranges; base = place.1 }))

-- the plain form with a single range of total memory, from 0 without an end
abbrev pub one_range : ℕ → ℕ → CrashPlainView
one_range size base = record { ranges = record { start = 0; end = None; size = size } ∷ []; base = base }

-- the form of a value `S` or `S@B`; None if it is malformed
abbrev pub simple_form : List ℕ → Option CrashFormView
simple_form value = do
  place ← text_and_base value
  size ← whole_size place.0
  Some (Plain (one_range size place.1))

-- the form `S,high` or `S,low` with this size, by the name after the comma; None for any other name
abbrev pub form_by_suffix : List ℕ → ℕ → Option CrashFormView
form_by_suffix name size =
    if bytes_eq name (codes "high") then Some (High size)
    else (if bytes_eq name (codes "low") then Some (Low size) else None)

-- the form of a value `S,high` or `S,low`, from the texts before and after the comma
abbrev pub suffix_form : List ℕ × List ℕ → Option CrashFormView
suffix_form halves = do
  size ← whole_size halves.0
  form_by_suffix halves.1 size

-- the form of a value without a colon. With a comma it is `S,high` or `S,low`, and the second
-- argument has the texts around the first comma. Without a comma it is `S` or `S@B`.
abbrev pub form_without_colon : List ℕ → Option (List ℕ × List ℕ) → Option CrashFormView
form_without_colon value None = simple_form value
form_without_colon value (Some halves) = suffix_form halves

-- the form of a value of `crashkernel=`, or None if it is malformed; only ranges of total memory
-- have a colon
unfoldable pub crash_form_of : List ℕ → Option CrashFormView
crash_form_of value = if is_some (split_once colon value) then ranges_form value else form_without_colon value (split_once comma value)

-- the `crashkernel=` options of all words: the last value of each form, if there is one
pub record CrashOptionView : Type 0 where
  pub plain : Option CrashPlainView
  pub high : Option ℕ
  pub low : Option ℕ

-- the `crashkernel=` options of a line that has none
abbrev pub no_crash : CrashOptionView
no_crash = record { plain = None; high = None; low = None }

-- what contracts see of the code's `CrashPlain`
abbrev pub crash_plain_view : CrashPlain → CrashPlainView
crash_plain_view plain = record { ranges = plain.ranges.items; base = plain.base }

-- what contracts see of the code's `CrashOption`
abbrev pub crash_option_view : CrashOption → CrashOptionView
crash_option_view crash = record { plain = option_map crash_plain_view crash.plain; high = crash.high; low = crash.low }

-- each range that has an end ends above its start
abbrev pub AreInOrder : List CrashRange → Type 0
AreInOrder [] = Unit {0}
AreInOrder (r ∷ rs) = IfSome r.end (λ end. r.start < end) × AreInOrder rs

-- what holds for every plain form: it has at least one range, and each range that has an end ends
-- above its start
pub record IsPlain (form : CrashPlainView) : Type 0 where
  pub some : 0 < length form.ranges
  pub order : AreInOrder form.ranges
