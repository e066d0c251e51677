-- The result of `parse` for texts of decimal digits.
use Rattle.std.proofs.Common.{◌≡◌, ℕ, ◌<◌, ◌^◌, Bool, true, false, List, [], ◌∷◌, ◌&&◌, None, Err, refl, rules, sym, arith, if◌then◌else◌, Some}
use Rattle.std.proofs.lemmas.Grind.{common_steps}
use Rattle.std.specs.Str.Parse.{ParsesUnsigned, digits_value}
use Rattle.std.proofs.lemmas.Str.Parse.{IsNumeralModel, numerals_by_value, parse_digits}
use Rattle.program_args.specs.Entries.{are_digits, is_entry_count, entry_count_in}

own : IsNumeralModel (λ digits. are_digits digits ≡ true) (digits_value 10)
own = numerals_by_value _ (search rules)

too_many : (count : ℕ) → ¬ (count < 2 ^ 32) → is_entry_count count ≡ false
too_many count beyond = grind (arith, common_steps, beyond)

refused : (digits : Bool) (text : List ℕ) → is_entry_count (digits_value 10 text) ≡ false
    → (if digits && is_entry_count (digits_value 10 text) then Some (digits_value 10 text) else None) ≡ None
refused false text beyond = refl
refused true text beyond = rw beyond refl

-- `parse` refuses a text of decimal digits only if the text is empty or the number needs more than
-- 32 bits
pub not_parsed : (text : List ℕ) → ParsesUnsigned {E = Unit {0}} 32 10 text (Err (tt {0})) → are_digits text ≡ true
    → None ≡ entry_count_in text
not_parsed [] parses digits = refl
not_parsed (b ∷ bs) parses digits =
    let beyond = parse_digits own 32 (b ∷ bs) (Err (tt {0})) parses digits in
    sym (refused _ (b ∷ bs) (too_many _ (λ fits. beyond (omega arith, fits))))
