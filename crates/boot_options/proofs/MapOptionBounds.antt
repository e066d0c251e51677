-- Bounds of map options: their types are above 0, and their ranges aren't empty.
use Rattle.std.proofs.Common.{◌≡◌, ℕ, ◌<◌, ◌==◌, nat_lt, if◌then◌else◌, Bool, true, false, Option, Some, None, List, [], ◌∷◌, refl, IfSome, arith, codes}
use Rattle.std.proofs.lemmas.Bool.{ltb-true}
use Rattle.std.proofs.lemmas.Bool.Decides.{nat_tests}
use Rattle.std.specs.Option.{option_map, option_and_then}
use Rattle.std.specs.Str.{bytes_eq}
use Rattle.bm_base.specs.Range.{RangeView}
use Rattle.e820_model.specs.Claims.{HasTypes}
use Rattle.e820_model.specs.declared.entry.Edit.{Edit}
use Rattle.e820_model.specs.declared.entry.Edit.TheVariants.{Add, Remove, RemoveAll, Change}
use Rattle.bm_base.specs.OptionSteps.{◌>>=◌}
use Rattle.boot_options.specs.declared.map_option.MapOption.{MapOption}
use Rattle.boot_options.specs.declared.map_option.MapOption.TheVariants.{ExactMap, Adding, Other}
use Rattle.boot_options.specs.MapOptions.{front_size, whole_size, value_if_at_end, range_if_addressable, unless_empty, range_above, ram_above, adding_option, kind_after_mark, retype_option, percent_map_option, map_option_by_mark, sized_map_option, map_option_of, ram_up_to, mem_of}
use Rattle.boot_options.specs.Options.{map_options_of, edit_of, HasRange}

-- the edit has types above 0, and its range isn't empty
abbrev pub IsSound : Option Edit → Type 0
IsSound None = Unit {0}
IsSound (Some e) = HasTypes e × HasRange e

abbrev pub IsSoundOption : MapOption → Type 0
IsSoundOption p = IsSound (edit_of p)

abbrev pub AreSound : List MapOption → Type 0
AreSound [] = Unit {0}
AreSound (p ∷ ps) = IsSoundOption p × AreSound ps

-- two steps in a row have a result with a property if the second one's result has it for every
-- input
pub ifsome-then : {A B : Type 0} (P : B → Type 0) (o : Option A) (f : A → Option B) → ((a : A) → IfSome (f a) P) → IfSome (o >>= f) P
ifsome-then P None f each = tt
ifsome-then P (Some a) f each = each a

pub ifsome-and_then : {A B : Type 0} (P : B → Type 0) (f : A → Option B) (o : Option A) → ((a : A) → IfSome (f a) P)
    → IfSome (option_and_then f o) P
ifsome-and_then P f None each = tt
ifsome-and_then P f (Some a) each = each a

pub ifsome-map : {A B : Type 0} (P : A → Type 0) (Q : B → Type 0) (f : A → B) (o : Option A) → ((a : A) → P a → Q (f a)) → IfSome o P
    → IfSome (option_map f o) Q
ifsome-map P Q f None each is = tt
ifsome-map P Q f (Some a) each is = each a is

pub ifsome-at_end : {A : Type 0} (P : A → Type 0) (rest : List ℕ) (read : Option A) → IfSome read P → IfSome (value_if_at_end rest read) P
ifsome-at_end P [] read is = is
ifsome-at_end P (b ∷ bs) read is = tt

pub ifsome-if : {A : Type 0} (P : A → Type 0) (t : Bool) (x y : Option A) → IfSome x P → IfSome y P → IfSome (if t then x else y) P
ifsome-if P true x y a b = a
ifsome-if P false x y a b = b

-- the edit of a range that isn't empty is sound
pub sound-unless_empty : (range : RangeView) (e : Edit) → HasTypes e → (0 < range.size → HasRange e) → IsSound (unless_empty range e)
sound-unless_empty range e types ranged = by_test (nat_lt 0 range.size) refl
  where
    by_test : (t : Bool) → nat_lt 0 range.size ≡ t → IsSound (if t then Some e else None)
    by_test true is = (types, ranged (ltb-true 0 range.size is))
    by_test false is = tt

pub sound-ram_above : (size : ℕ) → IsSound (ram_above size)
sound-ram_above size = sound-unless_empty (range_above size) (Remove (range_above size) 1) (omega arith) (λ h. h)

pub sound-adding_option : (kind size : ℕ) (place : List ℕ) → 0 < kind → IfSome (adding_option kind size place) IsSoundOption
sound-adding_option kind size place above =
    ifsome-then IsSoundOption (whole_size place) _ (λ base.
    ifsome-then IsSoundOption (range_if_addressable base size) _ (λ range.
    sound-unless_empty range (Add range kind) above (λ h. h)))

pub sound-retyped : (range : RangeView) (from to : ℕ) → IfSome (retype_option range from to) IsSoundOption
sound-retyped range from to = by_tests (from == 0) refl (to == 0) refl (from == to)
  where
    above : (n : ℕ) → n == 0 ≡ false → 0 < n
    above n is = grind (arith, nat_tests)

    by_tests : (f : Bool) → from == 0 ≡ f → (t : Bool) → to == 0 ≡ t → (s : Bool)
        → IfSome (if f
        then (if t then Some (Other (unless_empty range (RemoveAll range))) else Some (Adding (unless_empty range (Add range to))))
        else (if t
        then Some (Other (unless_empty range (Remove range from)))
        else (if s then None else Some (Other (unless_empty range (Change range from to))))))
        IsSoundOption
    by_tests true f_is true t_is s = sound-unless_empty range (RemoveAll range) tt (λ h. h)
    by_tests true f_is false t_is s = sound-unless_empty range (Add range to) (above to t_is) (λ h. h)
    by_tests false f_is true t_is s = sound-unless_empty range (Remove range from) (above from f_is) (λ h. h)
    by_tests false f_is false t_is true = tt
    by_tests false f_is false t_is false =
        sound-unless_empty range (Change range from to) (above from f_is, above to t_is) (λ h. h)

pub sound-changed : (size : ℕ) (place : List ℕ) → IfSome (percent_map_option size place) IsSoundOption
sound-changed size place =
    ifsome-then IsSoundOption (front_size place) _ (λ base.
    ifsome-then IsSoundOption (range_if_addressable base.0 size) _ (λ range.
    ifsome-then IsSoundOption (kind_after_mark 45 base.1) _ (λ from.
    ifsome-then IsSoundOption (kind_after_mark 43 from.1) _ (λ to.
    ifsome-at_end IsSoundOption to.1 (retype_option range from.0 to.0) (sound-retyped range from.0 to.0)))))

pub sound-by_mark : (size : ℕ) (text : List ℕ) → IfSome (map_option_by_mark size text) IsSoundOption
sound-by_mark size [] = sound-ram_above size
sound-by_mark size (mark ∷ place) =
    ifsome-if IsSoundOption (mark == 64) _ _ (sound-adding_option 1 size place (omega arith))
    (ifsome-if IsSoundOption (mark == 35) _ _ (sound-adding_option 3 size place (omega arith))
    (ifsome-if IsSoundOption (mark == 36) _ _ (sound-adding_option 2 size place (omega arith))
    (ifsome-if IsSoundOption (mark == 33) _ _ (sound-adding_option 12 size place (omega arith))
    (ifsome-if IsSoundOption (mark == 37) _ None (sound-changed size place) tt))))

pub sound-map_option : (text : List ℕ) → IfSome (map_option_of text) IsSoundOption
sound-map_option text =
    ifsome-if IsSoundOption (bytes_eq text (codes "exactmap")) (Some ExactMap) (sized_map_option text) (tt, tt)
    (ifsome-then IsSoundOption (front_size text) _ (λ size. sound-by_mark size.0 size.1))

pub sound-mem : (text : List ℕ) → IfSome (mem_of text) IsSoundOption
sound-mem text =
    ifsome-if IsSoundOption (bytes_eq text (codes "nopentium")) (Some (Other None)) _ tt
    (ifsome-then IsSoundOption (whole_size text) ram_up_to (λ size.
    ifsome-if IsSoundOption (size == 0) None (Some (Other (ram_above size))) tt (sound-ram_above size)))

pub sound-map_options : (texts : List (List ℕ)) → IfSome (map_options_of texts) AreSound
sound-map_options [] = tt
sound-map_options (text ∷ texts) = with_first (map_option_of text) (sound-map_option text) (sound-map_options texts)
  where
    with_first : (o : Option MapOption) → IfSome o IsSoundOption → IfSome (map_options_of texts) AreSound
        → IfSome (option_and_then (λ p. option_map (λ ps. p ∷ ps) (map_options_of texts)) o) AreSound
    with_first None is are = tt
    with_first (Some p) is are =
        ifsome-map AreSound AreSound (λ (ps : List MapOption). p ∷ ps) (map_options_of texts) (λ ps all. (is, all)) are
