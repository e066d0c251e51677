-- A text that spells a map option of `memmap=` is read as that map option.
use Rattle.std.proofs.Common.{◌≡◌, ℕ, ◌+◌, ◌^◌, ◌<◌, ◌==◌, if◌then◌else◌, Bool, true, false, Option, Some, List, [], ◌∷◌, ◌++◌, length, drop, refl, ◌∙◌, eq-eqb, codes, Result, Ok, Err, arith}
use Rattle.std.proofs.Math.Seq.{drop-append_seam, drop-length}
use Rattle.bm_base.specs.declared.size.NumFault.TheVariants.{NoDigits}
use Rattle.std.proofs.lemmas.Bool.{lt-ltb, ne_eqb}
use Rattle.std.proofs.lemmas.List.{append-nil}
use Rattle.std.proofs.lemmas.Bool.Decides.{nat_tests}
use Rattle.std.specs.Char.{is_digit}
use Rattle.std.specs.Str.{bytes_eq}
use Rattle.bm_base.specs.Range.{RangeView}
use Rattle.bm_base.specs.declared.size.NumFault.{NumFault}
use Rattle.bm_base.specs.Size.{begins_with_digit, number_value, number_end, suffix_of, with_suffix, size_of, number_of, IsSize, IsNumber}
use Rattle.bm_base.proofs.SizeLaws.{size_of-mark, number_of-mark}
use Rattle.e820_model.specs.declared.entry.Edit.TheVariants.{Add}
use Rattle.bm_base.specs.OptionSteps.{◌>>=◌}
use Rattle.boot_options.specs.declared.map_option.MapOption.TheVariants.{Adding, Other}
use Rattle.boot_options.specs.MapOptions.{number_and_rest, front_size, front_number, value_if_at_end, whole_size, range_if_addressable, unless_empty, adding_option, type_if_fits, kind_after_mark, retype_option, map_option_by_mark, map_option_of, ram_above}
use Rattle.boot_options.specs.declared.map_option.MapOption.{MapOption}
use Rattle.boot_options.specs.Spelling.{SpellsPlace, SpellsType, a_type, SpellsNoType, nothing, type_zero, SpellsMapOption, exactmap, ram, acpi, reserved, persistent, size_alone, every_type, one_type, new_type, other_type}

-- two steps in a row are the second step on the value of the first, if the first gives a value
pub then-some : {A B : Type 0} (o : Option A) (f : A → Option B) (x : A) → o ≡ Some x → (o >>= f) ≡ f x
then-some o f x is = rw is refl

-- a number that ends where the rest of the text begins is read there
pub number_and_rest-front : (s rest : List ℕ) (r : Result (ℕ × ℕ) NumFault) (n : ℕ) → r ≡ Ok (n, length s)
    → number_and_rest (s ++ rest) r ≡ Some (n, rest)
number_and_rest-front s rest r n is = rw (is, drop-append_seam s rest) refl

pub number_and_rest-whole : (s : List ℕ) (r : Result (ℕ × ℕ) NumFault) (n : ℕ) → r ≡ Ok (n, length s) → number_and_rest s r ≡ Some (n, [])
number_and_rest-whole s r n is = rw (is, drop-length s) refl

-- a size or a number is read up to the next byte that isn't a digit or letter, or to the end of
-- the text
pub front_size-mark : (s : List ℕ) (n mark : ℕ) (rest : List ℕ) → IsSize s n → is_digit mark 36 ≡ false
    → front_size (s ++ (mark ∷ rest)) ≡ Some (n, mark ∷ rest)
front_size-mark s n mark rest size is = number_and_rest-front s (mark ∷ rest) _ n (size_of-mark s rest mark is ∙ size)

pub front_size-end : (s : List ℕ) (n : ℕ) → IsSize s n → front_size s ≡ Some (n, [])
front_size-end s n size = number_and_rest-whole s (size_of s) n size

pub front_number-mark : (s : List ℕ) (n mark : ℕ) (rest : List ℕ) → IsNumber s n → is_digit mark 36 ≡ false
    → front_number (s ++ (mark ∷ rest)) ≡ Some (n, mark ∷ rest)
front_number-mark s n mark rest number is = number_and_rest-front s (mark ∷ rest) _ n (number_of-mark s rest mark is ∙ number)

pub front_number-end : (s : List ℕ) (n : ℕ) → IsNumber s n → front_number s ≡ Some (n, [])
front_number-end s n number = number_and_rest-whole s (number_of s) n number

pub whole_size-end : (s : List ℕ) (n : ℕ) → IsSize s n → whole_size s ≡ Some n
whole_size-end s n size = then-some (front_size s) (λ front. value_if_at_end front.1 (Some front.0)) (n, []) (front_size-end s n size)

-- a size begins with a digit, so it isn't `exactmap`
pub begins_with_digit-size : (s : List ℕ) (n : ℕ) → IsSize s n → begins_with_digit s ≡ true
begins_with_digit-size s n size = by_test (begins_with_digit s) size
  where
    by_test : (t : Bool)
        → (if t then with_suffix (number_value s) (number_end s) (suffix_of (drop (number_end s) s)) else Err NoDigits) ≡ Ok (n, length s)
        → t ≡ true
    by_test true is = refl
    by_test false is = cc

pub begins-other : (text : List ℕ) (c : ℕ) (cs : List ℕ) → begins_with_digit text ≡ true → is_digit c 10 ≡ false
    → bytes_eq text (c ∷ cs) ≡ false
begins-other [] c cs begins letter = cc
begins-other (b ∷ bs) c cs begins letter =
    let other : b == c ≡ false = ne_eqb b c (λ same. let digit : is_digit c 10 ≡ true = rw same at begins in cc) in rw other refl

pub exactmap-other : (s rest : List ℕ) → begins_with_digit s ≡ true → bytes_eq (s ++ rest) (codes "exactmap") ≡ false
exactmap-other [] rest begins = cc
exactmap-other (b ∷ bs) rest begins = begins-other (b ∷ (bs ++ rest)) 101 (codes "xactmap") begins refl

-- a size before a mark is read up to the mark
pub map_option-mark : (s : List ℕ) (n mark : ℕ) (rest : List ℕ) → IsSize s n → is_digit mark 36 ≡ false
    → map_option_of (s ++ (mark ∷ rest)) ≡ map_option_by_mark n (mark ∷ rest)
map_option-mark s n mark rest size is =
    rw (exactmap-other s (mark ∷ rest) (begins_with_digit-size s n size))
    (then-some (front_size (s ++ (mark ∷ rest))) (λ size.
    map_option_by_mark size.0 size.1) (n, mark ∷ rest) (front_size-mark s n mark rest size is))

-- a range that ends in the address space is read, and so is its edit
pub range_if_addressable-ends : (range : RangeView) → range.base + range.size < 2 ^ 64
    → range_if_addressable range.base range.size ≡ Some range
range_if_addressable-ends range ends = rw (lt-ltb (range.base + range.size) (2 ^ 64) ends) refl

pub adding_option-spelled : (kind : ℕ) (s a : List ℕ) (range : RangeView) → SpellsPlace s a range
    → adding_option kind range.size a ≡ Some (Adding (unless_empty range (Add range kind)))
adding_option-spelled kind s a range spell =
    then-some (whole_size a) _ range.base (whole_size-end a range.base spell.base)
    ∙ then-some (range_if_addressable range.base range.size) (λ r.
    Some (Adding (unless_empty r (Add r kind)))) range (range_if_addressable-ends range spell.ends)

-- a form whose mark adds a range of this type is read as spelled
pub map_option-adding : (s a : List ℕ) (range : RangeView) (mark kind : ℕ) → is_digit mark 36 ≡ false
    → map_option_by_mark range.size (mark ∷ a) ≡ adding_option kind range.size a → SpellsPlace s a range
    → map_option_of (s ++ (mark ∷ a)) ≡ Some (Adding (unless_empty range (Add range kind)))
map_option-adding s a range mark kind is means spell =
    map_option-mark s range.size mark a spell.size is ∙ means ∙ adding_option-spelled kind s a range spell

-- a type below 2^32 is accepted
pub type_if_fits-below : (n : ℕ) (rest : List ℕ) → n < 2 ^ 32 → type_if_fits (n, rest) ≡ Some (n, rest)
type_if_fits-below n rest is = rw (lt-ltb n (2 ^ 32) is) refl

-- the form `S` is read as spelled
pub map_option-above : (s : List ℕ) (size : ℕ) → IsSize s size → map_option_of s ≡ Some (Other (ram_above size))
map_option-above s size is =
    let other : bytes_eq s (codes "exactmap") ≡ false = rw (append-nil s) at (exactmap-other s [] (begins_with_digit-size s size is)) in
    rw other (then-some (front_size s) (λ front. map_option_by_mark front.0 front.1) (size, []) (front_size-end s size is))

-- the text is empty, or begins with a byte that isn't a digit or letter
abbrev pub IsMarked : List ℕ → Type 0
IsMarked [] = Unit {0}
IsMarked (b ∷ bs) = is_digit b 36 ≡ false

pub front_size-marked : (s : List ℕ) (n : ℕ) (rest : List ℕ) → IsSize s n → IsMarked rest → front_size (s ++ rest) ≡ Some (n, rest)
front_size-marked s n [] size marked = rw (append-nil s) (front_size-end s n size)
front_size-marked s n (b ∷ bs) size marked = front_size-mark s n b bs size marked

pub front_number-marked : (s : List ℕ) (n : ℕ) (rest : List ℕ) → IsNumber s n → IsMarked rest
    → front_number (s ++ rest) ≡ Some (n, rest)
front_number-marked s n [] number marked = rw (append-nil s) (front_number-end s n number)
front_number-marked s n (b ∷ bs) number marked = front_number-mark s n b bs number marked

-- a type after its mark, or 0 if no type is given
pub data IsKind (mark : ℕ) : List ℕ → ℕ → Type 0 where
  not_there : IsKind mark [] 0
  there : (text : List ℕ) (kind : ℕ) → IsNumber text kind → kind < 2 ^ 32 → IsKind mark (mark ∷ text) kind

pub type-kind : (mark : ℕ) (text : List ℕ) (kind : ℕ) → SpellsType (mark ∷ []) text kind → IsKind mark text kind
type-kind mark text kind (a_type number _ is above small) = there number kind is small

pub no_type-kind : (mark : ℕ) (text : List ℕ) → SpellsNoType (mark ∷ []) text → IsKind mark text 0
no_type-kind mark text nothing = not_there
no_type-kind mark text (type_zero number is) = there number 0 is (omega arith)

-- the text doesn't begin with this mark
abbrev pub BeginsOther : ℕ → List ℕ → Type 0
BeginsOther mark [] = Unit {0}
BeginsOther mark (b ∷ bs) = b == mark ≡ false

pub kind_after_mark-kind : (mark : ℕ) (text : List ℕ) (kind : ℕ) (rest : List ℕ) → IsKind mark text kind → IsMarked rest
    → BeginsOther mark rest
    → kind_after_mark mark (text ++ rest) ≡ Some (kind, rest)
kind_after_mark-kind mark text kind rest not_there marked other = absent rest other
  where
    absent : (rest : List ℕ) → BeginsOther mark rest → kind_after_mark mark rest ≡ Some (0, rest)
    absent [] other = refl
    absent (b ∷ bs) other = rw other refl
kind_after_mark-kind mark text kind rest (there number _ is small) marked other =
    rw (eq-eqb mark mark refl)
    (then-some (front_number (number ++ rest)) type_if_fits (kind, rest) (front_number-marked number kind rest is marked)
    ∙ type_if_fits-below kind rest small)

kind-marked : (mark : ℕ) (text : List ℕ) (kind : ℕ) → is_digit mark 36 ≡ false → IsKind mark text kind → IsMarked text
kind-marked mark text kind is not_there = tt
kind-marked mark text kind is (there _ _ number small) = is

kind-other : (text : List ℕ) (kind : ℕ) → IsKind 43 text kind → BeginsOther 45 text
kind-other text kind not_there = tt
kind-other text kind (there _ _ number small) = refl

both-marked : (f t : List ℕ) (from to : ℕ) → IsKind 45 f from → IsKind 43 t to → IsMarked (f ++ t)
both-marked f t from to not_there to_is = kind-marked 43 t to refl to_is
both-marked f t from to (there _ _ number small) to_is = refl

-- a form with `%` is read as spelled
pub map_option-changed : (s a f t : List ℕ) (range : RangeView) (from to : ℕ) → SpellsPlace s a range → IsKind 45 f from → IsKind 43 t to
    → map_option_of (s ++ (37 ∷ (a ++ (f ++ t)))) ≡ retype_option range from to
map_option-changed s a f t range from to spell from_is to_is =
    map_option-mark s range.size 37 (a ++ (f ++ t)) spell.size refl
    ∙ then-some (front_size (a ++ (f ++ t))) _ (range.base, f ++ t)
    (front_size-marked a range.base (f ++ t) spell.base (both-marked f t from to from_is to_is))
    ∙ then-some (range_if_addressable range.base range.size) _ range (range_if_addressable-ends range spell.ends)
    ∙ then-some (kind_after_mark 45 (f ++ t)) _ (from, t)
    (kind_after_mark-kind 45 f from t from_is (kind-marked 43 t to refl to_is) (kind-other t to to_is))
    ∙ then-some (kind_after_mark 43 t) (λ kind. value_if_at_end kind.1 (retype_option range from kind.0)) (to, [])
    (rw (append-nil t) at (kind_after_mark-kind 43 t to [] to_is tt tt))

pub other_than_zero : (n : ℕ) → 0 < n → n == 0 ≡ false
other_than_zero n above = grind (arith, nat_tests)

type-above : (mark text : List ℕ) (kind : ℕ) → SpellsType mark text kind → 0 < kind
type-above mark text kind (a_type _ _ is above small) = above

-- each map option that is spelled is read as that map option
pub map_option-read : (text : List ℕ) (option : MapOption) → SpellsMapOption text option → map_option_of text ≡ Some option
map_option-read text option exactmap = refl
map_option-read text option (ram s a range spell) = map_option-adding s a range 64 1 refl refl spell
map_option-read text option (acpi s a range spell) = map_option-adding s a range 35 3 refl refl spell
map_option-read text option (reserved s a range spell) = map_option-adding s a range 36 2 refl refl spell
map_option-read text option (persistent s a range spell) = map_option-adding s a range 33 12 refl refl spell
map_option-read text option (size_alone _ size is) = map_option-above text size is
map_option-read text option (every_type s a f t range spell from to) =
    map_option-changed s a f t range 0 0 spell (no_type-kind 45 f from) (no_type-kind 43 t to)
map_option-read text option (one_type s a f t range from spell is_from to) =
    map_option-changed s a f t range from 0 spell (type-kind 45 f from is_from) (no_type-kind 43 t to)
    ∙ rw (other_than_zero from (type-above (codes "-") f from is_from)) refl
map_option-read text option (new_type s a f t range to spell from is_to) =
    map_option-changed s a f t range 0 to spell (no_type-kind 45 f from) (type-kind 43 t to is_to)
    ∙ rw (other_than_zero to (type-above (codes "+") t to is_to)) refl
map_option-read text option (other_type s a f t range from to spell is_from is_to differ) =
    map_option-changed s a f t range from to spell (type-kind 45 f from is_from) (type-kind 43 t to is_to)
    ∙ rw (
      other_than_zero from (type-above (codes "-") f from is_from),
      other_than_zero to (type-above (codes "+") t to is_to),
      ne_eqb from to differ,
    )
    refl
