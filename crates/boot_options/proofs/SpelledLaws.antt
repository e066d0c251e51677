-- A text that is read as a map option of `memmap=`, or as the value of `mem=`, spells it.
use Rattle.std.proofs.Common.{◌≡◌, ◌≢◌, ◌↔◌, ℕ, ◌+◌, ◌^◌, ◌<◌, ◌==◌, nat_lt, if◌then◌else◌, Bool, true, false, Option, Some, None, List, [], ◌∷◌, ◌++◌, refl, subst, ap, sym, ◌∙◌, length, drop, codes, Result, Ok, Err, arith}
use Rattle.std.proofs.lemmas.Bool.{eqb-true, ltb-true}
use Rattle.std.proofs.lemmas.Bool.Decides.{nat_tests}
use Rattle.std.proofs.lemmas.List.{append-nil}
use Rattle.std.proofs.lemmas.Slice.Eq.{bytes_eq-Decides}
use Rattle.std.specs.Option.{option_map, option_and_then}
use Rattle.std.specs.Str.{bytes_eq}
use Rattle.bm_base.specs.Range.{RangeView}
use Rattle.bm_base.specs.OptionSteps.{◌>>=◌}
use Rattle.bm_base.specs.Size.{size_of, number_of, IsSize, IsNumber}
use Rattle.bm_base.specs.declared.size.NumFault.{NumFault}
use Rattle.bm_base.specs.Spelling.{number_alone}
use Rattle.bm_base.proofs.SpellingLaws.{size-exactly, number-exactly, size-front, number-front}
use Rattle.e820_model.specs.declared.entry.Edit.TheVariants.{Add, Remove, RemoveAll, Change}
use Rattle.text_words.specs.declared.separators.Separators.TheVariants.{Byte}
use Rattle.text_words.specs.Parts.{parts_in}
use Rattle.text_words.proofs.PartsLaws.{parts-one, parts-spelled}
use Rattle.boot_options.specs.declared.map_option.MapOption.{MapOption}
use Rattle.boot_options.specs.declared.map_option.MapOption.TheVariants.{ExactMap, Adding, Other}
use Rattle.boot_options.specs.MapOptions.{NumberAndRest, number_and_rest, front_size, front_number, value_if_at_end, whole_size, range_if_addressable, unless_empty, ram_above, adding_option, type_if_fits, kind_after_mark, retype_option, percent_map_option, map_option_by_mark, sized_map_option, map_option_of, ram_up_to, mem_of}
use Rattle.boot_options.specs.Options.{map_options_of}
use Rattle.boot_options.specs.Spelling.{SpellsPlace, SpellsType, a_type, SpellsNoType, nothing, type_zero, SpellsMapOption, exactmap, ram, acpi, reserved, persistent, size_alone, every_type, one_type, new_type, other_type, SpellsMapOptions, last_option, next_option, SpellsMem, nopentium, end_of_ram, join_with_commas}
use Rattle.boot_options.proofs.SpellingLaws.{IsKind, not_there, there, type-kind, no_type-kind, map_option-read, begins-other, begins_with_digit-size, whole_size-end, other_than_zero}
use Rattle.boot_options.proofs.CrashSpellingLaws.{Lacks, lacks-append, lacks-closed, lacks-size}

-- if two steps in a row give a value, each of them does
pub then-both : {A B : Type 0} (o : Option A) (f : A → Option B) (y : B) → (o >>= f) ≡ Some y → (x : A) × (o ≡ Some x) × (f x ≡ Some y)
then-both None f y is = cc
then-both (Some x) f y is = (x, refl, is)

-- if a size or a number is read at the start of a text, the start spells it
front_size-spelled : (text : List ℕ) (front : NumberAndRest) → front_size text ≡ Some front
    → (s : List ℕ) × IsSize s front.0 × (text ≡ s ++ front.1)
front_size-spelled text front = by_read (size_of text) (size-front text)
  where
    by_read : (r : Result (ℕ × ℕ) NumFault)
        → ((n end : ℕ) → r ≡ Ok (n, end) → (s : List ℕ) × IsSize s n × (text ≡ s ++ drop end text) × (length s ≡ end))
        → number_and_rest text r ≡ Some front → (s : List ℕ) × IsSize s front.0 × (text ≡ s ++ front.1)
    by_read (Err fault) spelled is = cc
    by_read (Ok found) spelled is =
        let to = spelled found.0 found.1 refl in
        let same : (found.0, drop found.1 text) ≡ front = cc in
        subst (λ (front : NumberAndRest). (s : List ℕ) × IsSize s front.0 × (text ≡ s ++ front.1)) same (to.0, to.1, to.2)

front_number-spelled : (text : List ℕ) (front : NumberAndRest) → front_number text ≡ Some front
    → (s : List ℕ) × IsNumber s front.0 × (text ≡ s ++ front.1)
front_number-spelled text front = by_read (number_of text) (number-front text)
  where
    by_read : (r : Result (ℕ × ℕ) NumFault)
        → ((n end : ℕ) → r ≡ Ok (n, end) → (s : List ℕ) × IsNumber s n × (text ≡ s ++ drop end text) × (length s ≡ end))
        → number_and_rest text r ≡ Some front → (s : List ℕ) × IsNumber s front.0 × (text ≡ s ++ front.1)
    by_read (Err fault) spelled is = cc
    by_read (Ok found) spelled is =
        let to = spelled found.0 found.1 refl in
        let same : (found.0, drop found.1 text) ≡ front = cc in
        subst (λ (front : NumberAndRest). (s : List ℕ) × IsNumber s front.0 × (text ≡ s ++ front.1)) same (to.0, to.1, to.2)

-- if a whole text was read, its rest is empty
value_if_at_end-ends : {A : Type 0} (rest : List ℕ) (o : Option A) (y : A) → value_if_at_end rest o ≡ Some y → (rest ≡ []) × (o ≡ Some y)
value_if_at_end-ends [] o y is = (refl, is)
value_if_at_end-ends (b ∷ bs) o y is = cc

pub whole_size-spelled : (text : List ℕ) (n : ℕ) → whole_size text ≡ Some n → IsSize text n
whole_size-spelled text n is =
    let both = then-both (front_size text) (λ front. value_if_at_end front.1 (Some front.0)) n is in
    let ends = value_if_at_end-ends both.0.1 (Some both.0.0) n both.2 in
    let to = front_size-spelled text both.0 both.1 in
    whole text to.0 both.0.1 both.0.0 n to.1 to.2 ends.0 (cc ends.1)
  where
    whole : (text s rest : List ℕ) (m n : ℕ) → IsSize s m → text ≡ s ++ rest → rest ≡ [] → m ≡ n → IsSize text n
    whole text s rest m n size is none same =
        let text_is : text ≡ s = is ∙ rw none (append-nil s) in rw (text_is, ← same) size

-- the range that a base and a size make
abbrev range_if : Bool → ℕ → ℕ → Option RangeView
range_if t base size = if t then Some (record { base = base; size = size }) else None

range_if_addressable-is : (base size : ℕ) (range : RangeView) → range_if_addressable base size ≡ Some range
    → (record { base = base; size = size } ≡ range) × (base + size < 2 ^ 64)
range_if_addressable-is base size range = by_test (nat_lt (base + size) (2 ^ 64)) refl
  where
    by_test : (t : Bool) → nat_lt (base + size) (2 ^ 64) ≡ t → range_if t base size ≡ Some range
        → (record { base = base; size = size } ≡ range) × (base + size < 2 ^ 64)
    by_test false test is = cc
    by_test true test is = (cc, ltb-true (base + size) (2 ^ 64) test)

place-spelled : (s a : List ℕ) (size base : ℕ) (range : RangeView) → IsSize s size → IsSize a base
    → range_if_addressable base size ≡ Some range
    → SpellsPlace s a range
place-spelled s a size base range size_is base_is is =
    let found = range_if_addressable-is base size range is in
    subst (SpellsPlace s a) found.0 (record { size = size_is; base = base_is; ends = found.1 })

adding_option-spelled : (kind : ℕ) (s a : List ℕ) (size : ℕ) (option : MapOption) → IsSize s size → adding_option kind size a ≡ Some option
    → (range : RangeView) × SpellsPlace s a range × (option ≡ Adding (unless_empty range (Add range kind)))
adding_option-spelled kind s a size option size_is is =
    let base = then-both (whole_size a) (λ base. range_if_addressable base size >>= λ range.
    Some (Adding (unless_empty range (Add range kind)))) option is in
    let range = then-both (range_if_addressable base.0 size) (λ range. Some (Adding (unless_empty range (Add range kind)))) option base.2 in
    (range.0, place-spelled s a size base.0 range.0 size_is (whole_size-spelled a base.0 base.1) range.1, cc range.2)

-- a type after its mark that is read is spelled, and so is no type
type_if_fits-is : (found front : NumberAndRest) → type_if_fits found ≡ Some front → (found ≡ front) × (found.0 < 2 ^ 32)
type_if_fits-is found front = by_test (nat_lt found.0 (2 ^ 32)) refl
  where
    by_test : (t : Bool) → nat_lt found.0 (2 ^ 32) ≡ t → (if t then Some found else None) ≡ Some front
        → (found ≡ front) × (found.0 < 2 ^ 32)
    by_test false small is = cc
    by_test true small is = (cc, ltb-true found.0 (2 ^ 32) small)

abbrev BeginsKind : ℕ → List ℕ → NumberAndRest → Type 0
BeginsKind mark text front = (k : List ℕ) × IsKind mark k front.0 × (text ≡ k ++ front.1)

kind_after_mark-spelled : (mark : ℕ) (text : List ℕ) (front : NumberAndRest) → kind_after_mark mark text ≡ Some front
    → BeginsKind mark text front
kind_after_mark-spelled mark [] front is = let same : (0, []) ≡ front = cc in subst (BeginsKind mark []) same ([], not_there, refl)
kind_after_mark-spelled mark (b ∷ bs) front is = by_test (b == mark) refl is
  where
    by_test : (t : Bool) → b == mark ≡ t → (if t then front_number bs >>= type_if_fits else Some (0, b ∷ bs)) ≡ Some front
        → BeginsKind mark (b ∷ bs) front
    by_test false test is = let same : (0, b ∷ bs) ≡ front = cc in subst (BeginsKind mark (b ∷ bs)) same ([], not_there, refl)
    by_test true test is =
        let both = then-both (front_number bs) type_if_fits front is in
        let small = type_if_fits-is both.0 front both.2 in
        let to = front_number-spelled bs both.0 both.1 in
        let whole : b ∷ bs ≡ mark ∷ (to.0 ++ both.0.1) = rw (eqb-true b mark test) (ap (λ (rest : List ℕ). mark ∷ rest) to.2) in
        subst (BeginsKind mark (b ∷ bs)) small.0 (mark ∷ to.0, there to.0 both.0.0 to.1 small.1, whole)

kind-type : (mark : ℕ) (text : List ℕ) (kind : ℕ) → kind == 0 ≡ false → IsKind mark text kind → SpellsType (mark ∷ []) text kind
kind-type mark text kind above not_there = cc
kind-type mark text kind above (there number _ is small) = let some : 0 < kind =
    grind (arith, nat_tests) in a_type number kind is some small

kind-no_type : (mark : ℕ) (text : List ℕ) (kind : ℕ) → kind ≡ 0 → IsKind mark text kind → SpellsNoType (mark ∷ []) text
kind-no_type mark text kind none not_there = nothing
kind-no_type mark text kind none (there number _ is small) = type_zero number (rw none at is)

-- a map option with `%` that is read is spelled
abbrev retyped_if : Bool → Bool → Bool → RangeView → ℕ → ℕ → Option MapOption
retyped_if no_from no_to same range from to =
    if no_from
    then (if no_to then Some (Other (unless_empty range (RemoveAll range))) else Some (Adding (unless_empty range (Add range to))))
    else (if no_to
    then Some (Other (unless_empty range (Remove range from)))
    else (if same then None else Some (Other (unless_empty range (Change range from to)))))

retype_option-spelled : (s a f t : List ℕ) (range : RangeView) (from to : ℕ) (option : MapOption) → SpellsPlace s a range → IsKind 45 f from
    → IsKind 43 t to → retype_option range from to ≡ Some option → SpellsMapOption (s ++ (37 ∷ (a ++ (f ++ t)))) option
retype_option-spelled s a f t range from to option spell from_is to_is =
    by_tests (from == 0) refl (to == 0) refl (from == to) refl
  where
    by_tests : (no_from : Bool) → from == 0 ≡ no_from → (no_to : Bool) → to == 0 ≡ no_to → (same : Bool) → from == to ≡ same
        → retyped_if no_from no_to same range from to ≡ Some option → SpellsMapOption (s ++ (37 ∷ (a ++ (f ++ t)))) option
    by_tests true f_is true t_is same s_is is =
        let option_is : Other (unless_empty range (RemoveAll range)) ≡ option = cc in
        rw (← option_is) (every_type s a f t range spell (kind-no_type 45 f from (eqb-true from 0 f_is) from_is)
        (kind-no_type 43 t to (eqb-true to 0 t_is) to_is))
    by_tests true f_is false t_is same s_is is =
        let option_is : Adding (unless_empty range (Add range to)) ≡ option = cc in
        rw (← option_is)
        (new_type s a f t range to spell (kind-no_type 45 f from (eqb-true from 0 f_is) from_is) (kind-type 43 t to t_is to_is))
    by_tests false f_is true t_is same s_is is =
        let option_is : Other (unless_empty range (Remove range from)) ≡ option = cc in
        rw (← option_is)
        (one_type s a f t range from spell (kind-type 45 f from f_is from_is) (kind-no_type 43 t to (eqb-true to 0 t_is) to_is))
    by_tests false f_is false t_is true s_is is = cc
    by_tests false f_is false t_is false s_is is =
        let option_is : Other (unless_empty range (Change range from to)) ≡ option = cc in
        let differ : from ≢ to = λ same. let test : from == to ≡ true = grind (arith, nat_tests, same) in cc in
        rw (← option_is)
        (other_type s a f t range from to spell (kind-type 45 f from f_is from_is) (kind-type 43 t to t_is to_is) differ)

percent_map_option-spelled : (s : List ℕ) (size : ℕ) (place : List ℕ) (option : MapOption) → IsSize s size
    → percent_map_option size place ≡ Some option
    → SpellsMapOption (s ++ (37 ∷ place)) option
percent_map_option-spelled s size place option size_is is =
    let base = then-both (front_size place) _ option is in
    let range = then-both (range_if_addressable base.0.0 size) _ option base.2 in
    let from = then-both (kind_after_mark 45 base.0.1) _ option range.2 in
    let to = then-both (kind_after_mark 43 from.0.1) (λ to. value_if_at_end to.1 (retype_option range.0 from.0.0 to.0)) option from.2 in
    let ends = value_if_at_end-ends to.0.1 (retype_option range.0 from.0.0 to.0.0) option to.2 in
    let a = front_size-spelled place base.0 base.1 in
    let f = kind_after_mark-spelled 45 base.0.1 from.0 from.1 in
    let t = kind_after_mark-spelled 43 from.0.1 to.0 to.1 in
    let whole : place ≡ a.0 ++ (f.0 ++ t.0) = rw (append-nil t.0) at (rw (ends.0) at (rw (t.2) at (rw (f.2) at (a.2)))) in
    subst (λ text. SpellsMapOption (s ++ (37 ∷ text)) option) {x = a.0 ++ (f.0 ++ t.0)} (sym whole)
    (retype_option-spelled s a.0 f.0 t.0 range.0 from.0.0 to.0.0 option
    (place-spelled s a.0 size base.0.0 range.0 size_is a.1 range.1) f.1 t.1 ends.1)

-- a map option that is read by its mark is spelled
abbrev marked_if : Bool → Bool → Bool → Bool → Bool → ℕ → List ℕ → Option MapOption
marked_if a b c d e size place =
    if a then adding_option 1 size place else
    (if b then adding_option 3 size place else
    (if c then adding_option 2 size place else
    (if d then adding_option 12 size place else
    (if e then percent_map_option size place else None))))

map_option_by_mark-spelled : (s : List ℕ) (size : ℕ) (rest : List ℕ) (option : MapOption) → IsSize s size
    → map_option_by_mark size rest ≡ Some option
    → SpellsMapOption (s ++ rest) option
map_option_by_mark-spelled s size [] option size_is is =
    let option_is : Other (ram_above size) ≡ option = cc in rw (append-nil s, ← option_is) (size_alone s size size_is)
map_option_by_mark-spelled s size (mark ∷ place) option size_is is =
    by_tests (mark == 64) refl (mark == 35) refl (mark == 36) refl (mark == 33) refl (mark == 37) refl is
  where
    by_tests : (a : Bool) → mark == 64 ≡ a → (b : Bool) → mark == 35 ≡ b → (c : Bool) → mark == 36 ≡ c → (d : Bool) → mark == 33 ≡ d
        → (e : Bool) → mark == 37 ≡ e → marked_if a b c d e size place ≡ Some option → SpellsMapOption (s ++ (mark ∷ place)) option
    by_tests true a_is b b_is c c_is d d_is e e_is is =
        let found = adding_option-spelled 1 s place size option size_is is in
        rw (eqb-true mark 64 a_is, found.2) (ram s place found.0 found.1)
    by_tests false a_is true b_is c c_is d d_is e e_is is =
        let found = adding_option-spelled 3 s place size option size_is is in
        rw (eqb-true mark 35 b_is, found.2) (acpi s place found.0 found.1)
    by_tests false a_is false b_is true c_is d d_is e e_is is =
        let found = adding_option-spelled 2 s place size option size_is is in
        rw (eqb-true mark 36 c_is, found.2) (reserved s place found.0 found.1)
    by_tests false a_is false b_is false c_is true d_is e e_is is =
        let found = adding_option-spelled 12 s place size option size_is is in
        rw (eqb-true mark 33 d_is, found.2) (persistent s place found.0 found.1)
    by_tests false a_is false b_is false c_is false d_is true e_is is =
        rw (eqb-true mark 37 e_is) (percent_map_option-spelled s size place option size_is is)
    by_tests false a_is false b_is false c_is false d_is false e_is is = cc

map_option-spelled : (text : List ℕ) (option : MapOption) → map_option_of text ≡ Some option → SpellsMapOption text option
map_option-spelled text option = by_test (bytes_eq text (codes "exactmap")) refl
  where
    by_test : (t : Bool) → bytes_eq text (codes "exactmap") ≡ t → (if t then Some ExactMap else sized_map_option text) ≡ Some option
        → SpellsMapOption text option
    by_test true test is =
        let option_is : ExactMap ≡ option = cc in
        rw ((bytes_eq-Decides text (codes "exactmap")).0 test, ← option_is) exactmap
    by_test false test is =
        let both = then-both (front_size text) (λ front. map_option_by_mark front.0 front.1) option is in
        let to = front_size-spelled text both.0 both.1 in
        rw to.2 (map_option_by_mark-spelled to.0 both.0.0 both.0.1 option to.1 both.2)

pub map_option-exactly : (text : List ℕ) (option : MapOption) → map_option_of text ≡ Some option ↔ SpellsMapOption text option
map_option-exactly text option = (map_option-spelled text option, map_option-read text option)

-- a text that spells a map option contains no comma
number-size : (text : List ℕ) (n : ℕ) → IsNumber text n → IsSize text n
number-size text n is = (size-exactly text n).1 (number_alone text n ((number-exactly text n).0 is))

lacks-kind : (mark : ℕ) (text : List ℕ) (kind : ℕ) → mark == 44 ≡ false → IsKind mark text kind → Lacks 44 text
lacks-kind mark text kind other not_there = tt
lacks-kind mark text kind other (there number _ is small) = (other, lacks-size number 44 kind refl (number-size number kind is))

lacks-marked : (s a rest : List ℕ) (range : RangeView) (mark : ℕ) → mark == 44 ≡ false → SpellsPlace s a range → Lacks 44 rest
    → Lacks 44 (s ++ (mark ∷ (a ++ rest)))
lacks-marked s a rest range mark other spell after =
    lacks-append 44 s (mark ∷ (a ++ rest)) (lacks-size s 44 range.size refl spell.size)
    (other, lacks-append 44 a rest (lacks-size a 44 range.base refl spell.base) after)

lacks-adding : (s a : List ℕ) (range : RangeView) (mark : ℕ) → mark == 44 ≡ false → SpellsPlace s a range → Lacks 44 (s ++ (mark ∷ a))
lacks-adding s a range mark other spell = rw (append-nil a) at (lacks-marked s a [] range mark other spell tt)

lacks-changed : (s a f t : List ℕ) (range : RangeView) (from to : ℕ) → SpellsPlace s a range → IsKind 45 f from → IsKind 43 t to
    → Lacks 44 (s ++ (37 ∷ (a ++ (f ++ t))))
lacks-changed s a f t range from to spell from_is to_is =
    lacks-marked s a (f ++ t) range 37 refl spell
    (lacks-append 44 f t (lacks-kind 45 f from refl from_is) (lacks-kind 43 t to refl to_is))

lacks-option : (text : List ℕ) (option : MapOption) → SpellsMapOption text option → Lacks 44 text
lacks-option text option exactmap = (refl, (refl, (refl, (refl, (refl, (refl, (refl, (refl, tt))))))))
lacks-option text option (ram s a range spell) = lacks-adding s a range 64 refl spell
lacks-option text option (acpi s a range spell) = lacks-adding s a range 35 refl spell
lacks-option text option (reserved s a range spell) = lacks-adding s a range 36 refl spell
lacks-option text option (persistent s a range spell) = lacks-adding s a range 33 refl spell
lacks-option text option (size_alone _ size is) = lacks-size text 44 size refl is
lacks-option text option (every_type s a f t range spell from to) =
    lacks-changed s a f t range 0 0 spell (no_type-kind 45 f from) (no_type-kind 43 t to)
lacks-option text option (one_type s a f t range from spell is_from to) =
    lacks-changed s a f t range from 0 spell (type-kind 45 f from is_from) (no_type-kind 43 t to)
lacks-option text option (new_type s a f t range to spell from is_to) =
    lacks-changed s a f t range 0 to spell (no_type-kind 45 f from) (type-kind 43 t to is_to)
lacks-option text option (other_type s a f t range from to spell is_from is_to differ) =
    lacks-changed s a f t range from to spell (type-kind 45 f from is_from) (type-kind 43 t to is_to)

map_options-read : (value : List ℕ) (options : List MapOption) → SpellsMapOptions value options
    → map_options_of (parts_in (Byte 44) value) ≡ Some options
map_options-read value options (last_option _ option spells) =
    rw (parts-one (Byte 44) false value (lacks-closed value (lacks-option value option spells)), map_option-read value option spells) refl
map_options-read value options (next_option text rest option more spells others) =
    rw (
      parts-spelled (Byte 44) false text 44 rest (lacks-closed text (lacks-option text option spells)) refl,
      map_option-read text option spells,
      map_options-read rest more others,
    )
    refl

-- the parts of a text, joined with commas, are the text
pub join_with_commas-parts : (text : List ℕ)
    → (first : List ℕ) × (others : List (List ℕ)) × (parts_in (Byte 44) text ≡ first ∷ others) × (join_with_commas (first ∷ others) ≡ text)
join_with_commas-parts [] = ([], [], refl, refl)
join_with_commas-parts (b ∷ bs) = by_test (b == 44) refl (join_with_commas-parts bs)
  where
    longer : (first : List ℕ) (others : List (List ℕ)) → join_with_commas ((b ∷ first) ∷ others) ≡ b ∷ join_with_commas (first ∷ others)
    longer first [] = refl
    longer first (next ∷ others) = refl

    by_test : (t : Bool) → b == 44 ≡ t
        → (first : List ℕ) × (others : List (List ℕ)) × (parts_in (Byte 44) bs ≡ first ∷ others) × (join_with_commas (first ∷ others) ≡ bs)
        → (first : List ℕ) × (others : List (List ℕ)) × (parts_in (Byte 44) (b ∷ bs) ≡ first ∷ others)
        × (join_with_commas (first ∷ others) ≡ b ∷ bs)
    by_test true is rest =
        ([], rest.0 ∷ rest.1, rw (is, rest.2) refl, rw (eqb-true b 44 is) (ap (λ (text : List ℕ). 44 ∷ text) rest.3))
    by_test false is rest =
        (b ∷ rest.0, rest.1, rw (is, rest.2) refl, longer rest.0 rest.1 ∙ ap (λ (text : List ℕ). b ∷ text) rest.3)

pub and_then-both : {A B : Type 0} (o : Option A) (f : A → Option B) (y : B) → option_and_then f o ≡ Some y
    → (x : A) × (o ≡ Some x) × (f x ≡ Some y)
and_then-both None f y is = cc
and_then-both (Some x) f y is = (x, refl, is)

pub map-some : {A B : Type 0} (o : Option A) (f : A → B) (y : B) → option_map f o ≡ Some y → (x : A) × (o ≡ Some x) × (f x ≡ y)
map-some None f y is = cc
map-some (Some x) f y is = (x, refl, cc)

each-spelled : (text : List ℕ) (texts : List (List ℕ)) (options : List MapOption) → map_options_of (text ∷ texts) ≡ Some options
    → SpellsMapOptions (join_with_commas (text ∷ texts)) options
each-spelled text [] options is =
    let both = and_then-both (map_option_of text) (λ p. option_map (λ ps. p ∷ ps) (map_options_of [])) options is in
    let same : both.0 ∷ [] ≡ options = cc both.2 in
    rw (← same) (last_option text both.0 (map_option-spelled text both.0 both.1))
each-spelled text (next ∷ texts) options is =
    let both = and_then-both (map_option_of text) (λ p. option_map (λ ps. p ∷ ps) (map_options_of (next ∷ texts))) options is in
    let rest = map-some (map_options_of (next ∷ texts)) (λ ps. both.0 ∷ ps) options both.2 in
    rw (← rest.2)
    (next_option text (join_with_commas (next ∷ texts)) both.0 rest.0 (map_option-spelled text both.0 both.1)
    (each-spelled next texts rest.0 rest.1))

pub map_options-exactly : (value : List ℕ) (options : List MapOption)
    → map_options_of (parts_in (Byte 44) value) ≡ Some options ↔ SpellsMapOptions value options
map_options-exactly value options = (spelled (join_with_commas-parts value), map_options-read value options)
  where
    spelled : (first : List ℕ) × (others : List (List ℕ)) × (parts_in (Byte 44) value ≡ first ∷ others)
        × (join_with_commas (first ∷ others) ≡ value)
        → map_options_of (parts_in (Byte 44) value) ≡ Some options → SpellsMapOptions value options
    spelled parts is = subst (λ text. SpellsMapOptions text options) parts.3 (each-spelled parts.0 parts.1 options (rw parts.2 at is))

-- a value of `mem=` that is read is spelled
mem-spelled : (value : List ℕ) (option : MapOption) → mem_of value ≡ Some option → SpellsMem value option
mem-spelled value option = by_test (bytes_eq value (codes "nopentium")) refl
  where
    above : (size : ℕ) → IsSize value size → ram_up_to size ≡ Some option → SpellsMem value option
    above size is read = by_zero (size == 0) refl read
      where
        by_zero : (t : Bool) → size == 0 ≡ t → (if t then None else Some (Other (ram_above size))) ≡ Some option → SpellsMem value option
        by_zero true zero read = cc
        by_zero false zero read =
            let option_is : Other (ram_above size) ≡ option = cc in
            let some : 0 < size = grind (arith, nat_tests) in
            rw (← option_is) (end_of_ram value size is some)

    by_test : (t : Bool) → bytes_eq value (codes "nopentium") ≡ t
        → (if t then Some (Other None) else whole_size value >>= ram_up_to) ≡ Some option
        → SpellsMem value option
    by_test true test is =
        let option_is : Other None ≡ option = cc in
        rw ((bytes_eq-Decides value (codes "nopentium")).0 test, ← option_is) nopentium
    by_test false test is =
        let both = then-both (whole_size value) ram_up_to option is in above both.0 (whole_size-spelled value both.0 both.1) both.2

mem-read : (value : List ℕ) (option : MapOption) → SpellsMem value option → mem_of value ≡ Some option
mem-read value option nopentium = refl
mem-read value option (end_of_ram _ size is some) =
    rw (
      begins-other value 110 (codes "opentium")
          (begins_with_digit-size value size is) refl,
      whole_size-end value size is,
      other_than_zero size some,
    )
    refl

pub mem-exactly : (value : List ℕ) (option : MapOption) → mem_of value ≡ Some option ↔ SpellsMem value option
mem-exactly value option = (mem-spelled value option, mem-read value option)
