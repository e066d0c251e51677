-- What a command knows of its arguments, and what is known of plain words. With these facts the
-- walk over spelled words is proved for any command, without unfolding it. Each fact is computed
-- once for all options of a program.
use Rattle.std.proofs.Common.{◌≡◌, ℕ, ◌==◌, Bool, true, false, ◌&&◌, List, [], ◌∷◌, ◌++◌, codes, Option, Some, None, map, refl, ap, subst, arith, inl, inr, if◌then◌else◌, slice_get}
use Rattle.std.specs.List.{list_any}
use Rattle.std.specs.Str.{bytes_eq}
use Rattle.std.proofs.lemmas.Bool.{and_parts, or_cases}
use Rattle.std.proofs.lemmas.Slice.Eq.{bytes_eq-Decides}
use Rattle.clap.specs.Faults.{check_fault, given_default_fault}
use Rattle.clap.specs.Lexer.{long_of, short_of}
use Rattle.clap.specs.Simple.{App, Shape, argument_words, built, filled, names_of, with_index}
use Rattle.clap.specs.Walk.{Row, Rule, arg_by_id, arg_by_index, arg_by_long}
use Rattle.clap.specs.declared.builder.action.ArgAction.{ArgAction}
use Rattle.clap.specs.declared.builder.action.ArgAction.TheVariants.{Set, SetTrue}
use Rattle.clap.specs.declared.error.kind.ErrorKind.{ErrorKind}
use Rattle.program_args.specs.Grammar.{OptionRow, has_value, is_flag_action, option_rule, options, options61, positional_rule, bootmem61_command, bootmem_command}
use Rattle.program_args.specs.Spelling.{option_word, is_flag, is_option, is_plain_word}

abbrev pub zero_page : List ℕ
zero_page = codes "ZEROPAGE"

abbrev pub option_of : OptionRow → Rule
option_of option = filled (option_rule option)

abbrev pub name_rule : Rule
name_rule = with_index 1 (filled (positional_rule zero_page))

abbrev pub joined_word : List ℕ → List ℕ → List ℕ
joined_word name value = option_word name ++ (codes "=" ++ value)

-- how a command with these rules reads the option's word, and which rule it finds for it
pub record Known (rules : List Rule) (option : OptionRow) : Type 0 where
  pub not_end : bytes_eq (option_word option.0) (codes "--") ≡ false
  pub long_word : long_of (option_word option.0) ≡ Some (option.0, None)
  pub joined_not_end : (value : List ℕ) → bytes_eq (joined_word option.0 value) (codes "--") ≡ false
  pub joined_long : (value : List ℕ) → long_of (joined_word option.0 value) ≡ Some (option.0, Some value)
  pub by_long : arg_by_long rules option.0 ≡ Some (option_of option)
  pub by_id : arg_by_id rules option.0 ≡ Some (option_of option)
  pub itself : bytes_eq option.0 option.0 ≡ true
  pub no_name : bytes_eq option.0 zero_page ≡ false

-- the fields of `Known` as one tuple, so that one computation gives all of them
abbrev Looked : Type 0
Looked =
    Bool × Option (List ℕ × Option (List ℕ)) × (List ℕ → Bool) × (List ℕ → Option (List ℕ × Option (List ℕ))) × Option Rule × Option Rule
    × Bool × Bool

abbrev look_of_option : List Rule → OptionRow → Looked
look_of_option rules option = (
  bytes_eq (option_word option.0) (codes "--"),
  long_of (option_word option.0),
  λ value. bytes_eq (joined_word option.0 value) (codes "--"),
  λ value. long_of (joined_word option.0 value),
  arg_by_long rules option.0,
  arg_by_id rules option.0,
  bytes_eq option.0 option.0,
  bytes_eq option.0 zero_page,
)

abbrev expected_look : OptionRow → Looked
expected_look option = (
  false,
  Some (option.0, None),
  λ value. false,
  λ value. Some (option.0, Some value),
  Some (option_of option),
  Some (option_of option),
  true,
  false,
)

known_by : (rules : List Rule) (option : OptionRow) → look_of_option rules option ≡ expected_look option → Known rules option
known_by rules option is = record {
  not_end = ap (λ (l : Looked). l.0) is;
  long_word = ap (λ (l : Looked). l.1) is;
  joined_not_end = λ value. ap (λ (l : Looked). l.2 value) is;
  joined_long = λ value. ap (λ (l : Looked). l.3 value) is;
  by_long = ap (λ (l : Looked). l.4) is;
  by_id = ap (λ (l : Looked). l.5) is;
  itself = ap (λ (l : Looked). l.6) is;
  no_name = ap (λ (l : Looked). l.7) is;
}

-- the first element of a list, or `other` if the list is empty
abbrev pub first_or : {X : Type 0} → X → List X → X
first_or other [] = other
first_or other (x ∷ xs) = x

-- a list without its first element
abbrev pub after_first : {X : Type 0} → List X → List X
after_first [] = []
after_first (x ∷ xs) = xs

abbrev pub off : ArgAction → Option (List ℕ)
off action = if is_flag_action action then Some (codes "false") else None

-- what the defaults of a rule fail with
abbrev pub default_fault : Rule → List ErrorKind
default_fault rule = given_default_fault rule rule.defaults

-- The command's rules are those of these options and then that of the zero page's name. It finds
-- each rule by its name. Only flags have a default, and no default is refused.
pub record HasOptions (command : Shape) (options : List OptionRow) : Type 0 where
  pub looked : map (look_of_option command.rules) options ≡ map expected_look options
  pub name_by_index : arg_by_index command.rules 1 ≡ Some name_rule
  pub name_by_id : arg_by_id command.rules zero_page ≡ Some name_rule
  pub once : command.args_override_self ≡ false
  pub rules_are : command.rules ≡ map option_of options ++ name_rule ∷ []
  pub all_off : map (λ (option : OptionRow). slice_get (option_of option).defaults 0) options
      ≡ map (λ (option : OptionRow). off option.1) options
  pub all_pass : map default_fault command.rules ≡ map (λ rule. []) command.rules
  pub check_passes : (rows : List Row) → check_fault command rows false ≡ []

-- `HasOptions` of a program, and the settings of its whole command
pub record IsProgram (command : App) (options : List OptionRow) : Type 0 where
  pub top : HasOptions (built command).top options
  pub no_subs : (built command).subs ≡ []
  pub no_names : names_of (built command) ≡ []
  pub all_words : (words : List (List ℕ)) → argument_words command words ≡ words

bootmem_top : HasOptions (built bootmem_command).top options
unfolding bootmem_command
bootmem_top = record {
  looked = refl;
  name_by_index = refl;
  name_by_id = refl;
  once = refl;
  rules_are = refl;
  all_off = refl;
  all_pass = refl;
  check_passes = λ rows. refl;
}

pub is_bootmem : IsProgram bootmem_command options
unfolding bootmem_command
is_bootmem = record { top = bootmem_top; no_subs = refl; no_names = refl; all_words = λ words. refl }

bootmem61_top : HasOptions (built bootmem61_command).top options61
unfolding bootmem61_command
bootmem61_top = record {
  looked = refl;
  name_by_index = refl;
  name_by_id = refl;
  once = refl;
  rules_are = refl;
  all_off = refl;
  all_pass = refl;
  check_passes = λ rows. refl;
}

pub is_bootmem61 : IsProgram bootmem61_command options61
unfolding bootmem61_command
is_bootmem61 = record { top = bootmem61_top; no_subs = refl; no_names = refl; all_words = λ words. refl }

-- if the table has an option with this name and an action of this kind, the option is known
known_in : (rules : List Rule) (test : ArgAction → Bool) (action : ArgAction) → ((some : ArgAction) → test some ≡ true → some ≡ action)
    → (some : List OptionRow) (name : List ℕ) → map (look_of_option rules) some ≡ map expected_look some
    → list_any (λ option. test option.1 && bytes_eq option.0 name) some ≡ true → Known rules (name, action)
known_in rules test action only [] name are is = cc
known_in rules test action only (first ∷ some) name are is =
    elim (or_cases (test first.1 && bytes_eq first.0 name) _ is) [
      | inl here ↦
          let parts = and_parts (test first.1) (bytes_eq first.0 name) here in
          let equal : first ≡ (name, action) = rw (← (bytes_eq-Decides first.0 name).0 parts.1, ← only first.1 parts.0) refl in
          subst (Known rules) equal (known_by rules first (ap (first_or (expected_look first)) are))
      | inr later ↦ known_in rules test action only some name (ap after_first are) later
    ]

module _ (command : Shape) (options : List OptionRow) (has : HasOptions command options) (name : List ℕ) where
  pub known : is_option options name ≡ true → Known command.rules (name, Set)
  known is = known_in command.rules has_value Set (λ some is. grind arith) options name has.looked is

  pub flag_known : is_flag options name ≡ true → Known command.rules (name, SetTrue)
  flag_known is = known_in command.rules is_flag_action SetTrue (λ some is. grind arith) options name has.looked is

-- a plain word is neither `--` nor an option
pub record Plain (word : List ℕ) : Type 0 where
  pub not_end : bytes_eq word (codes "--") ≡ false
  pub no_long : long_of word ≡ None
  pub no_short : short_of word ≡ None

pub plain : (word : List ℕ) → is_plain_word word ≡ true → Plain word
plain [] is = record { not_end = refl; no_long = refl; no_short = refl }
plain (b ∷ bs) is =
    let other : (b == 45) ≡ false = grind arith in
    record { not_end = rw other refl; no_long = rw other refl; no_short = rw other refl }
