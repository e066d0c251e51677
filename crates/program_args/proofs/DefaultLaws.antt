-- The values that `clap` finds for arguments that no word gives: the default, if there is one.
use Rattle.std.proofs.Common.{◌≡◌, ℕ, ◌&&◌, ◌||◌, Bool, true, false, List, [], ◌∷◌, ◌++◌, Option, Some, None, codes, refl, ap, ◌∙◌, map, if◌then◌else◌, slice_get, arith, inl, inr}
use Rattle.std.specs.Prelude.{fold}
use Rattle.std.specs.List.{list_all, list_any}
use Rattle.std.specs.Option.{option_or}
use Rattle.std.specs.Str.{bytes_eq}
use Rattle.std.proofs.lemmas.Bool.{cases_Bool}
use Rattle.std.proofs.lemmas.List.Folds.{list_all-append}
use Rattle.std.proofs.lemmas.Slice.Eq.{bytes_eq-Decides}
use Rattle.clap.specs.Faults.{defaults_fault}
use Rattle.clap.specs.Simple.{Shape}
use Rattle.clap.specs.Walk.{Row, Rule, default_rows, has_row, is_empty, more_values, reading_by, with_default, with_values}
use Rattle.clap.specs.declared.parser.matches.ValueSource.TheVariants.{DefaultValue}
use Rattle.clap.proofs.WalkLemmas.{both}
use Rattle.program_args.specs.Grammar.{OptionRow, is_flag_action}
use Rattle.program_args.specs.Spelling.{default_value}
use Rattle.program_args.specs.Args.{ArgValues, arg_value_in}
use Rattle.program_args.proofs.KnownLaws.{HasOptions, after_first, default_fault, first_or, name_rule, off, option_of}
use Rattle.program_args.proofs.SpellingLaws.{no_row_changed}

abbrev pub has_some : List (List ℕ) → Bool
has_some [] = false
has_some (value ∷ values) = true

-- whether each row has a value
abbrev pub are_full : List Row → Bool
are_full rows = list_all (λ row. has_some row.values) rows

some_value : (values : List (List ℕ)) → has_some values ≡ true → (other : Option (List ℕ))
    → slice_get values 0 ≡ option_or (slice_get values 0) other
some_value values none other = grind arith

abbrev own_default : Rule → ArgValues
own_default rule argument = if bytes_eq rule.id argument then slice_get rule.defaults 0 else None

-- the default of the argument, from the first rule that gives one
abbrev default_by : List Rule → ArgValues
default_by [] argument = None
default_by (rule ∷ some) argument = option_or (own_default rule argument) (default_by some argument)

-- adding a row for an argument without one gives that argument the row's value
found_more : (rows : List Row) (row : Row) (argument value : List ℕ) → are_full rows ≡ true → slice_get row.values 0 ≡ Some value
    → arg_value_in (rows ++ row ∷ []) argument
    ≡ option_or (arg_value_in rows argument) (if bytes_eq row.id argument then Some value else None)
found_more [] row argument value full is = grind arith
found_more (first ∷ rows) row argument value full is =
    let parts = both (has_some first.values) _ full in
    grind (arith, some_value first.values parts.0, found_more rows row argument value parts.1 is)

-- adding defaults doesn't change the value of an argument that already has a row
stands_in : (rows : List Row) (argument : List ℕ) → are_full rows ≡ true → has_row argument rows ≡ true → (other : Option (List ℕ))
    → arg_value_in rows argument ≡ option_or (arg_value_in rows argument) other
stands_in [] argument full some other = cc
stands_in (first ∷ rows) argument full some other =
    let parts = both (has_some first.values) _ full in
    grind (arith, some_value first.values parts.0 other, stands_in rows argument parts.1)

or_none : (value : Option (List ℕ)) → value ≡ option_or value None
or_none value = grind arith

full_more : (rows : List Row) (row : Row) → are_full rows ≡ true → has_some row.values ≡ true → are_full (rows ++ row ∷ []) ≡ true
full_more rows row full value =
    list_all-append (λ (r : Row). has_some r.values) rows (row ∷ []) ∙ rw (full, value) refl

abbrev default_row : Rule → List (List ℕ) → Row
default_row rule values = record {
  id = rule.id;
  values = values;
  count = None;
  source = Some DefaultValue;
  reading = reading_by rule;
}

-- what the default of one rule adds to the rows
record Adds (rule : Rule) (rows now : List Row) : Type 0 where
  full : are_full now ≡ true
  values : (argument : List ℕ) → arg_value_in now argument ≡ option_or (arg_value_in rows argument) (own_default rule argument)

adds : (rule : Rule) (rows : List Row) → are_full rows ≡ true → Adds rule rows (with_default rows rule)
adds rule rows full = by_row (has_row rule.id rows) refl
  where
    by_default : (defaults : List (List ℕ)) → has_row rule.id rows ≡ false → rule.defaults ≡ defaults
        → Adds rule rows (default_rows rule.id (reading_by rule) defaults rows)
    by_default [] none is = record { full = full; values = λ argument. rw is (grind (arith, or_none (arg_value_in rows argument))) }
    by_default (v ∷ vs) none is =
        let added : with_values rule.id (reading_by rule) DefaultValue (v ∷ vs) rows ≡ rows ++ default_row rule (v ∷ vs) ∷ [] =
        no_row_changed rule.id (more_values DefaultValue (v ∷ vs)) (default_row rule (v ∷ vs) ∷ []) rows none in
        record {
          full = rw added (full_more rows (default_row rule (v ∷ vs)) full refl);
          values = λ argument. rw (added, is) (found_more rows (default_row rule (v ∷ vs)) argument v full refl);
        }

    by_row : (there : Bool) → has_row rule.id rows ≡ there
        → Adds rule rows (if there then rows else default_rows rule.id (reading_by rule) rule.defaults rows)
    by_row true there = record {
      full = full;
      values = λ argument. elim (cases_Bool (bytes_eq rule.id argument)) [
        | inl same ↦ stands_in rows argument full (rw (← (bytes_eq-Decides rule.id argument).0 same) there) _
        | inr other ↦ rw other (or_none (arg_value_in rows argument))
      ];
    }
    by_row false there = by_default rule.defaults there refl

or_grouped : (a b c : Option (List ℕ)) → option_or (option_or a b) c ≡ option_or a (option_or b c)
or_grouped a b c = grind arith

pub value_with_defaults : (some : List Rule) (rows : List Row) (argument : List ℕ) → are_full rows ≡ true
    → arg_value_in (fold with_default rows some) argument ≡ option_or (arg_value_in rows argument) (default_by some argument)
value_with_defaults [] rows argument full = or_none (arg_value_in rows argument)
value_with_defaults (rule ∷ some) rows argument full =
    let one = adds rule rows full in
    value_with_defaults some (with_default rows rule) argument one.full
    ∙ ap (λ value. option_or value (default_by some argument)) (one.values argument)
    ∙ or_grouped (arg_value_in rows argument) (own_default rule argument) (default_by some argument)

abbrev nothing : Option (List ℕ)
nothing = None

unspelled_by : (some : List OptionRow) (argument : List ℕ)
    → map (λ (option : OptionRow). slice_get (option_of option).defaults 0) some ≡ map (λ (option : OptionRow). off option.1) some
    → default_by (map option_of some ++ name_rule ∷ []) argument
    ≡ (if list_any (λ option. is_flag_action option.1 && bytes_eq option.0 argument) some then Some (codes "false") else None)
unspelled_by [] argument are = grind arith
unspelled_by (first ∷ some) argument are =
    let one : slice_get (option_of first).defaults 0 ≡ off first.1 = ap (first_or None) are in
    rw (one, unspelled_by some argument (ap after_first are)) (grind arith)

either_none : {X : Type 0} (test : Bool) (faults : List X) → faults ≡ [] → (if test then [] else faults) ≡ []
either_none test faults none = grind arith

defaults_pass : (some : List Rule) (rows : List Row) → map default_fault some ≡ map (λ rule. []) some → defaults_fault rows some ≡ []
unfolding defaults_fault
defaults_pass [] rows none = refl
defaults_pass (rule ∷ some) rows none =
    rw (either_none (has_row rule.id rows || is_empty rule.defaults) (default_fault rule) (ap (first_or []) none))
    (defaults_pass some (with_default rows rule) (ap after_first none))

module _ (command : Shape) (options : List OptionRow) (has : HasOptions command options) where
  -- an argument without a row gets the value of an argument without a spelling
  pub as_unspelled : (argument : List ℕ) → default_by command.rules argument ≡ default_value options argument
  as_unspelled argument = rw has.rules_are (unspelled_by options argument has.all_off)

  pub no_default_fault : (rows : List Row) → defaults_fault rows command.rules ≡ []
  no_default_fault rows = defaults_pass command.rules rows has.all_pass
