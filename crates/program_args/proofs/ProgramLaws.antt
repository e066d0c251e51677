-- What a program reads of its words is read of what the words of either program ask for.
use Rattle.std.proofs.Common.{◌≡◌, ℕ, Bool, true, false, List, codes, Option, Some, None, Result, Ok, Err, refl, arith, if◌then◌else◌}
use Rattle.std.specs.Option.{option_map}
use Rattle.clap.specs.Words.{App, matches_of}
use Rattle.bm_base.specs.Answers.{Answers}
use Rattle.bm_base.specs.OptionSteps.{◌>>=◌, some_if}
use Rattle.bm_base.specs.Range.{RangeView}
use Rattle.program_args.specs.Answers.{or_refused}
use Rattle.program_args.specs.Args.{ArgValues, ProgramArgsView, args_by_values, args_of, arg_value_in, bootmem61_args, has_one_source, report_list_in, address_width_in}
use Rattle.program_args.specs.Entries.{made_entry_count}
use Rattle.program_args.specs.Grammar.{is_faultless_for}
use Rattle.program_args.specs.Kernel.{kernel_range_of}
use Rattle.program_args.specs.Mirrors.{mirrors_of_value}
use Rattle.program_args.specs.declared.reader.ArgsError.{ArgsError}
use Rattle.program_args.specs.declared.reader.ArgsError.TheVariants as errors

-- the result of five steps, made from those of the last four
abbrev after_steps : {V : Type 0} → (Option ℕ → RangeView → List ℕ → List RangeView → V) → Option (Unit {0}) → Option (Option ℕ)
    → Option RangeView → Option (List ℕ) → Option (List RangeView) → Option V
after_steps make source made kernel list mirrors =
    source >>= λ _. made >>= λ m. kernel >>= λ k. list >>= λ l. mirrors >>= λ r. Some (make m k l r)

read_of_steps : {V : Type 0} (read : ProgramArgsView → V) (make : Option ℕ → RangeView → List ℕ → List RangeView → ProgramArgsView)
    (source : Option (Unit {0})) (made : Option (Option ℕ)) (kernel : Option RangeView) (list : Option (List ℕ))
    (mirrors : Option (List RangeView))
    → after_steps (λ m k l r. read (make m k l r)) source made kernel list mirrors
    ≡ option_map read (after_steps make source made kernel list mirrors)
read_of_steps read make None made kernel list mirrors = refl
read_of_steps read make (Some s) None kernel list mirrors = refl
read_of_steps read make (Some s) (Some m) None list mirrors = refl
read_of_steps read make (Some s) (Some m) (Some k) None mirrors = refl
read_of_steps read make (Some s) (Some m) (Some k) (Some l) None = refl
read_of_steps read make (Some s) (Some m) (Some k) (Some l) (Some r) = refl

-- what a program reads of the values is read of what they ask for
read_of_values : {V : Type 0} (read : ProgramArgsView → V) (further : List (List ℕ)) (value : ArgValues)
    → args_by_values read further value ≡ option_map read (args_by_values bootmem61_args further value)
read_of_values read further value =
    read_of_steps read _ (some_if (has_one_source value)) (made_entry_count (value (codes "make")))
    (kernel_range_of (address_width_in value) (value (codes "kernel"))) (report_list_in further value)
    (mirrors_of_value (value (codes "mirror")))

if_accepted : {V : Type 0} (read : ProgramArgsView → V) (accepted : Bool) (found : Option ProgramArgsView) (other : Option V)
    → other ≡ option_map read found → (if accepted then other else None) ≡ option_map read (if accepted then found else None)
if_accepted read true found other is = is
if_accepted read false found other is = refl

-- what a program reads of the words is read of what they ask for
pub read_of_words : {V : Type 0} (read : ProgramArgsView → V) (command : App) (further words : List (List ℕ))
    → args_of read command further words ≡ option_map read (args_of bootmem61_args command further words)
read_of_words read command further words =
    if_accepted read (is_faultless_for command words) _ _ (read_of_values read further (arg_value_in (matches_of command words)))

-- a call that has the defined result has it also for what is read of it
pub answers_read : {A B V : Type 0} (view : A → B) (read : B → V) (result : Result A ArgsError) (said : Option B) (other : Option V)
    → other ≡ option_map read said → Answers errors.Memory view result (or_refused said)
    → Answers errors.Memory (λ x. read (view x)) result (or_refused other)
answers_read view read (Ok x) None other is answers = rw is (grind arith)
answers_read view read (Ok x) (Some y) other is answers = rw is (grind arith)
answers_read view read (Err error) None other is answers = rw is (grind arith)
answers_read view read (Err error) (Some y) other is answers = rw is (grind arith)
