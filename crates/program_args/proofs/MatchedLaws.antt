-- A program's command accepts words that follow its grammar, and finds the value of each spelling.
use Rattle.std.proofs.Common.{◌≡◌, ℕ, true, List, [], ◌∷◌, refl, inl, ap, ◌∙◌, map, arith}
use Rattle.std.specs.Prelude.{fold}
use Rattle.clap.specs.Simple.{App, Shape, argument_words, built, matches_of}
use Rattle.clap.specs.Walk.{nothing_held, with_default}
use Rattle.clap.proofs.FaultLemmas.{leaf_fault}
use Rattle.program_args.specs.Args.{ProgramArgsView, args61_from_values, args_by_values, args_from_values, args_of, arg_value_in, bootmem61_args, bootmem_args, read_args, read_args61}
use Rattle.program_args.specs.Grammar.{OptionRow, bootmem61_command, bootmem_command, is_faultless_for, options, options61}
use Rattle.program_args.specs.ReportNames.{reports_of_bootmem61}
use Rattle.program_args.specs.Spelling.{AreSpellings, Spelling, spelled_values, words_of_spellings, first_spelled_value}
use Rattle.program_args.proofs.KnownLaws.{HasOptions, IsProgram, is_bootmem, is_bootmem61}
use Rattle.program_args.proofs.DefaultLaws.{are_full, as_unspelled, value_with_defaults, no_default_fault}
use Rattle.program_args.proofs.SpellingLaws.{Walks, row_of, walks}

-- ---- all spellings

found : (ss : List Spelling) (argument : List ℕ) → arg_value_in (map row_of ss) argument ≡ first_spelled_value ss argument
found [] argument = refl
found (s ∷ ss) argument = grind (arith, found ss argument)

full_rows : (ss : List Spelling) → are_full (map row_of ss) ≡ true
full_rows [] = refl
full_rows (s ∷ ss) = full_rows ss

same_values : (command : Shape) (options : List OptionRow) → HasOptions command options → (ss : List Spelling)
    → arg_value_in (fold with_default (map row_of ss) command.rules) ≡ spelled_values options ss
same_values command options has ss = λ i. λ argument. at argument i
  where
    at : (argument : List ℕ) → arg_value_in (fold with_default (map row_of ss) command.rules) argument ≡ spelled_values options ss argument
    at argument =
        value_with_defaults command.rules (map row_of ss) argument (full_rows ss)
        ∙ rw (found ss argument, as_unspelled command options has argument) refl

module _ (command : App) (options : List OptionRow) (is : IsProgram command options)
    (ss : List Spelling) (are : AreSpellings options ss) where
  end : Walks (built command).top options is.top [] ss 1 nothing_held
  end =
      walks (built command).top options is.top [] ss 1 nothing_held (record { rows = refl; settles = refl; first = λ fresh. refl })
      (λ argument. inl refl) are

  rows_found : matches_of command (words_of_spellings ss) ≡ fold with_default (map row_of ss) (built command).top.rules
  rows_found = rw (is.no_names, is.all_words (words_of_spellings ss), end.walk, end.stands.rows) refl

  faultless : is_faultless_for command (words_of_spellings ss) ≡ true
  faultless =
      let whole = leaf_fault (built command) nothing_held (argument_words command (words_of_spellings ss)) is.no_subs in
      rw (
        whole,
        is.all_words (words_of_spellings ss),
        end.fault,
        is.top.once,
        end.walk,
        end.stands.settles,
        no_default_fault (built command).top options is.top _,
        is.top.check_passes _,
      ) refl

  -- any program reads such words as the values that they spell
  values_read : {V : Type 0} (read : ProgramArgsView → V) (further : List (List ℕ))
      → args_of read command further (words_of_spellings ss) ≡ args_by_values read further (spelled_values options ss)
  values_read read further =
      rw (faultless, rows_found) (ap (args_by_values read further) (same_values (built command).top options is.top ss))

pub accepted_as_given : (ss : List Spelling) → AreSpellings options ss
    → read_args (words_of_spellings ss) ≡ args_from_values (spelled_values options ss)
accepted_as_given ss are = values_read bootmem_command options is_bootmem ss are bootmem_args []

pub accepted_as_given61 : (ss : List Spelling) → AreSpellings options61 ss
    → read_args61 (words_of_spellings ss) ≡ args61_from_values (spelled_values options61 ss)
accepted_as_given61 ss are = values_read bootmem61_command options61 is_bootmem61 ss are bootmem61_args reports_of_bootmem61
