-- Command lines as a user writes them. A spelling is one part of a command line: an option with its
-- value, a flag, or the name of the zero page's file. A definition that depends on the program takes
-- the table of that program's options (`Grammar.antt`) as `options`.
use Rattle.std.specs.Prelude.{◌≡◌, ℕ, ◌==◌, Bool, true, not, ◌&&◌, if◌then◌else◌, List, [], ◌∷◌, ◌++◌, codes, Some, None}
use Rattle.std.specs.List.{flat_map, list_any}
use Rattle.std.specs.Option.{option_or}
use Rattle.std.specs.Str.{bytes_eq}
use Rattle.program_args.specs.Grammar.{OptionRow, has_value, is_flag_action}
use Rattle.program_args.specs.Args.{ArgValues}

-- `two_word_option` is an option whose value is the next word, `--NAME VALUE`. `one_word_option` is
-- an option whose value follows `=`, `--NAME=VALUE`. `flag` is `--NAME`. `named` is the name of the
-- zero page's file.
pub data Spelling : Type 0 where
  two_word_option : List ℕ → List ℕ → Spelling
  one_word_option : List ℕ → List ℕ → Spelling
  flag : List ℕ → Spelling
  named : List ℕ → Spelling

-- the word `--NAME`
abbrev pub option_word : List ℕ → List ℕ
option_word name = codes "--" ++ name

-- the words of one spelling
abbrev pub spelling_words : Spelling → List (List ℕ)
spelling_words (two_word_option name value) = option_word name ∷ value ∷ []
spelling_words (one_word_option name value) = (option_word name ++ (codes "=" ++ value)) ∷ []
spelling_words (flag name) = option_word name ∷ []
spelling_words (named name) = name ∷ []

-- the words of a list of spellings, in order
abbrev pub words_of_spellings : List Spelling → List (List ℕ)
words_of_spellings ss = flat_map spelling_words ss

-- the name of the argument that a spelling gives a value
abbrev pub spelling_argument : Spelling → List ℕ
spelling_argument (two_word_option name value) = name
spelling_argument (one_word_option name value) = name
spelling_argument (flag name) = name
spelling_argument (named name) = codes "ZEROPAGE"

-- the value that a spelling gives its argument; `true` for a flag
abbrev pub spelling_value : Spelling → List ℕ
spelling_value (two_word_option name value) = value
spelling_value (one_word_option name value) = value
spelling_value (flag name) = codes "true"
spelling_value (named name) = name

-- the value that the first spelling of the argument gives it, or `None` if no spelling is of this
-- argument
abbrev pub first_spelled_value : List Spelling → ArgValues
first_spelled_value [] argument = None
first_spelled_value (s ∷ ss) argument =
    if bytes_eq (spelling_argument s) argument then Some (spelling_value s) else first_spelled_value ss argument

-- whether the name is that of an option of the table that takes a value
abbrev pub is_option : List OptionRow → List ℕ → Bool
is_option options name = list_any (λ option. has_value option.1 && bytes_eq option.0 name) options

-- whether the name is that of a flag of the table, an option without a value
abbrev pub is_flag : List OptionRow → List ℕ → Bool
is_flag options name = list_any (λ option. is_flag_action option.1 && bytes_eq option.0 name) options

-- the value of an argument that has no spelling: `false` for a flag, else `None`
abbrev pub default_value : List OptionRow → ArgValues
default_value options argument = if is_flag options argument then Some (codes "false") else None

-- the value of each argument: that of its first spelling on the command line, or its default if
-- it isn't spelled there
abbrev pub spelled_values : List OptionRow → List Spelling → ArgValues
spelled_values options ss argument = option_or (first_spelled_value ss argument) (default_value options argument)

-- whether the word doesn't begin with a hyphen
abbrev pub is_plain_word : List ℕ → Bool
is_plain_word [] = true
is_plain_word (b ∷ bs) = not (b == 45)

-- The spelling is of an option or flag of the table, or of the name of the zero page's file. That
-- name doesn't begin with a hyphen, and neither does a value that is the next word. After `=` any
-- value may follow.
abbrev pub IsSpelling : List OptionRow → Spelling → Type 0
IsSpelling options (two_word_option name value) = (is_option options name ≡ true) × (is_plain_word value ≡ true)
IsSpelling options (one_word_option name value) = is_option options name ≡ true
IsSpelling options (flag name) = is_flag options name ≡ true
IsSpelling options (named name) = is_plain_word name ≡ true

-- each element is a spelling that the program accepts (`IsSpelling`), and no two give a value to the
-- same argument
abbrev pub AreSpellings : List OptionRow → List Spelling → Type 0
AreSpellings options [] = Unit {0}
AreSpellings options (s ∷ ss) = IsSpelling options s × (first_spelled_value ss (spelling_argument s) ≡ None) × AreSpellings options ss
