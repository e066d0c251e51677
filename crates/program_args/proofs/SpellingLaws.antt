-- How `clap` walks over words that follow the grammar of a program. Between two spellings at most
-- one value is pending; the next word settles it. At the end there is a row for each spelling.
use Rattle.std.proofs.Common.{◌≡◌, ℕ, Bool, true, false, ◌&&◌, List, [], ◌∷◌, ◌++◌, Some, None, refl, inl, inr, sym, ap, map, ◌∙◌, arith}
use Rattle.std.specs.Prelude.{◌⊎◌, fold}
use Rattle.std.specs.Str.{bytes_eq}
use Rattle.std.proofs.lemmas.Bool.{cases_Bool}
use Rattle.std.proofs.lemmas.List.{append-nil, append_assoc, map-append}
use Rattle.std.proofs.lemmas.Slice.Eq.{bytes_eq-Decides}
use Rattle.clap.specs.Faults.{settle_fault, turn_fault, walk_fault}
use Rattle.clap.specs.Simple.{Shape}
use Rattle.clap.specs.Walk.{Held, Row, Walk, at_row, has_row, idle, is_pending, more_values, option, reading_by, settled, settled_rows, used, walked, with_values, without}
use Rattle.clap.specs.declared.builder.action.ArgAction.TheVariants.{Set, SetTrue}
use Rattle.clap.specs.declared.parser.matches.ValueSource.TheVariants.{CommandLine}
use Rattle.program_args.specs.Grammar.{OptionRow}
use Rattle.program_args.specs.Spelling.{AreSpellings, IsSpelling, Spelling, two_word_option, spelling_argument, option_word, flag, one_word_option, named, first_spelled_value, words_of_spellings, spelling_value, spelling_words}
use Rattle.program_args.proofs.KnownLaws.{HasOptions, Known, Plain, flag_known, joined_word, known, name_rule, option_of, plain, zero_page}

-- ---- one word

-- the state of the walk between two spellings
abbrev pub resting : ℕ → Held → Walk
resting position h = record {
  held = h;
  waiting = idle;
  position = position;
  is_trailing = false;
  stopped = None;
}

and_false : (b : Bool) → (b && false) ≡ false
and_false b = grind arith

-- ---- between two spellings

abbrev pub row_of : Spelling → Row
row_of s = record {
  id = spelling_argument s;
  values = spelling_value s ∷ [];
  count = None;
  source = Some CommandLine;
  reading = reading_by name_rule;
}

-- no spelling in the list has this argument
abbrev pub IsNew : List ℕ → List Spelling → Type 0
IsNew argument ss = first_spelled_value ss argument ≡ None

no_row : (argument : List ℕ) (earlier : List Spelling) → IsNew argument earlier → has_row argument (map row_of earlier) ≡ false
no_row argument [] new = refl
no_row argument (s ∷ ss) new = grind (arith, no_row argument ss)

-- an argument that is new to a list of spellings is new to the list without its last one
new_before : (argument : List ℕ) (ss : List Spelling) (s : Spelling) → IsNew argument (ss ++ s ∷ []) → IsNew argument ss
new_before argument [] s none = refl
new_before argument (first ∷ ss) s none = grind (arith, new_before argument ss s)

new_end : (argument : List ℕ) (ss : List Spelling) (s : Spelling) → bytes_eq (spelling_argument s) argument ≡ false → IsNew argument ss
    → IsNew argument (ss ++ s ∷ [])
new_end argument [] s other none = rw other refl
new_end argument (first ∷ ss) s other none = grind (arith, new_end argument ss s other)

not_new : (ss : List Spelling) (name : List ℕ) → IsNew zero_page (ss ++ named name ∷ []) → ⊥
not_new [] name none = cc
not_new (first ∷ ss) name none = grind (arith, not_new ss name)

-- changing the row of an argument that has none adds the missing row at the end
pub no_row_changed : (id : List ℕ) (change : Row → List Row) (missing rows : List Row) → has_row id rows ≡ false
    → at_row id change missing rows ≡ rows ++ missing
no_row_changed id change missing [] none = refl
no_row_changed id change missing (first ∷ rows) none = grind (arith, no_row_changed id change missing rows)

rows_more : (earlier : List Spelling) (s : Spelling) → IsNew (spelling_argument s) earlier
    → with_values (spelling_argument s) (reading_by name_rule) CommandLine (spelling_value s ∷ [])
    (without (spelling_argument s) (map row_of earlier))
    ≡ map row_of (earlier ++ s ∷ [])
rows_more earlier s new =
    let rows = map row_of earlier in
    let none = no_row (spelling_argument s) earlier new in
    let left : without (spelling_argument s) rows ≡ rows = no_row_changed (spelling_argument s) (λ _. []) [] rows none ∙ append-nil rows in
    rw left (no_row_changed (spelling_argument s) (more_values CommandLine (spelling_value s ∷ [])) (row_of s ∷ []) rows none
    ∙ sym (map-append row_of earlier (s ∷ [])))

-- ---- from spelling to spelling

-- no argument has a spelling both in the first list and in the second
abbrev pub Past : List Spelling → List Spelling → Type 0
Past earlier later = (argument : List ℕ) → IsNew argument earlier ⊎ IsNew argument later

same_bytes : (bytes : List ℕ) → bytes_eq bytes bytes ≡ true
same_bytes bytes = (bytes_eq-Decides bytes bytes).1 refl

first_new : (earlier : List Spelling) (s : Spelling) (ss : List Spelling) → Past earlier (s ∷ ss)
    → IsNew (spelling_argument s) earlier
first_new earlier s ss past = elim (past (spelling_argument s)) [
  | inl new ↦ new
  | inr never ↦ let same : Some (spelling_value s) ≡ None = rw (same_bytes (spelling_argument s)) at never in cc
]

past_more : (earlier : List Spelling) (s : Spelling) (ss : List Spelling) → IsNew (spelling_argument s) ss → Past earlier (s ∷ ss)
    → Past (earlier ++ s ∷ []) ss
past_more earlier s ss new past argument = elim (cases_Bool (bytes_eq (spelling_argument s) argument)) [
  | inl same ↦ inr (rw (← (bytes_eq-Decides (spelling_argument s) argument).0 same) new)
  | inr other ↦ elim (past argument) [
    | inl none ↦ inl (new_end argument earlier s other none)
    | inr none ↦ inr (rw other at none)
  ]
]

module _ (command : Shape) (options : List OptionRow) (has : HasOptions command options) where
  -- the state in which the next word is the option's value; all earlier words are settled
  abbrev waiting_for : ℕ → List ℕ → Held → Walk
  waiting_for position name h = record {
    held = record (settled command.rules h) { pending = Some (name, []) };
    waiting = option name;
    position = position;
    is_trailing = false;
    stopped = None;
  }

  -- the values found so far, with this value pending for its argument
  abbrev with_value : List ℕ → List ℕ → Held → Held
  with_value argument value h = record (settled command.rules h) { pending = Some (argument, value ∷ []) }

  -- the values found after a flag: nothing is pending
  abbrev pub with_flag : List ℕ → Held → Held
  with_flag name h = record h { rows = used (option_of (name, SetTrue)) [] (settled command.rules h).rows; pending = None }

  -- the values found after a value that follows `=`: nothing is pending
  abbrev with_joined : List ℕ → List ℕ → Held → Held
  with_joined name value h = record h { rows = used (option_of (name, Set)) (value ∷ []) (settled command.rules h).rows; pending = None }

  module _ (position : ℕ) (h : Held) where
    option_walks : (name : List ℕ) → Known command.rules (name, Set)
        → walked command.rules [] (resting position h) (option_word name) ≡ waiting_for position name h
    unfolding walked
    option_walks name k = rw (k.not_end, k.long_word, k.by_long) refl

    value_walks : (name value : List ℕ) → Known command.rules (name, Set) → Plain value
        → walked command.rules [] (waiting_for position name h) value ≡ resting position (with_value name value h)
    unfolding walked
    value_walks name value k p = rw (p.not_end, p.no_long, p.no_short, k.by_id, k.itself) refl

    joined_walks : (name value : List ℕ) → Known command.rules (name, Set)
        → walked command.rules [] (resting position h) (joined_word name value) ≡ resting position (with_joined name value h)
    unfolding walked
    joined_walks name value k = rw (k.joined_not_end value, k.joined_long value, k.by_long) refl

    flag_walks : (name : List ℕ) → Known command.rules (name, SetTrue)
        → walked command.rules [] (resting position h) (option_word name) ≡ resting position (with_flag name h)
    unfolding walked
    flag_walks name k = rw (k.not_end, k.long_word, k.by_long) refl

    -- no turn of the walk over an option finds a fault
    option_turn : (name : List ℕ) → Known command.rules (name, Set) → settle_fault command.rules false h ≡ []
        → turn_fault command [] (resting position h) (option_word name) ≡ []
    option_turn name k settles = rw (k.not_end, k.long_word, k.by_long, has.once, settles) refl

    value_turn : (name value : List ℕ) → Plain value → turn_fault command [] (waiting_for position name h) value ≡ []
    value_turn name value p = rw (p.not_end, p.no_long, p.no_short) refl

    joined_turn : (name value : List ℕ) → Known command.rules (name, Set) → settle_fault command.rules false h ≡ []
        → has_row name (settled_rows command.rules h.pending h.rows) ≡ false
        → turn_fault command [] (resting position h) (joined_word name value) ≡ []
    joined_turn name value k settles none = rw (k.joined_not_end value, k.joined_long value, k.by_long, has.once, settles, none) refl

    flag_turn : (name : List ℕ) → Known command.rules (name, SetTrue) → settle_fault command.rules false h ≡ []
        → has_row name (settled_rows command.rules h.pending h.rows) ≡ false
        → turn_fault command [] (resting position h) (option_word name) ≡ []
    flag_turn name k settles none = rw (k.not_end, k.long_word, k.by_long, has.once, settles, none) refl

  name_walks : (name : List ℕ) (h : Held) → Plain name
      → walked command.rules [] (resting 1 h) name ≡ resting 2 (with_value zero_page name h)
  unfolding walked
  name_walks name h p = rw (p.not_end, p.no_long, p.no_short, has.name_by_index, and_false (is_pending name_rule h.pending)) refl

  name_turn : (name : List ℕ) (h : Held) → Plain name → settle_fault command.rules false h ≡ []
      → turn_fault command [] (resting 1 h) name ≡ []
  name_turn name h p settles =
      rw (p.not_end, p.no_long, p.no_short, has.name_by_index, has.once, settles, and_false (is_pending name_rule h.pending)) refl

  -- What is pending can be settled, and then each spelling so far has its row. Until the zero page's
  -- name is read, the walk is at the first position of names.
  pub record Stands (earlier : List Spelling) (position : ℕ) (h : Held) : Type 0 where
    pub rows : settled_rows command.rules h.pending h.rows ≡ map row_of earlier
    pub settles : settle_fault command.rules false h ≡ []
    pub first : IsNew zero_page earlier → position ≡ 1

  -- ---- one spelling

  pub record Goes (earlier : List Spelling) (s : Spelling) (position : ℕ) (h : Held) : Type 0 where
    pub now : Held
    pub place : ℕ
    pub stands : Stands (earlier ++ s ∷ []) place now
    pub walk : (rest : List (List ℕ))
        → fold (walked command.rules []) (resting position h) (spelling_words s ++ rest)
        ≡ fold (walked command.rules []) (resting place now) rest
    pub fault : (rest : List (List ℕ))
        → walk_fault command [] (resting position h) (spelling_words s ++ rest) ≡ walk_fault command [] (resting place now) rest

  goes : (earlier : List Spelling) (s : Spelling) (position : ℕ) (h : Held) → IsSpelling options s → IsNew (spelling_argument s) earlier
      → Stands earlier position h → Goes earlier s position h
  unfolding walk_fault
  goes earlier (two_word_option name value) position h is new stands =
      let k = known command options has name is.0 in
      let p = plain value is.1 in
      let none = no_row name earlier new in
      let to_value = option_walks position h name k in
      let to_rest = value_walks position h name value k p in
      record {
        now = with_value name value h;
        place = position;
        stands = record {
          rows = rw (k.by_id, stands.rows) (rows_more earlier (two_word_option name value) new);
          settles = rw (k.by_id, stands.rows, none) refl;
          first = λ fresh. stands.first (new_before zero_page earlier (two_word_option name value) fresh);
        };
        walk = λ rest. ap (λ w. fold (walked command.rules []) w rest) (ap (λ w. walked command.rules [] w value) to_value ∙ to_rest);
        fault = λ rest. rw (option_turn position h name k stands.settles, to_value, value_turn position h name value p, to_rest) refl;
      }
  goes earlier (one_word_option name value) position h is new stands =
      let k = known command options has name is in
      let none = no_row name earlier new in
      let to_rest = joined_walks position h name value k in
      record {
        now = with_joined name value h;
        place = position;
        stands = record {
          rows = rw stands.rows (rows_more earlier (one_word_option name value) new);
          settles = refl;
          first = λ fresh. stands.first (new_before zero_page earlier (one_word_option name value) fresh);
        };
        walk = λ rest. ap (λ w. fold (walked command.rules []) w rest) to_rest;
        fault = λ rest. rw (joined_turn position h name value k stands.settles (rw stands.rows none), to_rest) refl;
      }
  goes earlier (flag name) position h is new stands =
      let k = flag_known command options has name is in
      let none = no_row name earlier new in
      let to_rest = flag_walks position h name k in
      record {
        now = with_flag name h;
        place = position;
        stands = record {
          rows = rw stands.rows (rows_more earlier (flag name) new);
          settles = refl;
          first = λ fresh. stands.first (new_before zero_page earlier (flag name) fresh);
        };
        walk = λ rest. ap (λ w. fold (walked command.rules []) w rest) to_rest;
        fault = λ rest. rw (flag_turn position h name k stands.settles (rw stands.rows none), to_rest) refl;
      }
  goes earlier (named name) position h is new stands =
      let p = plain name is in
      let none = no_row zero_page earlier new in
      let at_first = stands.first new in
      let to_rest = name_walks name h p in
      record {
        now = with_value zero_page name h;
        place = 2;
        stands = record {
          rows = rw (has.name_by_id, stands.rows) (rows_more earlier (named name) new);
          settles = rw (has.name_by_id, stands.rows, none) refl;
          first = λ fresh. absurd (not_new earlier name fresh);
        };
        walk = λ rest. rw at_first (ap (λ w. fold (walked command.rules []) w rest) to_rest);
        fault = λ rest. rw (at_first, name_turn name h p stands.settles, to_rest) refl;
      }

  pub record Walks (earlier ss : List Spelling) (position : ℕ) (h : Held) : Type 0 where
    pub now : Held
    pub place : ℕ
    pub stands : Stands (earlier ++ ss) place now
    pub walk : fold (walked command.rules []) (resting position h) (words_of_spellings ss) ≡ resting place now
    pub fault : walk_fault command [] (resting position h) (words_of_spellings ss) ≡ []

  pub walks : (earlier ss : List Spelling) (position : ℕ) (h : Held) → Stands earlier position h → Past earlier ss
      → AreSpellings options ss → Walks earlier ss position h
  unfolding walk_fault
  walks earlier [] position h stands past are = record {
    now = h;
    place = position;
    stands = rw (append-nil earlier) stands;
    walk = refl;
    fault = refl;
  }
  walks earlier (s ∷ ss) position h stands past are =
      let step = goes earlier s position h are.0 (first_new earlier s ss past) stands in
      let more = walks (earlier ++ s ∷ []) ss step.place step.now step.stands (past_more earlier s ss are.1 past) are.2 in
      record {
        now = more.now;
        place = more.place;
        stands = rw (← append_assoc earlier (s ∷ []) ss) more.stands;
        walk = step.walk (words_of_spellings ss) ∙ more.walk;
        fault = step.fault (words_of_spellings ss) ∙ more.fault;
      }
