-- A line of an early script is read as what it spells, and has the fault of the first condition
-- that it doesn't meet.
use Rattle.std.proofs.Common.{◌≡◌, ℕ, Bool, true, false, if◌then◌else◌, List, [], ◌∷◌, ◌++◌, codes, Option, Some, None, Result, Ok, Err, refl, ◌∙◌, ap, ◌⊎◌, ◌↔◌, inl, inr}
use Rattle.std.specs.Str.{bytes_eq}
use Rattle.std.proofs.lemmas.List.{append-nil}
use Rattle.std.proofs.lemmas.Slice.Eq.{bytes_eq-Decides}
use Rattle.bm_base.specs.ResultSteps.{◌>>=◌}
use Rattle.script_reader.specs.declared.act.Act.{Act}
use Rattle.script_reader.specs.declared.act.Act.TheVariants as acts
use Rattle.script_reader.specs.declared.fault.ScriptLineFault.{ScriptLineFault}
use Rattle.script_reader.specs.declared.fault.ScriptLineFault.TheVariants as wrong
use Rattle.script_reader.specs.Forms.{greatest_u64, greatest_id, greatest_node, greatest_byte, greatest_len, optional_exact, alloc_words, alloc_line, sections_line, act_by_name}
use Rattle.script_reader.specs.Lines.{act_by_forms}
use Rattle.script_reader.specs.Numbers.{Words, word_after_key, check_not_zero, range_or_fault, check_power_of_two}
use Rattle.script_reader.specs.Grammar.{HasLineForm}
use Rattle.script_reader.specs.Spelling.{NodeWords, no_node, near_node, exact_node, LineForm, alloc, reserve, free, trim, fill, peek, sections, key_with_word, node_words, words_of_form, node_number_word, is_exact, HasLineNumbers, act_of_form, IsAligned, HasSize, IsInSpace, script_grammar, SpellsAct, Fails}
use Rattle.script_reader.proofs.GrammarLaws.{Reads, act_read as act_read_by}
use Rattle.script_reader.proofs.StepLaws.{passed, failed, within_or, number_or, optional_or, power_or, some_or, range_or, is_key, at_end, one_or, two_or, three_or, optional_spelled}

abbrev node_of : Option (List ℕ) → Bool → NodeWords
node_of None exact = no_node
node_of (Some node) false = near_node node
node_of (Some node) true = exact_node node

node_spelled : (node : Option (List ℕ)) (words : Words)
    → key_with_word (codes "node") node ++ words
    ≡ node_words (node_of node (optional_exact node words).0) ++ (optional_exact node words).1
node_spelled None words = refl
node_spelled (Some node) [] = refl
node_spelled (Some node) (w ∷ ws) = by_test (bytes_eq w (codes "exact")) refl
  where
    by_test : (t : Bool) → bytes_eq w (codes "exact") ≡ t
        → key_with_word (codes "node") (Some node) ++ (w ∷ ws)
        ≡ node_words (node_of (Some node) (optional_exact (Some node) (w ∷ ws)).0) ++ (optional_exact (Some node) (w ∷ ws)).1
    by_test true is = rw is (ap (λ (k : List ℕ). codes "node" ∷ node ∷ k ∷ ws) ((bytes_eq-Decides w (codes "exact")).0 is))
    by_test false isnt = rw isnt refl

alloc_form : (words : Words) → HasLineForm script_grammar (codes "alloc" ∷ words) ⊎ (alloc_line words ≡ Err wrong.Form)
alloc_form [] = inr refl
alloc_form (i ∷ []) = inr refl
alloc_form (i ∷ s ∷ []) = inr refl
alloc_form (i ∷ s ∷ a ∷ words) =
    let min = word_after_key (codes "min") words in
    let max = word_after_key (codes "max") min.1 in
    let node = word_after_key (codes "node") max.1 in
    let exact = optional_exact node.0 node.1 in
    elim (at_end exact.1) [
      | inl ends ↦ inl (
        alloc i s a min.0 max.0 (node_of node.0 exact.0),
        ap (λ (ws : Words). codes "alloc" ∷ i ∷ s ∷ a ∷ ws)
            (optional_spelled (codes "min") words
            ∙ ap (λ (ws : Words). key_with_word (codes "min") min.0 ++ ws)
            (optional_spelled (codes "max") min.1
            ∙ ap (λ (ws : Words). key_with_word (codes "max") max.0 ++ ws)
            (optional_spelled (codes "node") max.1 ∙ (node_spelled node.0 node.1
            ∙ (ap (λ (ws : Words). node_words (node_of node.0 exact.0) ++ ws) ends ∙ append-nil (node_words (node_of node.0 exact.0))))))),
      )
      | inr more ↦ inr (rw more refl)
    ]

sections_form : (seen : Bool) (words : Words) → HasLineForm script_grammar (codes "sections" ∷ words)
    ⊎ (sections_line seen words ≡ Err wrong.Form)
sections_form seen [] = inl (sections, refl)
sections_form seen (w ∷ ws) = inr refl

pub named : (seen : Bool) (name : List ℕ) (words : Words)
    → HasLineForm script_grammar (name ∷ words) ⊎ (act_by_name seen name words ≡ Err wrong.Form)
named seen name words =
    elim (is_key name (codes "alloc")) [
      | inl is ↦ rw is (alloc_form words)
      | inr alloc_not ↦ elim (is_key name (codes "reserve")) [
        | inl is ↦ rw is (elim (three_or words) [
          | inl three ↦ inl (reserve three.0 three.1 three.2, ap (λ (ws : Words). codes "reserve" ∷ ws) three.3)
          | inr isnt ↦ inr (rw isnt refl)
        ])
        | inr reserve_not ↦ elim (is_key name (codes "free")) [
          | inl is ↦ rw is (elim (one_or words) [
            | inl one ↦ inl (free one.0, ap (λ (ws : Words). codes "free" ∷ ws) one.1)
            | inr isnt ↦ inr (rw isnt refl)
          ])
          | inr free_not ↦ elim (is_key name (codes "trim")) [
            | inl is ↦ rw is (elim (two_or words) [
              | inl two ↦ inl (trim two.0 two.1, ap (λ (ws : Words). codes "trim" ∷ ws) two.2)
              | inr isnt ↦ inr (rw isnt refl)
            ])
            | inr trim_not ↦ elim (is_key name (codes "fill")) [
              | inl is ↦ rw is (elim (two_or words) [
                | inl two ↦ inl (fill two.0 two.1, ap (λ (ws : Words). codes "fill" ∷ ws) two.2)
                | inr isnt ↦ inr (rw isnt refl)
              ])
              | inr fill_not ↦ elim (is_key name (codes "peek")) [
                | inl is ↦ rw is (elim (two_or words) [
                  | inl two ↦ inl (peek two.0 two.1, ap (λ (ws : Words). codes "peek" ∷ ws) two.2)
                  | inr isnt ↦ inr (rw isnt refl)
                ])
                | inr peek_not ↦ elim (is_key name (codes "sections")) [
                  | inl is ↦ rw is (sections_form seen words)
                  | inr sections_not ↦ inr (rw (alloc_not, reserve_not, free_not, trim_not, fill_not, peek_not, sections_not) refl)
                ]
              ]
            ]
          ]
        ]
      ]
    ]

-- the checks on an act whose numbers are right
abbrev checked : Bool → Act → Result Act ScriptLineFault
checked seen (acts.Alloc id request) = do
  align ← check_power_of_two request.align
  size ← check_not_zero request.size
  Ok (acts.Alloc id (record request { size = size; align = align }))
checked seen (acts.Reserve id range) = do
  size ← check_not_zero range.size
  range ← range_or_fault range.base size
  Ok (acts.Reserve id range)
checked seen (acts.Free id) = Ok (acts.Free id)
checked seen (acts.Trim id keep) = do
  large ← check_not_zero keep
  Ok (acts.Trim id large)
checked seen (acts.Fill id byte) = Ok (acts.Fill id byte)
checked seen (acts.Peek at len) = do
  large ← check_not_zero len
  range ← range_or_fault at large
  Ok (acts.Peek range.base range.size)
checked seen acts.Sections = if seen then Err wrong.SecondSections else Ok acts.Sections

alloc_said : (i s a : List ℕ) (min max : Option (List ℕ)) (node : NodeWords)
    → alloc_words (i ∷ s ∷ a ∷ (key_with_word (codes "min") min ++ (key_with_word (codes "max") max ++ node_words node)))
    ≡ Ok (record { id = i; size = s; align = a; min = min; max = max; node = node_number_word node; exact = is_exact node })
alloc_said i s a None None no_node = refl
alloc_said i s a None None node = refl
alloc_said i s a None max no_node = refl
alloc_said i s a None max node = refl
alloc_said i s a min None no_node = refl
alloc_said i s a min None node = refl
alloc_said i s a min max no_node = refl
alloc_said i s a min max node = refl

-- either all numbers of a form are right, or the line has the fault `Number`
pub numbers_or : (seen : Bool) (form : LineForm)
    → (HasLineNumbers form
    × (act_by_forms (act_by_name seen) (words_of_form form) ≡ (checked seen (act_of_form form) >>= λ act. Ok (Some act))))
    ⊎ ((¬ (HasLineNumbers form)) × (act_by_forms (act_by_name seen) (words_of_form form) ≡ Err wrong.Number))
numbers_or seen (alloc i s a min max node) =
    elim (within_or greatest_id i) [
      | inl id ↦ elim (number_or s) [
        | inl size ↦ elim (number_or a) [
          | inl align ↦ elim (optional_or greatest_u64 min) [
            | inl lower ↦ elim (optional_or greatest_u64 max) [
              | inl upper ↦ elim (optional_or greatest_node (node_number_word node)) [
                | inl on ↦ inl (
                  (id.0, size.0, align.0, lower.0, upper.0, on.0),
                  rw
                      (alloc_said i s a min max node, id.1, size.1, align.1, lower.1, upper.1, on.1) refl,
                )
                | inr bad ↦ inr (
                  λ good.
                      bad.0 good.5,
                  rw (alloc_said i s a min max node, id.1, size.1, align.1, lower.1, upper.1, bad.1) refl,
                )
              ]
              | inr bad ↦ inr (λ good. bad.0 good.4, rw (alloc_said i s a min max node, id.1, size.1, align.1, lower.1, bad.1) refl)
            ]
            | inr bad ↦ inr (λ good. bad.0 good.3, rw (alloc_said i s a min max node, id.1, size.1, align.1, bad.1) refl)
          ]
          | inr bad ↦ inr (λ good. bad.0 good.2, rw (alloc_said i s a min max node, id.1, size.1, bad.1) refl)
        ]
        | inr bad ↦ inr (λ good. bad.0 good.1, rw (alloc_said i s a min max node, id.1, bad.1) refl)
      ]
      | inr bad ↦ inr (λ good. bad.0 good.0, rw (alloc_said i s a min max node, bad.1) refl)
    ]
numbers_or seen (reserve i b s) =
    elim (within_or greatest_id i) [
      | inl id ↦ elim (number_or b) [
        | inl base ↦ elim (number_or s) [
          | inl size ↦ inl ((id.0, base.0, size.0), rw (id.1, base.1, size.1) refl)
          | inr bad ↦ inr (λ good. bad.0 good.2, rw (id.1, base.1, bad.1) refl)
        ]
        | inr bad ↦ inr (λ good. bad.0 good.1, rw (id.1, bad.1) refl)
      ]
      | inr bad ↦ inr (λ good. bad.0 good.0, rw bad.1 refl)
    ]
numbers_or seen (free i) =
    elim (within_or greatest_id i) [
      | inl id ↦ inl (id.0, rw id.1 refl)
      | inr bad ↦ inr (bad.0, rw bad.1 refl)
    ]
numbers_or seen (trim i k) =
    elim (within_or greatest_id i) [
      | inl id ↦ elim (number_or k) [
        | inl keep ↦ inl ((id.0, keep.0), rw (id.1, keep.1) refl)
        | inr bad ↦ inr (λ good. bad.0 good.1, rw (id.1, bad.1) refl)
      ]
      | inr bad ↦ inr (λ good. bad.0 good.0, rw bad.1 refl)
    ]
numbers_or seen (fill i b) =
    elim (within_or greatest_id i) [
      | inl id ↦ elim (within_or greatest_byte b) [
        | inl byte ↦ inl ((id.0, byte.0), rw (id.1, byte.1) refl)
        | inr bad ↦ inr (λ good. bad.0 good.1, rw (id.1, bad.1) refl)
      ]
      | inr bad ↦ inr (λ good. bad.0 good.0, rw bad.1 refl)
    ]
numbers_or seen (peek a l) =
    elim (number_or a) [
      | inl at ↦ elim (within_or greatest_len l) [
        | inl len ↦ inl ((at.0, len.0), rw (at.1, len.1) refl)
        | inr bad ↦ inr (λ good. bad.0 good.1, rw (at.1, bad.1) refl)
      ]
      | inr bad ↦ inr (λ good. bad.0 good.0, rw bad.1 refl)
    ]
numbers_or seen sections = inl (tt, refl)

-- the act passes all checks
pub record Passes (seen : Bool) (act : Act) : Type 0 where
  pub aligned : IsAligned act
  pub size : HasSize act
  pub in_space : IsInSpace act
  pub once : act ≡ acts.Sections → seen ≡ false

pub act_or : (seen : Bool) (act : Act)
    → (Passes seen act × (checked seen act ≡ Ok act)) ⊎ ((fault : ScriptLineFault) × Fails seen act fault × (checked seen act ≡ Err fault))
act_or seen (acts.Alloc id request) =
    elim (power_or request.align) [
      | inl check_power_of_two ↦ elim (some_or request.size) [
        | inl large ↦
            inl (
              record {
                aligned = check_power_of_two.0;
                size = large.0;
                in_space = tt;
                once = λ is. cc is;
              },
              rw (check_power_of_two.1, large.1) refl,
            )
        | inr bad ↦ inr (wrong.ZeroSize, (check_power_of_two.0, bad.0), rw (check_power_of_two.1, bad.1) refl)
      ]
      | inr bad ↦ inr (wrong.Align, bad.0, rw bad.1 refl)
    ]
act_or seen (acts.Reserve id range) =
    elim (some_or range.size) [
      | inl large ↦ elim (range_or range.base range.size) [
        | inl fits ↦ inl (record { aligned = tt; size = large.0; in_space = fits.0; once = λ is. cc is }, rw (large.1, fits.1) refl)
        | inr bad ↦ inr (wrong.TooFar, (tt, large.0, bad.0), rw (large.1, bad.1) refl)
      ]
      | inr bad ↦ inr (wrong.ZeroSize, (tt, bad.0), rw bad.1 refl)
    ]
act_or seen (acts.Free id) = inl (record { aligned = tt; size = tt; in_space = tt; once = λ is. cc is }, refl)
act_or seen (acts.Trim id keep) =
    elim (some_or keep) [
      | inl large ↦ inl (record { aligned = tt; size = large.0; in_space = tt; once = λ is. cc is }, rw large.1 refl)
      | inr bad ↦ inr (wrong.ZeroSize, (tt, bad.0), rw bad.1 refl)
    ]
act_or seen (acts.Fill id byte) = inl (record { aligned = tt; size = tt; in_space = tt; once = λ is. cc is }, refl)
act_or seen (acts.Peek at len) =
    elim (some_or len) [
      | inl large ↦ elim (range_or at len) [
        | inl fits ↦ inl (record { aligned = tt; size = large.0; in_space = fits.0; once = λ is. cc is }, rw (large.1, fits.1) refl)
        | inr bad ↦ inr (wrong.TooFar, (tt, large.0, bad.0), rw (large.1, bad.1) refl)
      ]
      | inr bad ↦ inr (wrong.ZeroSize, (tt, bad.0), rw bad.1 refl)
    ]
act_or true acts.Sections = inr (wrong.SecondSections, (refl, refl), refl)
act_or false acts.Sections = inl (record { aligned = tt; size = tt; in_space = tt; once = λ is. refl }, refl)

-- an act that passes all checks has no fault
passes_not : (seen : Bool) (act : Act) (fault : ScriptLineFault) → Passes seen act → Fails seen act fault → ⊥
passes_not seen act wrong.Form passes fails = fails
passes_not seen act wrong.Number passes fails = fails
passes_not seen act wrong.Align passes fails = fails passes.aligned
passes_not seen act wrong.ZeroSize passes fails = fails.1 passes.size
passes_not seen act wrong.SecondSections passes fails = let once : seen ≡ false = passes.once fails.0 in cc (once, fails.1)
passes_not seen act wrong.TooFar passes fails = fails.2 passes.in_space

pub checked_passes : (seen : Bool) (act : Act) → Passes seen act → checked seen act ≡ Ok act
checked_passes seen act passes =
    elim (act_or seen act) [ inl is ↦ is.1 | inr bad ↦ absurd (passes_not seen act bad.0 passes bad.1) ]

-- an act that fails a check has the fault of that check
pub checked_fails : (seen : Bool) (act : Act) (fault : ScriptLineFault) → Fails seen act fault → checked seen act ≡ Err fault
checked_fails seen act wrong.Form fails = absurd fails
checked_fails seen act wrong.Number fails = absurd fails
checked_fails seen (acts.Alloc id request) wrong.Align fails = rw (failed (power_or request.align) fails) refl
checked_fails seen act wrong.Align fails = absurd (fails tt)
checked_fails seen (acts.Alloc id request) wrong.ZeroSize fails =
    rw (passed (power_or request.align) fails.0, failed (some_or request.size) fails.1) refl
checked_fails seen (acts.Reserve id range) wrong.ZeroSize fails = rw (failed (some_or range.size) fails.1) refl
checked_fails seen (acts.Trim id keep) wrong.ZeroSize fails = rw (failed (some_or keep) fails.1) refl
checked_fails seen (acts.Peek at len) wrong.ZeroSize fails = rw (failed (some_or len) fails.1) refl
checked_fails seen act wrong.ZeroSize fails = absurd (fails.1 tt)
checked_fails seen act wrong.SecondSections fails = rw (fails.0, fails.1) refl
checked_fails seen (acts.Reserve id range) wrong.TooFar fails =
    rw (passed (some_or range.size) fails.1, failed (range_or range.base range.size) fails.2) refl
checked_fails seen (acts.Peek at len) wrong.TooFar fails =
    rw (passed (some_or len) fails.1, failed (range_or at len) fails.2) refl
checked_fails seen act wrong.TooFar fails = absurd (fails.2 tt)

-- an early script as a kind of script for the lemmas of `GrammarLaws`
abbrev pub script_reads : Bool → Reads Act
script_reads seen = record {
  forms = act_by_name seen;
  grammar = script_grammar;
  Passes = Passes seen;
  Fails = Fails seen;
  named = named seen;
  checked = checked seen;
  numbers = numbers_or seen;
  judged = act_or seen;
  passed = checked_passes seen;
  failed = checked_fails seen;
  not_form = λ act fails. fails;
  not_number = λ act fails. fails;
}

-- a line is read as an act exactly if its words spell it, and it isn't a second `sections`
pub act_read : (seen : Bool) (words : Words) (act : Act)
    → (act_by_forms (act_by_name seen) words ≡ Ok (Some act)) ↔ (SpellsAct words act × (act ≡ acts.Sections → seen ≡ false))
act_read seen words act =
    let read = act_read_by (script_reads seen) words act in (
      λ is. let found = read.0 is in (
        record { numbers = found.0; aligned = found.1.aligned; size = found.1.size; in_space = found.1.in_space },
        found.1.once,
      ),
      λ spelled. let spells = spelled.0 in read.1 (
        spells.numbers,
        record { aligned = spells.aligned; size = spells.size; in_space = spells.in_space; once = spelled.1 },
      ),
    )
