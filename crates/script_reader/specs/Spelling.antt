-- How a user writes a line of an early script: the form of its words, and the conditions on its
-- numbers.
use Rattle.std.specs.Prelude.{◌≡◌, ℕ, ◌+◌, ◌^◌, ◌<◌, Bool, true, false, IsTrue, List, [], ◌∷◌, ◌++◌, codes, Option, Some, None, IfSome, unwrap_or}
use Rattle.std.specs.Int.{is_power_of_two}
use Rattle.std.specs.Option.{option_map}
use Rattle.script_reader.specs.declared.act.Act.{Act}
use Rattle.script_reader.specs.declared.act.Act.TheVariants as acts
use Rattle.script_reader.specs.declared.fault.ScriptLineFault.{ScriptLineFault}
use Rattle.script_reader.specs.declared.fault.ScriptLineFault.TheVariants as wrong
use Rattle.script_reader.specs.Numbers.{Words}
use Rattle.script_reader.specs.Forms.{greatest_u64, greatest_id, greatest_node, greatest_byte, greatest_len}
use Rattle.script_reader.specs.Grammar.{IsWithin, value_of_word, Grammar, SpellsNumbers}

-- how a line names a node: not at all, as `node N`, or as `node N exact`
pub data NodeWords : Type 0 where
  no_node : NodeWords
  near_node : (node : List ℕ) → NodeWords
  exact_node : (node : List ℕ) → NodeWords

-- the form of a line, in which each number is still an arbitrary word
pub data LineForm : Type 0 where
  alloc : (id size align : List ℕ) (min max : Option (List ℕ)) (node : NodeWords) → LineForm
  reserve : (id base size : List ℕ) → LineForm
  free : (id : List ℕ) → LineForm
  trim : (id keep : List ℕ) → LineForm
  fill : (id byte : List ℕ) → LineForm
  peek : (address len : List ℕ) → LineForm
  sections : LineForm

-- a key and the word for its number, or no words if there is no number
abbrev pub key_with_word : List ℕ → Option (List ℕ) → Words
key_with_word key None = []
key_with_word key (Some word) = key ∷ word ∷ []

-- the words that name a node, or no words if no node is named
abbrev pub node_words : NodeWords → Words
node_words no_node = []
node_words (near_node node) = codes "node" ∷ node ∷ []
node_words (exact_node node) = codes "node" ∷ node ∷ codes "exact" ∷ []

-- the words of each form; the first is `alloc ID SIZE ALIGN [min A] [max A] [node N [exact]]`
abbrev pub words_of_form : LineForm → Words
words_of_form (alloc id size align min max node) =
    codes "alloc" ∷ id ∷ size ∷ align ∷ (key_with_word (codes "min") min ++ (key_with_word (codes "max") max ++ node_words node))
words_of_form (reserve id base size) = codes "reserve" ∷ id ∷ base ∷ size ∷ []
words_of_form (free id) = codes "free" ∷ id ∷ []
words_of_form (trim id keep) = codes "trim" ∷ id ∷ keep ∷ []
words_of_form (fill id byte) = codes "fill" ∷ id ∷ byte ∷ []
words_of_form (peek address len) = codes "peek" ∷ address ∷ len ∷ []
words_of_form sections = codes "sections" ∷ []

-- the word for the node's number, if a node is named
abbrev pub node_number_word : NodeWords → Option (List ℕ)
node_number_word no_node = None
node_number_word (near_node node) = Some node
node_number_word (exact_node node) = Some node

-- whether `exact` follows the number of the node
abbrev pub is_exact : NodeWords → Bool
is_exact no_node = false
is_exact (near_node node) = false
is_exact (exact_node node) = true

-- each number of the form is a size within its limit
abbrev pub HasLineNumbers : LineForm → Type 0
HasLineNumbers (alloc id size align min max node) = IsWithin greatest_id id × IsWithin greatest_u64 size × IsWithin greatest_u64 align
    × IfSome min (IsWithin greatest_u64) × IfSome max (IsWithin greatest_u64) × IfSome (node_number_word node) (IsWithin greatest_node)
HasLineNumbers (reserve id base size) = IsWithin greatest_id id × IsWithin greatest_u64 base × IsWithin greatest_u64 size
HasLineNumbers (free id) = IsWithin greatest_id id
HasLineNumbers (trim id keep) = IsWithin greatest_id id × IsWithin greatest_u64 keep
HasLineNumbers (fill id byte) = IsWithin greatest_id id × IsWithin greatest_byte byte
HasLineNumbers (peek address len) = IsWithin greatest_u64 address × IsWithin greatest_len len
HasLineNumbers sections = Unit {0}

-- the act of a form whose words for numbers are sizes. Without `min` the lowest address is 0.
-- Without `max` there is no highest end, and without `node` no node is preferred.
abbrev pub act_of_form : LineForm → Act
act_of_form (alloc id size align min max node) = acts.Alloc (value_of_word id) (record {
  size = value_of_word size;
  align = value_of_word align;
  min = unwrap_or (option_map value_of_word min) 0;
  max = option_map value_of_word max;
  node = option_map value_of_word (node_number_word node);
  exact = is_exact node;
})
act_of_form (reserve id base size) = acts.Reserve (value_of_word id) (record { base = value_of_word base; size = value_of_word size })
act_of_form (free id) = acts.Free (value_of_word id)
act_of_form (trim id keep) = acts.Trim (value_of_word id) (value_of_word keep)
act_of_form (fill id byte) = acts.Fill (value_of_word id) (value_of_word byte)
act_of_form (peek address len) = acts.Peek (value_of_word address) (value_of_word len)
act_of_form sections = acts.Sections

-- the alignment of the act, if it has one, is a power of two
abbrev pub IsAligned : Act → Type 0
IsAligned (acts.Alloc id request) = IsTrue (is_power_of_two request.align)
IsAligned act = Unit {0}

-- the SIZE, KEEP or LEN of the act, if it has one, isn't 0
abbrev pub HasSize : Act → Type 0
HasSize (acts.Alloc id request) = 0 < request.size
HasSize (acts.Reserve id range) = 0 < range.size
HasSize (acts.Trim id keep) = 0 < keep
HasSize (acts.Peek at len) = 0 < len
HasSize act = Unit {0}

-- the sum BASE + SIZE or ADDR + LEN of the act, if it has one, is at most 2^64 - 1
abbrev pub IsInSpace : Act → Type 0
IsInSpace (acts.Reserve id range) = range.base + range.size < 2 ^ 64
IsInSpace (acts.Peek at len) = at + len < 2 ^ 64
IsInSpace act = Unit {0}

-- the grammar of the lines of an early script
abbrev pub script_grammar : Grammar Act
script_grammar = record { Form = LineForm; words_of = words_of_form; HasNumbers = HasLineNumbers; act_of = act_of_form }

-- the words spell the act, and the act meets the conditions on its alignment, size and range
pub record SpellsAct (words : Words) (act : Act) : Type 0 where
  pub numbers : SpellsNumbers script_grammar words act
  pub aligned : IsAligned act
  pub size : HasSize act
  pub in_space : IsInSpace act

-- the fault is the first of the conditions on alignment, size and range that the act doesn't meet,
-- or that it is a second `sections`; `seen` is true if an earlier line is `sections`
abbrev pub Fails : Bool → Act → ScriptLineFault → Type 0
Fails seen act wrong.Form = ⊥
Fails seen act wrong.Number = ⊥
Fails seen act wrong.Align = ¬ (IsAligned act)
Fails seen act wrong.ZeroSize = IsAligned act × (¬ (HasSize act))
Fails seen act wrong.SecondSections = (act ≡ acts.Sections) × (seen ≡ true)
Fails seen act wrong.TooFar = IsAligned act × HasSize act × (¬ (IsInSpace act))
