-- Defines which sections have memory, and the node of each (`memory_present`, `sparse_init`).
use Rattle.std.specs.Prelude.{◌≡◌, ℕ, zero, suc, ◌+◌, ◌*◌, ◌/◌, ◌%◌, ◌^◌, ◌<◌, ◌≤◌, Option, Some, None, List, [], ◌∷◌, ◌++◌, length, get_or}
use Rattle.std.specs.List.{All}
use Rattle.std.specs.Option.{option_or}
use Rattle.bm_base.specs.declared.range.TheConstants.{FRAME_SIZE}
use Rattle.address_runs.specs.Runs.{RunOf, run_end}
use Rattle.memblock_model.specs.Labels.{LabelView, Labels}
use Rattle.memblock_grow.specs.declared.stop.Section.{Section}

-- the label of the first frame that is memory, among the `n` frames from `frame` on; None if none
-- of them is
unfoldable pub label_of_first_memory_frame : Labels → ℕ → ℕ → Option LabelView
label_of_first_memory_frame f frame zero = None
label_of_first_memory_frame f frame (suc n) = option_or (f (FRAME_SIZE * frame)) (label_of_first_memory_frame f (frame + 1) n)

-- the label of the first frame that is memory, among the 32,768 frames of section `s`
abbrev pub section_label : Labels → ℕ → Option LabelView
section_label f s = label_of_first_memory_frame f (32768 * s) 32768

-- section `s` with its node, if it has memory: the node is that of its lowest frame of memory
abbrev pub section_if_on_node : ℕ → Option ℕ → List Section
section_if_on_node s None = []
section_if_on_node s (Some node) = record { number = s; node = node } ∷ []

abbrev pub section_with_label : ℕ → Option LabelView → List Section
section_with_label s None = []
section_with_label s (Some label) = section_if_on_node s label.node

-- the sections with memory whose number is below n
unfoldable pub sections_below : Labels → ℕ → List Section
sections_below f zero = []
sections_below f (suc n) = sections_below f n ++ section_with_label n (section_label f n)

-- all sections with memory. There are 2^25 sections: they end at address 2^52, the highest that
-- the kernel's memory model can have (`MAX_PHYSMEM_BITS`).
unfoldable pub present : Labels → List Section
present f = sections_below f (2 ^ 25)

-- n consecutive sections of one node, from number `first` on
unfoldable pub sections_from : ℕ → ℕ → ℕ → List Section
sections_from first zero node = []
sections_from first (suc n) node = sections_from first n node ++ record { number = first + n; node = node } ∷ []

-- the record of the memory table is whole frames with a node, and ends at or below address 2^52
pub record IsWholeFramesWithNode (r : RunOf LabelView) : Type 0 where
  pub node : ℕ
  pub has : r.value.node ≡ Some node
  pub base : r.base % FRAME_SIZE ≡ 0
  pub end : run_end r % FRAME_SIZE ≡ 0
  pub reach : run_end r ≤ 2 ^ 52

-- the section has memory, and its node is that of its lowest byte of memory
pub record HasNodeOfLowestByte (f : Labels) (s : Section) : Type 0 where
  pub byte : ℕ
  pub label : LabelView
  pub inside : byte / 0x8000000 ≡ s.number
  pub told : f byte ≡ Some label
  pub node : label.node ≡ Some s.node
  pub none : (x : ℕ) → x / 0x8000000 ≡ s.number → x < byte → f x ≡ None

-- the section at this index has this number
pub record IsSectionAt (ss : List Section) (i number : ℕ) : Type 0 where
  pub within : i < length ss
  pub is : (d : Section) → (get_or ss i d).number ≡ number

-- the sections are in ascending order, and lie below address 2^52
pub record AreSectionsInOrder (ss : List Section) : Type 0 where
  pub ascend : (i j : ℕ) (d : Section) → i < j → j < length ss → (get_or ss i d).number < (get_or ss j d).number
  pub below : All (λ s. s.number < 2 ^ 25) ss
  pub few : length ss ≤ 2 ^ 25
