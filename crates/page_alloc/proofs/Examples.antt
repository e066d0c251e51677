-- Worked examples: a frame that is allocated and freed, and small page scripts.
use Rattle.std.proofs.Common.{◌≡◌, ℕ, ◌/◌, ◌^◌, nat_le, nat_lt, false, ◌&&◌, Some, None, List, [], ◌∷◌, Ok, Err, codes, if◌then◌else◌, refl, sym, ◌∙◌, ap, subst, inl, inr, lit≤, arith}
use Rattle.std.proofs.lemmas.Bool.Decides.{nat_tests}
use Rattle.std.proofs.Math.Nat.{div-one}
use Rattle.std.proofs.lemmas.Bool.{cases_Bool}
use Rattle.std.specs.Option.{option_map}
use Rattle.address_runs.specs.Edits.{IsEmptyFrom}
use Rattle.bm_base.specs.declared.zone.Zone.TheVariants as zones
use Rattle.bm_base.specs.Zones.{zone_of, zone_name}
use Rattle.text_words.specs.Words.{words_in}
use Rattle.text_words.specs.declared.separators.Separators.TheVariants as separators
use Rattle.buddy_blocks.specs.declared.block.Block.{Block}
use Rattle.buddy_blocks.specs.declared.run.TheConstants.{MAX_FRAMES}
use Rattle.buddy_blocks.specs.Frames.{Frames, IsBlock}
use Rattle.buddy_blocks.specs.PickedBlock.{IsPicked, picked_first_frame}
use Rattle.buddy_blocks.specs.Buddies.{without_set}
use Rattle.buddy_blocks.proofs.BuddyLaws.{one_at, without_is, in_set_or_not}
use Rattle.buddy_blocks.proofs.PickLaws.{picked_is, picked_none}
use Rattle.script_reader.specs.declared.fault.ScriptLineFault.TheVariants as wrong
use Rattle.script_reader.specs.Numbers.{Words}
use Rattle.script_reader.specs.Lines.{read_line}
use Rattle.script_reader.specs.Grammar.{HasLineForm, SpellsNumbers, NeverFails, HasWordsFault}
use Rattle.page_alloc.specs.declared.act.PageAct.TheVariants as acts
use Rattle.page_alloc.specs.declared.act.PageLine.{PageLine}
use Rattle.page_alloc.specs.declared.reading.PageFault.TheVariants as faults
use Rattle.page_alloc.specs.declared.outcome.Held.{Held}
use Rattle.page_alloc.specs.declared.outcome.PageOutcome.{PageOutcome}
use Rattle.page_alloc.specs.declared.outcome.PageOutcome.TheVariants as outcomes
use Rattle.page_alloc.specs.Forms.{zone_by_name, pages_line, give_line}
use Rattle.page_alloc.specs.Spelling.{pages as pages_form, give as give_form, page_words_of, HasPageScriptNumbers, page_grammar}
use Rattle.page_alloc.specs.FramePlaces.{HoldsFrame, IsInOneBlockOrHeld, IsInNoBlockNorHeld, IsValidPageState}
use Rattle.page_alloc.specs.Pages.{PageState, first_page_state, with_held_frames, allocate_frames, free_held_frames, page_step, HasValidOrder, HaveValidOrders}
use Rattle.page_alloc.specs.Reading.{page_lines, page_lines_of}
use Rattle.page_alloc.proofs.KeptLaws.{Goes, in_one, in_none, begun_goes, begun_kept, step_goes, step_kept}

-- frame 5 alone is free, on node 7
abbrev lone : Frames
lone x = if nat_le 5 x && nat_lt x 6 then Some 7 else None

lone_at : (x n : ℕ) → lone x ≡ Some n → x ≡ 5
lone_at x n is =
    elim (cases_Bool (nat_le 5 x && nat_lt x 6)) as (λ _. x ≡ 5) [
      | inl on ↦ grind (arith, nat_tests)
      | inr off ↦ let none : None ≡ Some n = sym (rw off refl) ∙ is in cc
    ]

lone_low : IsEmptyFrom MAX_FRAMES lone
lone_low x high = let off : (nat_le 5 x && nat_lt x 6) ≡ false = grind (arith, nat_tests) in rw off refl

-- that frame is the block that is picked for one frame
lone_is : (x : ℕ) → x / 1 ≡ 5 → x ≡ 5
lone_is x same = sym (div-one x) ∙ same

abbrev block : Block
block = record { order = 0; first = 5; node = 7; zone = zones.Dma }

block_is : IsBlock lone block
block_is = record {
  small = omega arith;
  aligned = refl;
  good = λ x same. (ap lone (lone_is x same), ap zone_of (lone_is x same));
  whole = λ less good. let none : None ≡ Some 7 = (good 4 refl).0 in cc none;
}

block_is_picked : IsPicked lone 7 zones.Dma 0 block
block_is_picked = record {
  block = block_is;
  serves = record { node = refl; zone = refl; enough = omega arith };
  least = λ c is serves.
      let here : c.first ≡ 5 = lone_at c.first c.node (is.good c.first refl).0 in
      let same : block ≡ c = one_at lone block c block_is is (sym here) in
      inr (ap (λ (b : Block). b.order) same, let first = ap (λ (b : Block). b.first) same in omega (arith, first));
}

picked_first : picked_first_frame lone 7 zones.Dma 0 ≡ Some 5
picked_first = ap (option_map (λ (b : Block). b.first)) (picked_is lone 7 zones.Dma 0 block lone_low block_is_picked)

-- after that frame is allocated, no frame is free
nothing_left : (x : ℕ) → without_set 0 5 lone x ≡ None
nothing_left x = elim (in_set_or_not 0 5 x) as (λ _. without_set 0 5 lone x ≡ None) [
  | inl inside ↦ (without_is 0 5 lone).gone x inside
  | inr other ↦ elim (cases_Bool (nat_le 5 x && nat_lt x 6)) as (λ _. without_set 0 5 lone x ≡ None) [
    | inl on ↦
        let here : x ≡ 5 = grind (arith, nat_tests) in
        absurd (other (ap (λ y. y / 2 ^ 0) here))
    | inr off ↦ (without_is 0 5 lone).kept x other ∙ rw off refl
  ]
]

picked_none_left : picked_first_frame (without_set 0 5 lone) 7 zones.Dma 0 ≡ None
picked_none_left =
    ap (option_map (λ (b : Block). b.first)) (picked_none (without_set 0 5 lone) 7 zones.Dma 0 (λ x high. nothing_left x)
    (λ b is serves. cc (sym (is.good b.first refl).0 ∙ nothing_left b.first)))

-- what an ID holds
abbrev five : Held
five = record { first = 5; order = 0; node = 7 }

-- the state while ID 1 holds the frame
abbrev taken : PageState
taken = record { frames = without_set 0 5 lone; held = with_held_frames 1 (Some five) (λ id. None) }

abbrev at_five : PageOutcome × PageState
at_five = (outcomes.At 20480, taken)

-- the frame is free again on its node, and the ID holds nothing
back_examples : ((free_held_frames taken 1 (Some five)).0 ≡ outcomes.Done) × ((free_held_frames taken 1 (Some five)).1.frames 5 ≡ Some 7)
    × ((free_held_frames taken 1 (Some five)).1.held 1 ≡ None) × ((free_held_frames taken 2 None).0 ≡ outcomes.Unknown)
back_examples = (refl, refl, refl, refl)

-- the frame is allocated; another ID gets no block; the ID already holds frames; the frame is
-- freed; and then there is nothing to free
abbrev line : ℕ → PageLine
line n = record { number = n; act = acts.Pages n 0 7 zones.Dma }

abbrev give : ℕ → PageLine
give n = record { number = n; act = acts.Give 1 }

step_examples : (page_step (first_page_state lone) (acts.Pages 1 0 7 zones.Dma) ≡ at_five)
    × (page_step taken (acts.Pages 2 0 7 zones.Dma) ≡ (let p : PageOutcome × PageState = (outcomes.NoBlock, taken) in p))
    × (page_step taken (acts.Pages 1 0 7 zones.Dma) ≡ (let p : PageOutcome × PageState = (outcomes.Taken, taken) in p))
step_examples = (ap (allocate_frames (first_page_state lone) 1 0 7) picked_first, ap (allocate_frames taken 2 0 7) picked_none_left, refl)

order_examples : HasValidOrder (acts.Pages 1 10 7 zones.Dma) × (HasValidOrder (acts.Pages 1 11 7 zones.Dma) → ⊥)
    × HaveValidOrders (line 1 ∷ give 2 ∷ [])
order_examples = (omega arith, λ small. absurd (omega (arith, small)), (omega arith, (tt, tt)))

-- frame 5 is in a block at first, and then held by ID 1; frame 4 is neither
holds_examples : HoldsFrame taken 1 5 × (HoldsFrame taken 2 5 → ⊥)
holds_examples = (record { what = five; is = refl; inside = refl }, λ holds. let is = holds.is in cc is)

in_one_examples : IsInOneBlockOrHeld (first_page_state lone) 5 × IsInOneBlockOrHeld taken 5
in_one_examples = (
  in_one lone (first_page_state lone) 5 7 (begun_goes lone lone_low) refl,
  in_one lone taken 5 7
      (subst (λ (p : PageOutcome × PageState). Goes lone p.1) step_examples.0
      (step_goes lone (first_page_state lone) (acts.Pages 1 0 7 zones.Dma) (omega arith) (begun_goes lone lone_low))) refl,
)

in_none_examples : IsInNoBlockNorHeld (first_page_state lone) 4
in_none_examples = in_none lone (first_page_state lone) 4 (begun_goes lone lone_low) refl

kept_examples : IsValidPageState (first_page_state lone) × IsValidPageState taken
    × (IsValidPageState (record { frames = lone; held = with_held_frames 1 (Some five) (λ id. None) }) → ⊥)
kept_examples = (
  begun_kept lone lone_low,
  subst (λ (p : PageOutcome × PageState). IsValidPageState p.1) step_examples.0
      (step_kept (first_page_state lone) (acts.Pages 1 0 7 zones.Dma) (omega arith) (begun_kept lone lone_low)),
  λ kept. let none : Some 7 ≡ None = (kept.well 1 five refl).taken 5 refl in cc none,
)

-- the words of a line, or of the rest of one
abbrev in_words : List ℕ → Words
in_words text = words_in separators.Script text

zone_examples : (zone_by_name (codes "DMA") ≡ Ok zones.Dma) × (zone_by_name (codes "DMA32") ≡ Ok zones.Dma32)
    × (zone_by_name (codes "Normal") ≡ Ok zones.Normal) × (zone_by_name (codes "normal") ≡ Err wrong.Form)
zone_examples = (refl, refl, refl, refl)

-- a request; the form is checked before the numbers, and the name of the zone belongs to the form
request_example : pages_line (codes "1" ∷ codes "10" ∷ codes "1023" ∷ codes "Normal" ∷ []) ≡ Ok (acts.Pages 1 10 1023 zones.Normal)
request_example = refl

request_forms : (pages_line (codes "x" ∷ codes "11" ∷ codes "0" ∷ codes "dma" ∷ []) ≡ Err wrong.Form)
    × (pages_line (codes "x" ∷ codes "11" ∷ codes "0" ∷ []) ≡ Err wrong.Form)
    × (pages_line (codes "x" ∷ codes "11" ∷ codes "0" ∷ codes "DMA" ∷ codes "1" ∷ []) ≡ Err wrong.Form)
request_forms = (refl, refl, refl)

-- an ID has 32 bits, and a node is below 1,024
request_id : pages_line (codes "4294967296" ∷ codes "0" ∷ codes "0" ∷ codes "DMA" ∷ []) ≡ Err wrong.Number
request_id = refl

request_node : pages_line (codes "1" ∷ codes "0" ∷ codes "1024" ∷ codes "DMA" ∷ []) ≡ Err wrong.Number
request_node = refl

give_examples : (give_line (in_words (codes "4294967295")) ≡ Ok (acts.Give 4294967295))
    × (give_line (in_words (codes "4294967296")) ≡ Err wrong.Number) × (give_line (in_words (codes "x 1")) ≡ Err wrong.Form)
give_examples = (refl, refl, refl)

line_examples : (read_line page_lines false (codes "# give") ≡ Ok None) × (read_line page_lines false (codes "\t\r") ≡ Ok None)
    × (read_line page_lines false (codes " give\t1\r") ≡ Ok (Some (acts.Give 1)))
line_examples = (refl, refl, refl)

-- whole scripts: the last line may lack its newline; the fault of the lowest line is reported,
-- whatever lines follow
two_lines : page_lines_of (codes "give 1\n\n#\ngive 2") ≡ Ok (give 1 ∷ record { number = 4; act = acts.Give 2 } ∷ [])
two_lines = refl

no_lines : (page_lines_of [] ≡ Ok []) × (page_lines_of (codes "\n") ≡ Ok [])
no_lines = (refl, refl)

great_order : page_lines_of (codes "pages 1 11 0 DMA") ≡ Err (faults.BadNumber 1)
great_order = refl

lowest_fault : (page_lines_of (codes "give 1\ngive x\ngive\n") ≡ Err (faults.BadNumber 2))
    × (page_lines_of (codes "near 1\ngive x\n") ≡ Err (faults.BadLine 1))
lowest_fault = (refl, refl)

-- a form takes any word for a number, but a zone only by its name
spelled_forms : HasLineForm page_grammar (codes "give" ∷ codes "x" ∷ [])
    × HasLineForm page_grammar (codes "pages" ∷ codes "1" ∷ codes "0" ∷ codes "7" ∷ codes "DMA" ∷ [])
    × (zone_name zones.Normal ≡ codes "Normal") × (HasPageScriptNumbers (give_form (codes "x")) → ⊥)
    × (page_words_of (give_form (codes "1")) ≡ codes "give" ∷ codes "1" ∷ [])
spelled_forms = (
  (give_form (codes "x"), refl),
  (pages_form (codes "1") (codes "0") (codes "7") zones.Dma, refl),
  refl,
  λ is. cc (is.1),
  refl,
)

spelled_act : SpellsNumbers page_grammar (codes "give" ∷ codes "1" ∷ []) (acts.Give 1)
spelled_act = record { form = give_form (codes "1"); spelled = refl; numbers = (1, refl, lit≤ tt); asks = refl }

bad_number : HasWordsFault page_grammar NeverFails (codes "give" ∷ codes "x" ∷ []) wrong.Number
bad_number = (give_form (codes "x"), refl, λ is. cc (is.1))
