-- Lemmas: a line of a page script is read as what it spells, and has the fault of the first
-- condition that it doesn't meet.
use Rattle.std.proofs.Common.{◌≡◌, ℕ, List, [], ◌∷◌, codes, Some, Ok, Err, refl, ◌⊎◌, inl, inr}
use Rattle.bm_base.specs.declared.zone.Zone.{Zone}
use Rattle.bm_base.specs.declared.zone.Zone.TheVariants as zones
use Rattle.script_reader.specs.declared.fault.ScriptLineFault.TheVariants as wrong
use Rattle.script_reader.specs.Numbers.{Words}
use Rattle.script_reader.specs.Forms.{greatest_id, greatest_node}
use Rattle.script_reader.specs.Lines.{act_by_forms}
use Rattle.script_reader.specs.Grammar.{HasLineForm, NeverFails}
use Rattle.script_reader.proofs.GrammarLaws.{Reads}
use Rattle.script_reader.proofs.StepLaws.{within_or, is_key, one_or}
use Rattle.page_alloc.specs.declared.act.PageAct.{PageAct}
use Rattle.page_alloc.specs.Forms.{greatest_order, zone_by_name, pages_line, near_line, give_line, page_act_by_name}
use Rattle.page_alloc.specs.Spelling.{PageForm, pages, near, give, page_words_of, HasPageScriptNumbers, page_act_of, page_grammar}
use Rattle.bm_base.specs.Zones.{zone_name}

-- a word is the word for a zone, or it names none
zone_or : (word : List ℕ) → ((zone : Zone) × (word ≡ zone_name zone)) ⊎ (zone_by_name word ≡ Err wrong.Form)
zone_or word =
    elim (is_key word (codes "DMA")) [
      | inl is ↦ inl (zones.Dma, is)
      | inr dma_not ↦ elim (is_key word (codes "DMA32")) [
        | inl is ↦ inl (zones.Dma32, is)
        | inr dma32_not ↦ elim (is_key word (codes "Normal")) [
          | inl is ↦ inl (zones.Normal, is)
          | inr normal_not ↦ inr (rw (dma_not, dma32_not, normal_not) refl)
        ]
      ]
    ]

zone_read : (zone : Zone) → zone_by_name (zone_name zone) ≡ Ok zone
zone_read zones.Dma = refl
zone_read zones.Dma32 = refl
zone_read zones.Normal = refl

-- words have a form of the grammar, or their fault is `Form`
pages_form : (words : Words) → HasLineForm page_grammar (codes "pages" ∷ words) ⊎ (pages_line words ≡ Err wrong.Form)
pages_form [] = inr refl
pages_form (i ∷ []) = inr refl
pages_form (i ∷ o ∷ []) = inr refl
pages_form (i ∷ o ∷ n ∷ words) =
    elim (one_or words) [
      | inl one ↦ elim (zone_or one.0) [
        | inl zone ↦ inl (pages i o n zone.0, rw (one.1, zone.1) refl)
        | inr bad ↦ inr (rw (one.1, bad) refl)
      ]
      | inr bad ↦ inr (rw bad refl)
    ]

near_form : (words : Words) → HasLineForm page_grammar (codes "near" ∷ words) ⊎ (near_line words ≡ Err wrong.Form)
near_form [] = inr refl
near_form (i ∷ []) = inr refl
near_form (i ∷ o ∷ words) =
    elim (one_or words) [
      | inl one ↦ inl (near i o one.0, rw one.1 refl)
      | inr bad ↦ inr (rw bad refl)
    ]

give_form : (words : Words) → HasLineForm page_grammar (codes "give" ∷ words) ⊎ (give_line words ≡ Err wrong.Form)
give_form words = elim (one_or words) [ inl one ↦ inl (give one.0, rw one.1 refl) | inr bad ↦ inr (rw bad refl) ]

pub named : (name : List ℕ) (words : Words) → HasLineForm page_grammar (name ∷ words) ⊎ (page_act_by_name name words ≡ Err wrong.Form)
named name words =
    elim (is_key name (codes "pages")) [
      | inl is ↦ rw is (pages_form words)
      | inr pages_not ↦ elim (is_key name (codes "near")) [
        | inl is ↦ rw is (near_form words)
        | inr near_not ↦ elim (is_key name (codes "give")) [
          | inl is ↦ rw is (give_form words)
          | inr give_not ↦ inr (rw (pages_not, near_not, give_not) refl)
        ]
      ]
    ]

-- a form spells its act, or has the fault `Number`
pub form_or : (form : PageForm)
    → (HasPageScriptNumbers form × (act_by_forms page_act_by_name (page_words_of form) ≡ Ok (Some (page_act_of form))))
    ⊎ ((¬ (HasPageScriptNumbers form)) × (act_by_forms page_act_by_name (page_words_of form) ≡ Err wrong.Number))
form_or (pages i o n zone) =
    elim (within_or greatest_id i) [
      | inl id ↦ elim (within_or greatest_order o) [
        | inl order ↦ elim (within_or greatest_node n) [
          | inl node ↦ inl ((id.0, order.0, node.0), rw (zone_read zone, id.1, order.1, node.1) refl)
          | inr bad ↦ inr (λ good. bad.0 good.2, rw (zone_read zone, id.1, order.1, bad.1) refl)
        ]
        | inr bad ↦ inr (λ good. bad.0 good.1, rw (zone_read zone, id.1, bad.1) refl)
      ]
      | inr bad ↦ inr (λ good. bad.0 good.0, rw (zone_read zone, bad.1) refl)
    ]
form_or (near i o n) =
    elim (within_or greatest_id i) [
      | inl id ↦ elim (within_or greatest_order o) [
        | inl order ↦ elim (within_or greatest_node n) [
          | inl node ↦ inl ((id.0, order.0, node.0), rw (id.1, order.1, node.1) refl)
          | inr bad ↦ inr (λ good. bad.0 good.2, rw (id.1, order.1, bad.1) refl)
        ]
        | inr bad ↦ inr (λ good. bad.0 good.1, rw (id.1, bad.1) refl)
      ]
      | inr bad ↦ inr (λ good. bad.0 good.0, rw bad.1 refl)
    ]
form_or (give i) =
    elim (within_or greatest_id i) [ inl id ↦ inl (id.0, rw id.1 refl) | inr bad ↦ inr (bad.0, rw bad.1 refl) ]

-- what the laws of lines need of the forms of a page script
abbrev pub page_reads : Reads PageAct
page_reads = record {
  forms = page_act_by_name;
  grammar = page_grammar;
  Passes = λ act. Unit {0};
  Fails = NeverFails;
  named = named;
  checked = λ act. Ok act;
  numbers = form_or;
  judged = λ act. inl (tt, refl);
  passed = λ act passes. refl;
  failed = λ act fault fails. absurd fails;
  not_form = λ act fails. fails;
  not_number = λ act fails. fails;
}
