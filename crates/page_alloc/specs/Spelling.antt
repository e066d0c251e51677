-- How a user writes a line of a page script: the forms of its words, and the limits of its
-- numbers.
use Rattle.std.specs.Prelude.{ℕ, List, [], ◌∷◌, codes}
use Rattle.bm_base.specs.declared.zone.Zone.{Zone}
use Rattle.bm_base.specs.declared.zone.Zone.TheVariants as zones
use Rattle.script_reader.specs.Numbers.{Words}
use Rattle.script_reader.specs.Forms.{greatest_id, greatest_node}
use Rattle.script_reader.specs.Grammar.{IsWithin, value_of_word, Grammar}
use Rattle.page_alloc.specs.declared.act.PageAct.{PageAct}
use Rattle.page_alloc.specs.declared.act.PageAct.TheVariants as acts
use Rattle.page_alloc.specs.Forms.{greatest_order}
use Rattle.bm_base.specs.Zones.{zone_name}

-- a form of a line, with any word in place of each number: `pages` allocates from one zone, `near`
-- from the first zone in the node's zone list that has a block, and `give` frees
pub data PageForm : Type 0 where
  pages : (id order node : List ℕ) (zone : Zone) → PageForm
  near : (id order node : List ℕ) → PageForm
  give : (id : List ℕ) → PageForm

-- the words of a line that has this form
abbrev pub page_words_of : PageForm → Words
page_words_of (pages id order node zone) = codes "pages" ∷ id ∷ order ∷ node ∷ zone_name zone ∷ []
page_words_of (near id order node) = codes "near" ∷ id ∷ order ∷ node ∷ []
page_words_of (give id) = codes "give" ∷ id ∷ []

-- each number word of the form is written as a size and is within its limit
abbrev pub HasPageScriptNumbers : PageForm → Type 0
HasPageScriptNumbers (pages id order node zone) = IsWithin greatest_id id × IsWithin greatest_order order × IsWithin greatest_node node
HasPageScriptNumbers (near id order node) = IsWithin greatest_id id × IsWithin greatest_order order × IsWithin greatest_node node
HasPageScriptNumbers (give id) = IsWithin greatest_id id

-- the command that a form spells, if its number words are sizes
abbrev pub page_act_of : PageForm → PageAct
page_act_of (pages id order node zone) = acts.Pages (value_of_word id) (value_of_word order) (value_of_word node) zone
page_act_of (near id order node) = acts.Near (value_of_word id) (value_of_word order) (value_of_word node)
page_act_of (give id) = acts.Give (value_of_word id)

-- the grammar of a line of a page script, as a user writes it
abbrev pub page_grammar : Grammar PageAct
page_grammar = record { Form = PageForm; words_of = page_words_of; HasNumbers = HasPageScriptNumbers; act_of = page_act_of }
