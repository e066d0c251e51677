-- The forms of a line of a page script: which words may follow the first, and the command that they
-- spell. The form of a line is checked before its numbers.
use Rattle.std.specs.Prelude.{ℕ, if◌then◌else◌, List, codes, Result, Ok, Err}
use Rattle.std.specs.Str.{bytes_eq}
use Rattle.bm_base.specs.declared.zone.Zone.{Zone}
use Rattle.bm_base.specs.declared.zone.Zone.TheVariants as zones
use Rattle.bm_base.specs.ResultSteps.{◌>>=◌}
use Rattle.script_reader.specs.declared.fault.ScriptLineFault.{ScriptLineFault}
use Rattle.script_reader.specs.declared.fault.ScriptLineFault.TheVariants as wrong
use Rattle.script_reader.specs.Numbers.{Words, first_word, one_word, number_within}
use Rattle.script_reader.specs.Forms.{greatest_id, greatest_node}
use Rattle.page_alloc.specs.declared.act.PageAct.{PageAct}
use Rattle.page_alloc.specs.declared.act.PageAct.TheVariants as acts

-- the largest order of a block
abbrev pub greatest_order : ℕ
greatest_order = 10

-- the zone that the kernel calls by this name
abbrev pub zone_by_name : List ℕ → Result Zone ScriptLineFault
zone_by_name word =
    if bytes_eq word (codes "DMA") then Ok zones.Dma else
    (if bytes_eq word (codes "DMA32") then Ok zones.Dma32 else
    (if bytes_eq word (codes "Normal") then Ok zones.Normal else Err wrong.Form))

-- the command of the line `pages ID ORDER NODE ZONE`, from the words after `pages`, or the line's
-- fault
abbrev pub pages_line : Words → Result PageAct ScriptLineFault
pages_line words = do
  id ← first_word words
  order ← first_word id.1
  node ← first_word order.1
  name ← one_word node.1
  zone ← zone_by_name name
  of_id ← number_within greatest_id id.0
  of_order ← number_within greatest_order order.0
  of_node ← number_within greatest_node node.0
  Ok (acts.Pages of_id of_order of_node zone)

-- the command of the line `near ID ORDER NODE`, from the words after `near`, or the line's fault
abbrev pub near_line : Words → Result PageAct ScriptLineFault
near_line words = do
  id ← first_word words
  order ← first_word id.1
  node ← one_word order.1
  of_id ← number_within greatest_id id.0
  of_order ← number_within greatest_order order.0
  of_node ← number_within greatest_node node
  Ok (acts.Near of_id of_order of_node)

-- the command of the line `give ID`, from the words after `give`, or the line's fault
abbrev pub give_line : Words → Result PageAct ScriptLineFault
give_line words = do
  said ← one_word words
  id ← number_within greatest_id said
  Ok (acts.Give id)

-- the command of a line, from its first word `name` and the words after it, or the line's fault
abbrev pub page_act_by_name : List ℕ → Words → Result PageAct ScriptLineFault
page_act_by_name name words =
    if bytes_eq name (codes "pages") then pages_line words else
    (if bytes_eq name (codes "near") then near_line words else
    (if bytes_eq name (codes "give") then give_line words else Err wrong.Form))
