-- Each fact about a boot's inputs (`EntriesFit`, `HaveTypes`, `HaveBounds`, ..) has at most one
-- proof, so inputs with the same data are equal.
use Rattle.std.specs.Prelude.{IfSome, List, [], ◌∷◌, Option, Some, None}
use Rattle.std.specs.List.{All}
use Rattle.std.specs.Coded.{×_prop, Unit-prop, le_prop}
use Rattle.std.proofs.Math.Bool.{Bool-set}
use Rattle.e820_model.specs.declared.entry.Entry.{Entry}
use Rattle.e820_model.specs.declared.entry.Edit.{Edit}
use Rattle.e820_model.specs.declared.entry.Edit.TheVariants as edit
use Rattle.e820_model.specs.Claims.{EntriesFit, HaveTypes, HasTypes}
use Rattle.efi_map.specs.declared.efi.EfiMap.{EfiMap}
use Rattle.script_reader.specs.declared.act.Act.{Act}
use Rattle.script_reader.specs.declared.act.Act.TheVariants as acts
use Rattle.script_reader.specs.declared.act.Line.{Line}
use Rattle.script_reader.specs.Forms.{HasBounds}
use Rattle.early_script.specs.Effects.{CanBeRun}
use Rattle.page_alloc.specs.declared.act.PageAct.{PageAct}
use Rattle.page_alloc.specs.declared.act.PageAct.TheVariants as pages
use Rattle.page_alloc.specs.declared.act.PageLine.{PageLine}
use Rattle.page_alloc.specs.Pages.{HasValidOrder, HaveValidOrders}
use Rattle.early_script.specs.Lines.{PlacesSectionsOnce}

pub EntriesFit-prop : (entries : List Entry) → IsProp (EntriesFit entries)
EntriesFit-prop [] = Unit-prop
EntriesFit-prop (e ∷ es) = ×_prop le_prop (EntriesFit-prop es)

-- if there is an EFI map, the fact about its entries (`EntriesFit`) has at most one proof
pub efi_ends-prop : (efi : Option EfiMap) → IsProp (IfSome efi (λ map. EntriesFit map.entries.items))
efi_ends-prop None = Unit-prop
efi_ends-prop (Some map) = EntriesFit-prop map.entries.items

HasTypes-prop : (e : Edit) → IsProp (HasTypes e)
HasTypes-prop (edit.Add range kind) = le_prop
HasTypes-prop (edit.Remove range kind) = le_prop
HasTypes-prop (edit.RemoveAll range) = Unit-prop
HasTypes-prop (edit.Change range from to) = ×_prop le_prop le_prop
HasTypes-prop edit.Clear = Unit-prop

pub HaveTypes-prop : (edits : List Edit) → IsProp (HaveTypes edits)
HaveTypes-prop [] = Unit-prop
HaveTypes-prop (e ∷ es) = ×_prop (HasTypes-prop e) (HaveTypes-prop es)

-- the numbers in each line of the early script lie within their bounds
abbrev pub HaveBounds : List Line → Type 0
HaveBounds lines = All (λ line. HasBounds line.act) lines

HasBounds-prop : (act : Act) → IsProp (HasBounds act)
HasBounds-prop (acts.Alloc id request) = ×_prop le_prop (Bool-set _ _)
HasBounds-prop (acts.Reserve id range) = le_prop
HasBounds-prop (acts.Free id) = Unit-prop
HasBounds-prop (acts.Trim id keep) = le_prop
HasBounds-prop (acts.Fill id byte) = Unit-prop
HasBounds-prop (acts.Peek at len) = Prim.hlevel le_prop
HasBounds-prop acts.Sections = Unit-prop

pub HaveBounds-prop : (lines : List Line) → IsProp (HaveBounds lines)
HaveBounds-prop lines = Prim.hlevel HasBounds-prop

CanBeRun-prop : (act : Act) → IsProp (CanBeRun act)
CanBeRun-prop (acts.Alloc id request) = Unit-prop
CanBeRun-prop (acts.Reserve id range) = Unit-prop
CanBeRun-prop (acts.Free id) = Unit-prop
CanBeRun-prop (acts.Trim id keep) = Unit-prop
CanBeRun-prop (acts.Fill id byte) = Unit-prop
CanBeRun-prop (acts.Peek at len) = Unit-prop
CanBeRun-prop acts.Sections = Prim.hlevel Unit-prop

pub PlacesSectionsOnce-prop : (lines : List Line) → IsProp (PlacesSectionsOnce lines)
PlacesSectionsOnce-prop lines = Prim.hlevel CanBeRun-prop

-- no line is `sections`, the line that places the memory sections
abbrev pub HaveNoSections : List Line → Type 0
HaveNoSections lines = All (λ line. CanBeRun line.act) lines

pub HaveNoSections-prop : (lines : List Line) → IsProp (HaveNoSections lines)
HaveNoSections-prop lines = Prim.hlevel CanBeRun-prop

HasValidOrder-prop : (act : PageAct) → IsProp (HasValidOrder act)
HasValidOrder-prop (pages.Pages id order node zone) = le_prop
HasValidOrder-prop (pages.Near id order node) = le_prop
HasValidOrder-prop (pages.Give id) = Unit-prop

pub HaveValidOrders-prop : (lines : List PageLine) → IsProp (HaveValidOrders lines)
HaveValidOrders-prop [] = Unit-prop
HaveValidOrders-prop (l ∷ ls) = ×_prop (HasValidOrder-prop l.act) (HaveValidOrders-prop ls)
