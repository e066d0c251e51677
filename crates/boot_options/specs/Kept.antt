-- How the lists that the reader has built compare with those of the definitions. The reader lacks
-- a list if it ran out of memory for it.
use Rattle.std.specs.Prelude.{◌≡◌, ◌<◌, Option, Some, None, List, length, Result, Ok, Err, Vec}
use Rattle.std.specs.declared.alloc.Global.{Global}
use Rattle.bm_base.specs.declared.memory.Memory.{Memory}
use Rattle.boot_options.specs.declared.crash.CrashForm.{CrashForm}
use Rattle.boot_options.specs.declared.crash.CrashForm.TheVariants as forms
use Rattle.boot_options.specs.declared.crash.CrashRange.{CrashRange}
use Rattle.boot_options.specs.declared.crash.PlainRead.{PlainRead}
use Rattle.boot_options.specs.Crash.{CrashFormView, CrashPlainView, Plain, High, Low}

-- the reader has exactly the items of the second argument in its list; or it ran out of memory for
-- the list, and there is at least one item
abbrev pub KeepsItems : {A : Type 0} → Result (Vec A Global) Memory → List A → Type 0
KeepsItems (Ok kept) items = kept.items ≡ items
KeepsItems (Err memory) items = 0 < length items

-- the reader and the definition agree on a list of ranges: both find it malformed (None), or the
-- reader has exactly the definition's ranges, or it ran out of memory for them
abbrev pub KeepsRanges : Option (Result (Vec CrashRange Global) Memory) → Option (List CrashRange) → Type 0
KeepsRanges None said = said ≡ None
KeepsRanges (Some kept) None = ⊥
KeepsRanges (Some kept) (Some ranges) = KeepsItems kept ranges

-- the reader has this plain form, but may have run out of memory for its ranges
pub record KeepsPlain (kept : PlainRead) (form : CrashPlainView) : Type 0 where
  pub ranges : KeepsItems kept.ranges form.ranges
  pub base : kept.base ≡ form.base

-- the reader has the form that the definition gives for a value
abbrev pub KeepsFormOf : CrashForm → CrashFormView → Type 0
KeepsFormOf (forms.Plain kept) (Plain form) = KeepsPlain kept form
KeepsFormOf (forms.Plain kept) (High size) = ⊥
KeepsFormOf (forms.Plain kept) (Low size) = ⊥
KeepsFormOf (forms.High kept) said = said ≡ High kept
KeepsFormOf (forms.Low kept) said = said ≡ Low kept

-- the reader and the definition agree on a value of `crashkernel=`: both find it malformed (None),
-- or the reader has the definition's form, possibly without its ranges if memory ran out
abbrev pub KeepsForm : Option CrashForm → Option CrashFormView → Type 0
KeepsForm None said = said ≡ None
KeepsForm (Some kept) None = ⊥
KeepsForm (Some kept) (Some form) = KeepsFormOf kept form

-- the reader and the definition agree on the last plain form of `crashkernel=`: both have none, or
-- the reader has the definition's, possibly without its ranges if memory ran out
abbrev pub KeepsLast : Option PlainRead → Option CrashPlainView → Type 0
KeepsLast None said = said ≡ None
KeepsLast (Some kept) None = ⊥
KeepsLast (Some kept) (Some form) = KeepsPlain kept form
