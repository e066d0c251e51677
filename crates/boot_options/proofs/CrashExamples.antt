-- Worked examples of values of `crashkernel=`.
use Rattle.std.proofs.Common.{◌≡◌, ℕ, false, Some, None, Option, List, [], ◌∷◌, codes, Ok, Err, refl, arith, rules}
use Rattle.bm_base.specs.declared.memory.Memory.{Memory}
use Rattle.boot_options.specs.declared.crash.CrashRange.{CrashRange}
use Rattle.boot_options.specs.declared.crash.PlainRead.{PlainRead}
use Rattle.boot_options.specs.declared.fault.OptionFault.TheVariants as faults
use Rattle.boot_options.specs.Crash.{AreInOrder, High, IsPlain, Low, Plain, CrashPlainView, at_sign, colon, comma, dash, crash_form_of}
use Rattle.boot_options.specs.Spelling.{SpellsEnd, SpellsRange}
use Rattle.boot_options.specs.Kept.{KeepsPlain}
use Rattle.boot_options.specs.Options.{NumaOff, OfCrash, OptionsNeedMemory, options_of_words, crash_of, options_of, word_meaning}

abbrev range : ℕ → Option ℕ → ℕ → CrashRange
range start end size = record { start = start; end = end; size = size }

abbrev plain : List CrashRange → ℕ → CrashPlainView
plain ranges base = record { ranges = ranges; base = base }

marks : codes ":-,@" ≡ colon ∷ dash ∷ comma ∷ at_sign ∷ []
marks = refl

-- a size with a base, without one, and with a suffix
simple_values : (crash_form_of (codes "64M") ≡ Some (Plain (plain (range 0 None 0x4000000 ∷ []) 0)))
    × (crash_form_of (codes "16M@0x3080000") ≡ Some (Plain (plain (range 0 None 0x1000000 ∷ []) 0x3080000)))
    × (crash_form_of (codes "0") ≡ Some (Plain (plain (range 0 None 0 ∷ []) 0)))
    × (crash_form_of (codes "64M@0") ≡ crash_form_of (codes "64M"))
    × (crash_form_of (codes "512M,high") ≡ Some (High 0x20000000)) × (crash_form_of (codes "0,low") ≡ Some (Low 0))
unfolding crash_form_of
simple_values = (refl, refl, refl, refl, refl, refl)

-- ranges with a base and without; the last one may have no end
ranged_values : (crash_form_of (codes "0-64M:8M,64M-:16M")
    ≡ Some (Plain (plain (range 0 (Some 0x4000000) 0x800000 ∷ range 0x4000000 None 0x1000000 ∷ []) 0)))
    × (crash_form_of (codes "1G-2G:128M@1M") ≡ Some (Plain (plain (range 0x40000000 (Some 0x80000000) 0x8000000 ∷ []) 0x100000)))
    × (crash_form_of (codes "0-:0@0") ≡ Some (Plain (plain (range 0 None 0 ∷ []) 0)))
    × (crash_form_of (codes "8-:1,0-:2") ≡ Some (Plain (plain (range 8 None 1 ∷ range 0 None 2 ∷ []) 0)))
unfolding crash_form_of
ranged_values = (refl, refl, refl, refl)

-- malformed values: no size, a size that is too large, or other text after a size; an unknown
-- suffix, or two suffixes; ranges that are empty or incomplete, that have a base between them, or
-- that have a suffix
malformed_values : (crash_form_of [] ≡ None) × (crash_form_of (codes "x") ≡ None) × (crash_form_of (codes "64M@") ≡ None)
    × (crash_form_of (codes "@64M") ≡ None)
    × (crash_form_of (codes "64M,") ≡ None) × (crash_form_of (codes "64M,HIGH") ≡ None) × (crash_form_of (codes "64M,high,low") ≡ None)
    × (crash_form_of (codes "64M@1M,high") ≡ None) × (crash_form_of (codes "16E") ≡ None) × (crash_form_of (codes "64MB") ≡ None)
    × (crash_form_of (codes "64M-32M:8M") ≡ None) × (crash_form_of (codes "1-1:64M") ≡ None) × (crash_form_of (codes "0-:64M,") ≡ None)
    × (crash_form_of (codes "-1:64M") ≡ None) × (crash_form_of (codes "0:64M") ≡ None) × (crash_form_of (codes "0-1-2:64M") ≡ None)
    × (crash_form_of (codes "0-:1:2") ≡ None) × (crash_form_of (codes "0-:1@2@3") ≡ None)
    × (crash_form_of (codes "0-1M:8M@0,2M-:16M") ≡ None)
    × (crash_form_of (codes "0-:64M,high") ≡ None)
unfolding crash_form_of
malformed_values = (refl, refl, refl, refl, refl, refl, refl, refl, refl, refl, refl, refl, refl, refl, refl, refl, refl, refl, refl, refl)

-- the meaning of a word, and the options of all words: the last value of each form
said : (word_meaning 3 (codes "crashkernel", Some (codes "7,low")) ≡ Ok (OfCrash (Low 7)))
    × (word_meaning 3 (codes "crashkernel", Some (codes "7,")) ≡ Err (faults.BadCrash 3))
    × (word_meaning 3 (codes "crashkernel", None) ≡ Err (faults.BadCrash 3)) × (crash_of (codes "7,low") ≡ Some (OfCrash (Low 7)))
unfolding crash_form_of
said = (refl, refl, refl, refl)

-- the last value of each form counts; the fault of the lowest malformed word is reported
whole_lines : (options_of (codes "crashkernel=64M crashkernel=512M,high crashkernel=0")
    ≡ Ok (record {
      edits = [];
      crash = record { plain = Some (plain (range 0 None 0 ∷ []) 0); high = Some 0x20000000; low = None };
      numa_off = false;
      add_efi = false;
    }))
    × (options_of (codes "crashkernel=64M-32M:8M mem=0") ≡ Err (faults.BadCrash 1))
unfolding crash_form_of
whole_lines = (refl, refl)

-- which lists of ranges a plain form may have
in_order_or_not : AreInOrder (range 0 (Some 1) 5 ∷ range 0 None 5 ∷ []) × (AreInOrder (range 1 (Some 1) 5 ∷ []) → ⊥)
in_order_or_not = ((omega arith, (tt, tt)), λ are. let above = are.0 in omega arith)

is_plain : IsPlain (plain (range 0 None 0 ∷ []) 0) × (IsPlain (plain [] 0) → ⊥)
is_plain = (record { some = omega arith; order = (tt, tt) }, λ is. let some = is.some in omega arith)

wants_some : OptionsNeedMemory (options_of_words ((1, OfCrash (Plain (plain [] 0))) ∷ []))
    × (OptionsNeedMemory (options_of_words ((1, NumaOff) ∷ [])) → ⊥)
wants_some = (search rules, λ wants. grind (arith, wants))

-- a plain form for whose range the reader ran out of memory
abbrev lost : Memory → PlainRead
lost m = record { ranges = Err m; base = 5 }

still_kept : (m : Memory) → KeepsPlain (lost m) (plain (range 0 None 1 ∷ []) 5)
    × (KeepsPlain (lost m) (plain (range 0 None 1 ∷ []) 6) → ⊥)
still_kept m = (record { ranges = omega arith; base = refl }, λ keeps. let base = keeps.base in omega arith)

spelled_ends : SpellsEnd (codes "2K") (Some 2048) 5 × SpellsEnd [] None 5 × (SpellsEnd (codes "5") (Some 5) 5 → ⊥)
spelled_ends = ((refl, omega arith), refl, λ spells. let above = spells.1 in omega arith)

spelled_range : SpellsRange (codes "1M-2M:8M") (range 0x100000 (Some 0x200000) 0x800000)
spelled_range = record {
  start_text = codes "1M";
  end_text = codes "2M";
  size_text = codes "8M";
  text = refl;
  start = refl;
  end = (refl, omega arith);
  size = refl;
}
