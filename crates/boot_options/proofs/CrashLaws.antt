-- Reading the ranges of `crashkernel=` one by one: the ranges read before, followed by those of
-- the texts that remain.
use Rattle.std.proofs.Common.{◌≡◌, ℕ, Option, Some, None, List, [], ◌∷◌, ◌++◌, refl, ap, append_assoc}
use Rattle.bm_base.specs.OptionSteps.{◌>>=◌}
use Rattle.boot_options.specs.declared.crash.CrashRange.{CrashRange}
use Rattle.boot_options.specs.Crash.{crash_range_of, crash_ranges_of}

-- these ranges followed by the others, or None if the others are malformed
abbrev pub ranges_before : List CrashRange → Option (List CrashRange) → Option (List CrashRange)
ranges_before kept None = None
ranges_before kept (Some ranges) = Some (kept ++ ranges)

-- the first range that remains becomes the last one that was read
pub ranges_before-one : (kept : List CrashRange) (text : List ℕ) (texts : List (List ℕ)) (range : CrashRange)
    → crash_range_of text ≡ Some range
    → ranges_before (kept ++ range ∷ []) (crash_ranges_of texts) ≡ ranges_before kept (crash_ranges_of (text ∷ texts))
ranges_before-one kept text texts range is = rw is (by_others (crash_ranges_of texts))
  where
    by_others : (others : Option (List CrashRange))
        → ranges_before (kept ++ range ∷ []) others ≡ ranges_before kept (others >>= λ ranges. Some (range ∷ ranges))
    by_others None = refl
    by_others (Some others) = ap (λ (rs : List CrashRange). Some rs) (append_assoc kept (range ∷ []) others)
