-- The report `crash`: where the crash area (`crashkernel=`) is reserved, or why it isn't, as lines
-- of this project's own.
use Rattle.std.specs.Prelude.{ℕ, Option, Some, None, List, [], ◌++◌, codes}
use Rattle.bm_base.specs.Range.{RangeView}
use Rattle.crash_kernel.specs.declared.crash.Crash.{Crash}
use Rattle.crash_kernel.specs.declared.crash.Crash.TheVariants as crash
use Rattle.report_memory.specs.Lines.{range_text}

-- the line of the crash area's low part, a further range below 4 GiB; nothing if there is none
abbrev pub crash_low_line : Option RangeView → List ℕ
crash_low_line None = []
crash_low_line (Some low) = codes "crash low " ++ range_text low ++ codes "\n"

-- the report `crash`: a line with the range of the area, and then a line with the separate range
-- below 4 GiB, if there is one. Without an area one line says why: `none` if none was requested, or
-- what failed.
abbrev pub crash_text : Crash → List ℕ
crash_text crash.Nothing = codes "crash none\n"
crash_text (crash.At main low) = codes "crash at " ++ range_text main ++ codes "\n" ++ crash_low_line low
crash_text crash.NoArea = codes "crash no area\n"
crash_text crash.InUse = codes "crash in use\n"
crash_text crash.LowFailed = codes "crash low failed\n"
