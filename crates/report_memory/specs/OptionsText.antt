-- The report `options`: the options that the kernel's command line sets for the memory set-up, as
-- lines. The kernel prints no such list. The words are those of the calls in `parse_memmap_one`
-- (`e820__range_add`, `e820__range_remove`, `e820__range_update`); the formats are this project's
-- own.
use Rattle.std.specs.Prelude.{ℕ, Bool, if◌then◌else◌, Option, Some, None, List, [], ◌++◌, codes, decimal}
use Rattle.bm_base.specs.Text.{hex_text}
use Rattle.e820_model.specs.declared.entry.Edit.{Edit}
use Rattle.e820_model.specs.declared.entry.Edit.TheVariants as edits
use Rattle.boot_options.specs.declared.crash.CrashRange.{CrashRange}
use Rattle.boot_options.specs.Crash.{CrashOptionView, CrashPlainView}
use Rattle.boot_options.specs.Options.{OptionsView}
use Rattle.report_memory.specs.Lines.{indexed_lines, range_text}

-- the number of an address range's type (`enum e820_type`), and a space
abbrev pub kind_text : ℕ → List ℕ
kind_text kind = decimal kind ++ codes " "

-- the text of an edit of the map (from `mem=` or `memmap=`), as in `add 1
-- 0x0000000000100000..0x00000000001fffff`: what the edit does, the types that it names, and its
-- range
abbrev pub edit_text : Edit → List ℕ
edit_text (edits.Add range kind) = codes "add " ++ kind_text kind ++ range_text range
edit_text (edits.Remove range kind) = codes "remove " ++ kind_text kind ++ range_text range
edit_text (edits.RemoveAll range) = codes "remove-all " ++ range_text range
edit_text (edits.Change range from to) = codes "change " ++ kind_text from ++ kind_text to ++ range_text range
edit_text edits.Clear = codes "clear"

-- the line of an edit of the map; the index `n` isn't printed
abbrev pub edit_line : ℕ → Edit → List ℕ
edit_line n edit = edit_text edit ++ codes "\n"

-- the text of the end of a range of total memory in `crashkernel=`, in bytes; `-` if the range has
-- no end
abbrev pub crash_end_text : Option ℕ → List ℕ
crash_end_text None = codes "-"
crash_end_text (Some end) = hex_text end

-- the text of one range of `crashkernel=RANGE:SIZE,..`: START, END and SIZE in bytes. A machine
-- whose total memory is at least START and below END gets a crash area of SIZE.
unfoldable pub crash_range_text : CrashRange → List ℕ
crash_range_text range = hex_text range.start ++ codes " " ++ crash_end_text range.end ++ codes " " ++ hex_text range.size

-- the line of a range of `crashkernel=RANGE:SIZE,..[@BASE]`, with the base address of the area,
-- which is 0 if the kernel chooses the place; the index `n` isn't printed
abbrev pub crash_range_line : ℕ → ℕ → CrashRange → List ℕ
crash_range_line base n range = codes "crash range " ++ crash_range_text range ++ codes " base " ++ hex_text base ++ codes "\n"

-- a line for each range of `crashkernel=RANGE:SIZE,..[@BASE]`, or nothing if the command line
-- doesn't have this form
abbrev pub plain_lines : Option CrashPlainView → List ℕ
plain_lines None = []
plain_lines (Some plain) = indexed_lines (crash_range_line plain.base) 0 plain.ranges

-- a line with `word` and the size in bytes, or nothing if there is no size
abbrev pub crash_size_line : List ℕ → Option ℕ → List ℕ
crash_size_line word None = []
crash_size_line word (Some size) = word ++ hex_text size ++ codes "\n"

-- the lines of the requested crash area, for each form of the option that the command line has
abbrev pub crash_lines : CrashOptionView → List ℕ
crash_lines crash =
    plain_lines crash.plain ++ crash_size_line (codes "crash high ") crash.high ++ crash_size_line (codes "crash low ") crash.low

-- a line for `numa=off`, if the command line has it
abbrev pub numa_line : Bool → List ℕ
numa_line numa_off = if numa_off then codes "numa off\n" else []

-- a line for `add_efi_memmap`, if the command line has it
abbrev pub efi_line : Bool → List ℕ
efi_line add_efi = if add_efi then codes "efi add\n" else []

-- the report `options`: the edits of the map in the order of the command line, then the requested
-- crash area, then `numa=off`, and then `add_efi_memmap`
abbrev pub options_text : OptionsView → List ℕ
options_text chosen =
    indexed_lines edit_line 0 chosen.edits ++ crash_lines chosen.crash ++ numa_line chosen.numa_off ++ efi_line chosen.add_efi
