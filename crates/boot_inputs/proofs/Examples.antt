-- Examples: small files, with the inputs or faults that the definitions give for them and the texts
-- of error lines.
use Rattle.std.proofs.Common.{◌≡◌, ℕ, ◌+◌, ◌*◌, ◌-◌, true, false, if◌then◌else◌, List, [], ◌∷◌, ◌++◌, codes, Option, Some, None, Ok, Err, refl}
use Rattle.std.specs.Prelude.{replicate}
use Rattle.std.specs.Str.{bytes_eq}
use Rattle.e820_model.specs.declared.entry.Entry.{Entry}
use Rattle.e820_table.specs.declared.zero_page.ZeroFault.TheVariants as zero
use Rattle.e820_table.specs.declared.extension.ExtFault.TheVariants as extension
use Rattle.e820_table.specs.Entries.{entry_at}
use Rattle.e820_table.specs.Initrd.{initrd_of, is_initrd_far}
use Rattle.boot_options.specs.Crash.{no_crash}
use Rattle.bm_base.specs.Range.{RangeView}
use Rattle.bm_base.specs.declared.width.Width.TheVariants.{Bits46}
use Rattle.boot_model.specs.Boot.{InputsView, inputs_without_files, no_options}
use Rattle.boot_options.specs.declared.fault.OptionFault.TheVariants as options
use Rattle.srat_reader.specs.declared.table.SratFault.TheVariants as srat
use Rattle.srat_reader.specs.Entries.{is_whole_entry, srat_entry_at}
use Rattle.srat_reader.specs.Table.{SratView, entry_offsets_from}
use Rattle.script_reader.specs.declared.act.Act.TheVariants as acts
use Rattle.script_reader.specs.declared.fault.ScriptFault.TheVariants as script
use Rattle.page_alloc.specs.declared.reading.PageFault.TheVariants as pages
use Rattle.slit_zonelists.specs.declared.table.SlitFault.TheVariants as slit
use Rattle.efi_map.specs.declared.efi.EfiFault.TheVariants as efi
use Rattle.efi_map.specs.Map.{descriptors_from}
use Rattle.boot_inputs.specs.declared.fault.Fault.TheVariants as faults
use Rattle.boot_inputs.specs.declared.input.Input.TheVariants as inputs
use Rattle.program_end.specs.declared.failure.Reason.TheVariants as reasons
use Rattle.boot_inputs.specs.Claims.{claims_limit, claims_or_fault}
use Rattle.boot_inputs.specs.CommandLine.{command_line, command_line_diagnostic}
use Rattle.boot_inputs.specs.Diagnostic.{Diagnostic}
use Rattle.boot_inputs.specs.Extension.{extension_diagnostic, extension_file}
use Rattle.boot_inputs.specs.Efi.{efi_diagnostic, efi_file, efi_map_in_frames, efi_or_fault, efi_needs_memory, put_efi}
use Rattle.boot_inputs.specs.Faults.{HasErrorLine, diagnostic_of}
use Rattle.boot_inputs.specs.Input.{input_word}
use Rattle.boot_inputs.specs.Inputs.{FileNames, input_files, inputs_of, inputs_after_named_file}
use Rattle.program_end.specs.Program.{FileContents}
use Rattle.boot_inputs.specs.Pages.{pages_diagnostic, pages_file, page_script_or_fault}
use Rattle.boot_inputs.specs.Reading.{are_read_later, are_in_reading_order}
use Rattle.boot_inputs.specs.Script.{script_or_fault, script_diagnostic, script_file}
use Rattle.boot_inputs.specs.Slit.{slit_or_fault, slit_diagnostic, slit_file}
use Rattle.boot_inputs.specs.Srat.{srat_diagnostic, srat_file, srat_or_fault}
use Rattle.boot_inputs.specs.WithClaims.{files_after_claims, files_before_claims, inputs_with_claims_of}
use Rattle.boot_inputs.specs.WithoutEfi.{IsBeforeFiles, LacksDescriptors, LacksEfiWord, has_efi_word}
use Rattle.boot_inputs.specs.ZeroPage.{zero_page, zero_page_diagnostic}

-- a zero page of `count` entries; the 40 bytes `entries` are the first two
abbrev page : ℕ → List ℕ → List ℕ
page count entries =
    replicate 0x1E8 0 ++ (count ∷ replicate (0x2D0 - 0x1E9) 0) ++ entries ++ replicate (4096 - 0x2D0 - 40) 0

-- one page of RAM at 4 KiB, and one reserved page after it
abbrev ram_and_reserved : List ℕ
ram_and_reserved =
    0 ∷ 0x10 ∷ 0 ∷ 0 ∷ 0 ∷ 0 ∷ 0 ∷ 0 ∷ 0 ∷ 0x10 ∷ 0 ∷ 0 ∷ 0 ∷ 0 ∷ 0 ∷ 0 ∷ 1 ∷ 0 ∷ 0 ∷ 0 ∷
    0 ∷ 0x20 ∷ 0 ∷ 0 ∷ 0 ∷ 0 ∷ 0 ∷ 0 ∷ 0 ∷ 0x10 ∷ 0 ∷ 0 ∷ 0 ∷ 0 ∷ 0 ∷ 0 ∷ 2 ∷ 0 ∷ 0 ∷ 0 ∷ []

-- the first entry of `ram_and_reserved`: RAM at 4 KiB
abbrev ram : Entry
ram = record { addr = 0x1000; size = 0x1000; kind = 1 }

-- the second entry of `ram_and_reserved`: reserved at 8 KiB
abbrev reserved : Entry
reserved = record { addr = 0x2000; size = 0x1000; kind = 2 }

-- an extension of one entry, ACPI data at 12 KiB
abbrev one_entry : List ℕ
one_entry =
    0 ∷ 0 ∷ 0 ∷ 0 ∷ 0 ∷ 0 ∷ 0 ∷ 0 ∷ 1 ∷ 0 ∷ 0 ∷ 0 ∷ 20 ∷ 0 ∷ 0 ∷ 0 ∷
    0 ∷ 0x30 ∷ 0 ∷ 0 ∷ 0 ∷ 0 ∷ 0 ∷ 0 ∷ 0 ∷ 0x10 ∷ 0 ∷ 0 ∷ 0 ∷ 0 ∷ 0 ∷ 0 ∷ 3 ∷ 0 ∷ 0 ∷ 0 ∷ []

-- the entry of that extension
abbrev acpi : Entry
acpi = record { addr = 0x3000; size = 0x1000; kind = 3 }

-- an SRAT of one processor, in domain 0x0C0D by its x2APIC
abbrev one_processor : List ℕ
one_processor =
    codes "SRAT" ++ (72 ∷ 0 ∷ 0 ∷ 0 ∷ 1 ∷ 0x25 ∷ []) ++ replicate 38 0
    ++ 2 ∷ 24 ∷ 0 ∷ 0 ∷ 0x0D ∷ 0x0C ∷ 0 ∷ 0 ∷ 9 ∷ 9 ∷ 9 ∷ 9 ∷ 1 ∷ 0 ∷ 0 ∷ 0 ∷ replicate 8 0

-- the table of that SRAT
abbrev processor_alone : SratView
processor_alone = record { processors = 0x0C0D ∷ []; blocks = [] }

-- The files that exist: a zero page, one that is too short and one that is too long; an extension,
-- and one without a header; a command line, and one with a fault; a table of domains; a script, and
-- one with a fault; and early claims.
abbrev held : FileContents
held name =
    if bytes_eq name (codes "zp") then Some (page 2 ram_and_reserved)
    else (if bytes_eq name (codes "short") then Some (replicate 4095 0)
    else (if bytes_eq name (codes "long") then Some (replicate 4097 0)
    else (if bytes_eq name (codes "ext") then Some one_entry
    else (if bytes_eq name (codes "bad") then Some (replicate 15 0)
    else (if bytes_eq name (codes "cmd") then Some (codes "quiet numa=off\n")
    else (if bytes_eq name (codes "on") then Some (codes "numa=on")
    else (if bytes_eq name (codes "srat") then Some one_processor
    else (if bytes_eq name (codes "free") then Some (codes "# one act\nfree 7\n")
    else (if bytes_eq name (codes "line") then Some (codes "free")
    else (if bytes_eq name (codes "claims") then Some (codes "free 3")
    else None))))))))))

-- the names of a zero page, and of an extension and a command line if they are given
abbrev naming : List ℕ → Option (List ℕ) → Option (List ℕ) → FileNames
naming page ext line inputs.ZeroPage = Some page
naming page ext line inputs.Extension = ext
naming page ext line inputs.CommandLine = line
naming page ext line other = None

-- an empty script or page script has no lines; a faulty line is reported by its number
lines_are_said : (script_or_fault [] ≡ Ok []) × (script_or_fault (codes "free") ≡ Err (faults.Script (script.BadLine 1)))
    × (page_script_or_fault [] ≡ Ok []) × (page_script_or_fault (codes "give x") ≡ Err (faults.Pages (pages.BadNumber 1)))
lines_are_said = (refl, refl, refl, refl)

-- an SRAT of one processor, and the fault of an empty SRAT, SLIT and EFI memory map
tables_are_said : (srat_or_fault one_processor ≡ Ok processor_alone) × (srat_or_fault [] ≡ Err (faults.Srat srat.Short))
    × (slit_or_fault [] ≡ Err (faults.Slit slit.Short)) × (efi_or_fault [] ≡ Err (faults.Efi efi.Header))
unfolding entry_offsets_from is_whole_entry srat_entry_at
tables_are_said = (refl, refl, refl, refl)

-- a mirrored range of 4 KiB at 16 KiB is frame 4
efi_gives : efi_map_in_frames (record { entries = []; mirrors = record { base = 0x4000; size = 0x1000 } ∷ [] })
    ≡ record { entries = []; mirrors = record { first = 4; count = 1 } ∷ [] }
efi_gives = refl

-- faults of a file's contents have an error line, and `Memory` has none
of_bytes : HasErrorLine (faults.Srat srat.Short) × HasErrorLine faults.TooLong × (HasErrorLine (faults.Srat srat.Memory) → ⊥)
of_bytes = (refl, refl, λ of. cc of)

-- what the error line says for faults of the SRAT and the SLIT
tables_told : (srat_diagnostic (srat.EntryLength 48) ≡ Some (Diagnostic.Offset (codes "entry length") 48))
    × (srat_diagnostic (srat.BlockTooFar 1048) ≡ Some (Diagnostic.Offset (codes "block too far") 1048))
    × (srat_diagnostic srat.Checksum ≡ Some (Diagnostic.Whole (codes "checksum"))) × (srat_diagnostic srat.Memory ≡ None)
    × (slit_diagnostic slit.Short ≡ Some (Diagnostic.Whole (codes "short")))
    × (slit_diagnostic slit.Localities ≡ Some (Diagnostic.Whole (codes "localities")))
tables_told = (refl, refl, refl, refl, refl, refl)

-- what the error line says for faults of the zero page, the extension and the EFI memory map
entries_told : (zero_page_diagnostic (zero.EntryTooFar 3) ≡ Diagnostic.Far (codes "entry") 3)
    × (zero_page_diagnostic zero.InitrdTooFar ≡ Diagnostic.Whole (codes "initrd too far"))
    × (extension_diagnostic (extension.EntryTooFar 3071) ≡ Some (Diagnostic.Far (codes "entry") 3071))
    × (efi_diagnostic (efi.TooFar 3) ≡ Some (Diagnostic.Far (codes "descriptor") 3))
    × (efi_diagnostic efi.Length ≡ Some (Diagnostic.Whole (codes "length")))
entries_told = (refl, refl, refl, refl, refl)

-- what the error line says for faults of the command line
words_told : (command_line_diagnostic (options.UserMapInvalid 12) ≡ Some (Diagnostic.Word 12 (codes "user map")))
    × (command_line_diagnostic (options.BadMem 1) ≡ Some (Diagnostic.Word 1 (codes "mem")))
    × (command_line_diagnostic (options.BadCrash 1) ≡ Some (Diagnostic.Word 1 (codes "crashkernel")))
    × (command_line_diagnostic options.TooLong ≡ Some (Diagnostic.Whole (codes "line too long")))
words_told = (refl, refl, refl, refl)

-- a file of early claims has the lines of a script, except `sections`, whatever follows it; the
-- first line with a fault is reported
claims_are_said : (claims_or_fault [] ≡ Ok [])
    × (claims_or_fault (codes "# sections\nfree 7") ≡ Ok (record { number = 2; act = acts.Free 7 } ∷ []))
    × (claims_or_fault (codes "free 7\nsections\nfree") ≡ Err (faults.Script (script.BadLine 2)))
    × (claims_or_fault (codes "sections 1") ≡ Err (faults.Script (script.BadLine 1)))
    × (claims_or_fault (codes "free x\nsections") ≡ Err (faults.Script (script.BadNumber 1)))
claims_are_said = (refl, refl, refl, refl, refl)

lines_told : (script_diagnostic (script.ZeroSize 12) ≡ Some (Diagnostic.Line 12 (codes "zero size")))
    × (script_diagnostic (script.BadLine 1) ≡ Some (Diagnostic.Line 1 (codes "form")))
    × (pages_diagnostic (pages.BadNumber 2) ≡ Some (Diagnostic.Line 2 (codes "number"))) × (pages_diagnostic pages.Memory ≡ None)
lines_told = (refl, refl, refl, refl)

faults_told : (diagnostic_of faults.TooLong ≡ Some (Diagnostic.Whole (codes "too long")))
    × (diagnostic_of (faults.ZeroPage zero.TooFew) ≡ Some (Diagnostic.Whole (codes "too few entries")))
    × (diagnostic_of (faults.Efi efi.Memory) ≡ None)
faults_told = (refl, refl, refl)

limits : (zero_page.limit ≡ 4096) × (extension_file.limit ≡ 16 + 20 * 3072) × (command_line.limit ≡ 4096) × (srat_file.limit ≡ 0x100000)
    × (script_file.limit ≡ 0x100000) × (claims_limit ≡ 0x100000)
    × (pages_file.limit ≡ 0x100000) × (slit_file.limit ≡ 0x100000) × (efi_file.limit ≡ 0x100000)
limits = (refl, refl, refl, refl, refl, refl, refl, refl, refl)

-- the range of the kernel's image
abbrev image : RangeView
image = record { base = 0x1000000; size = 0x2000000 }

-- the inputs before any file is read
abbrev start : InputsView
start = inputs_without_files Bits46 image

-- the step for one file, if it can be read, can't be read, or is too long
step_examples : (inputs_after_named_file held command_line start (codes "cmd")
    ≡ Ok (record start { options = record no_options { numa_off = true; add_efi = false } }))
    × (inputs_after_named_file held command_line start (codes "no") ≡ Err (reasons.Unread inputs.CommandLine))
    × (inputs_after_named_file held zero_page start (codes "long") ≡ Err (reasons.Faulty inputs.ZeroPage faults.TooLong))
step_examples = (refl, refl, refl)

-- a zero page and a script
abbrev with_script : List ℕ → FileNames
with_script script inputs.ZeroPage = Some (codes "zp")
with_script script inputs.Script = Some script
with_script script other = None

-- Reading needs memory of this program for an entry of an extension and for a script's line with a
-- command. It needs none for a zero page, for a command line without edits, and for a script that
-- has only comments.
takes_examples : (zero_page.takes [] ≡ false) × (extension_file.takes one_entry ≡ true) × (command_line.takes (codes "quiet") ≡ false)
    × (script_file.takes (codes "# no act") ≡ false) × (script_file.takes (codes "free 7") ≡ true)
unfolding entry_at
takes_examples = (refl, refl, refl, refl, refl)

-- a header without descriptors
abbrev header : List ℕ
header = 40 ∷ 0 ∷ 0 ∷ 0 ∷ 1 ∷ 0 ∷ 0 ∷ 0 ∷ []

efi_take_examples : (efi_needs_memory header ≡ false) × (efi_needs_memory (header ++ replicate 40 0) ≡ true)
unfolding descriptors_from
efi_take_examples = (refl, refl)

-- the list of files is in the order of reading
order_examples : (are_in_reading_order input_files ≡ true) × (are_in_reading_order (command_line ∷ extension_file ∷ []) ≡ false)
    × (are_read_later inputs.Srat (script_file ∷ []) ≡ true) × (are_read_later inputs.Srat (srat_file ∷ []) ≡ false)
    × (files_before_claims ++ files_after_claims ≡ input_files) × (are_read_later inputs.Claims files_after_claims ≡ true)
    × (are_read_later inputs.Claims (script_file ∷ []) ≡ false)
order_examples = (refl, refl, refl, refl, refl, refl, refl)

-- a zero page, an extension and a command line give their parts of the inputs
all_inputs : inputs_of held (naming (codes "zp") (Some (codes "ext")) (Some (codes "cmd"))) start
    ≡ Ok (record start {
      entries = ram ∷ reserved ∷ [];
      extension = acpi ∷ [];
      options = record { edits = []; crash = no_crash; numa_off = true; add_efi = false };
    })
unfolding entry_at initrd_of is_initrd_far
all_inputs = refl

-- a script gives its lines, or its fault is reported
scripts_are_given : (inputs_of held (with_script (codes "free")) start
    ≡ Ok (record start { entries = ram ∷ reserved ∷ []; lines = record { number = 2; act = acts.Free 7 } ∷ [] }))
    × (inputs_of held (with_script (codes "line")) start ≡ Err (reasons.Faulty inputs.Script (faults.Script (script.BadLine 1))))
    × (inputs_of held (with_script (codes "no")) start ≡ Err (reasons.Unread inputs.Script))
unfolding entry_at initrd_of is_initrd_far
scripts_are_given = (refl, refl, refl)

-- a zero page, a table of domains and a script
abbrev with_both : List ℕ → List ℕ → FileNames
with_both srat script inputs.ZeroPage = Some (codes "zp")
with_both srat script inputs.Srat = Some srat
with_both srat script inputs.Script = Some script
with_both srat script other = None

-- a table and a script both give their parts of the inputs
both_are_given : inputs_of held (with_both (codes "srat") (codes "free")) start
    ≡ Ok (record start {
      entries = ram ∷ reserved ∷ [];
      domains = Some processor_alone;
      lines = record { number = 2; act = acts.Free 7 } ∷ [];
    })
unfolding entry_at initrd_of is_initrd_far entry_offsets_from is_whole_entry srat_entry_at
both_are_given = refl

-- a zero page, a script and a file of early claims
abbrev with_early : List ℕ → List ℕ → FileNames
with_early script claims inputs.ZeroPage = Some (codes "zp")
with_early script claims inputs.Script = Some script
with_early script claims inputs.Claims = Some claims
with_early script claims other = None

-- the early claims are given apart from the inputs; of the faults of both, the script's is reported
claims_are_given : (inputs_with_claims_of held (with_early (codes "free") (codes "claims")) start
    ≡ Ok (record {
      inputs = record start { entries = ram ∷ reserved ∷ []; lines = record { number = 2; act = acts.Free 7 } ∷ [] };
      claims = record { number = 1; act = acts.Free 3 } ∷ [];
    }))
    × (inputs_with_claims_of held (with_early (codes "line") (codes "no")) start
    ≡ Err (reasons.Faulty inputs.Script (faults.Script (script.BadLine 1))))
    × (inputs_with_claims_of held (with_early (codes "free") (codes "line")) start
    ≡ Err (reasons.Faulty inputs.Claims (faults.Script (script.BadLine 1))))
    × (inputs_with_claims_of held (with_early (codes "free") (codes "no")) start ≡ Err (reasons.Unread inputs.Claims))
unfolding entry_at initrd_of is_initrd_far
claims_are_given = (refl, refl, refl, refl)

-- if the table and the script both have a fault, the table's is reported
srat_goes_before_the_script : inputs_of held (with_both (codes "bad") (codes "no")) start
    ≡ Err (reasons.Faulty inputs.Srat (faults.Srat srat.Short))
unfolding entry_at is_initrd_far
srat_goes_before_the_script = refl

-- of several files with a fault, the first is reported
first_refusals : (inputs_of held (naming (codes "short") (Some (codes "bad")) (Some (codes "on"))) start
    ≡ Err (reasons.Faulty inputs.ZeroPage (faults.ZeroPage zero.WrongLength)))
    × (inputs_of held (naming (codes "short") (Some (codes "no")) None) start
    ≡ Err (reasons.Faulty inputs.ZeroPage (faults.ZeroPage zero.WrongLength)))
    × (inputs_of held (naming (codes "zp") (Some (codes "bad")) (Some (codes "no"))) start
    ≡ Err (reasons.Faulty inputs.Extension (faults.Extension extension.ExtHeader)))
    × (inputs_of held (naming (codes "zp") (Some (codes "ext")) (Some (codes "no"))) start ≡ Err (reasons.Unread inputs.CommandLine))
unfolding entry_at is_initrd_far
first_refusals = (refl, refl, refl, refl)

-- `add_efi_memmap` counts with any value and with none, but only before `--` and by its whole name
efi_words : (has_efi_word (codes "quiet add_efi_memmap") ≡ true) × (has_efi_word (codes "add_efi_memmap=0") ≡ true)
    × (has_efi_word (codes "quiet -- add_efi_memmap") ≡ false) × (has_efi_word (codes "add_efi") ≡ false)
efi_words = (refl, refl, refl, refl)

-- a header for descriptors of 48 bytes, with nothing after it
abbrev efi_header : List ℕ
efi_header = 48 ∷ 0 ∷ 0 ∷ 0 ∷ 1 ∷ 0 ∷ 0 ∷ 0 ∷ []

-- the names of an EFI memory map and a command line
abbrev with_efi : FileNames
with_efi inputs.Efi = Some (codes "efi")
with_efi inputs.CommandLine = Some (codes "cmd")
with_efi other = None

lack_examples : LacksEfiWord held with_efi × LacksDescriptors (λ name. Some efi_header) with_efi
    × (LacksEfiWord (λ name. Some (codes "add_efi_memmap")) with_efi → ⊥)
unfolding descriptors_from
lack_examples = (refl, refl, λ lacks. cc lacks)

before_files : IsBeforeFiles start × (IsBeforeFiles (put_efi (record { entries = []; mirrors = [] }) start) → ⊥)
before_files = (record { options = refl; efi = refl }, λ is. cc (is.efi))

-- the word for each input file
word_examples : (input_word inputs.ZeroPage ≡ codes "zeropage") × (input_word inputs.CommandLine ≡ codes "cmdline")
    × (input_word inputs.Claims ≡ codes "claims") × (input_word inputs.Pages ≡ codes "pages")
    × (input_word inputs.Slit ≡ codes "slit") × (input_word inputs.Efi ≡ codes "efi")
word_examples = (refl, refl, refl, refl, refl, refl)
