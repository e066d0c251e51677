-- The outcome for small files.
use Rattle.std.proofs.Common.{◌≡◌, ℕ, if◌then◌else◌, List, [], ◌∷◌, codes, Option, Some, None, Ok, Err, refl}
use Rattle.std.specs.Prelude.{replicate}
use Rattle.std.specs.Str.{bytes_eq}
use Rattle.e820_table.specs.declared.zero_page.ZeroFault.TheVariants as zero
use Rattle.boot_inputs.specs.declared.fault.Fault.TheVariants as faults
use Rattle.boot_inputs.specs.declared.input.Input.{Input}
use Rattle.boot_inputs.specs.declared.input.Input.TheVariants as inputs
use Rattle.program_end.specs.declared.failure.Reason.TheVariants as reasons
use Rattle.program_end.specs.Program.{FileContents}
use Rattle.e820_table.specs.Made.{generated_entries_from, high_ram, low_ram}
use Rattle.boot_model.specs.declared.stop.Cause.TheVariants as causes
use Rattle.bm_base.specs.declared.width.Width.TheVariants.{Bits46}
use Rattle.boot_model.specs.Boot.{InputsView, inputs_without_files, boot}
use Rattle.debugfs_reports.specs.declared.report.Report.TheVariants as reports
use Rattle.program_run.specs.Outcome.{read_boot_inputs, bootmem_outcome, bootmem61_outcome, reports_of_list61, reports_on_boot, with_made_table}
use Rattle.program_args.specs.Args.{BootmemArgsView, ProgramArgsView}

abbrev pub naming : List ℕ → Input → Option (List ℕ)
naming zero_page inputs.ZeroPage = Some zero_page
naming zero_page inputs.Extension = Some (codes "ext")
naming zero_page other = None

abbrev pub wanting : List ℕ → BootmemArgsView
wanting zero_page = record {
  named = naming zero_page;
  begun = inputs_without_files Bits46 (record { base = 0x1000000; size = 0x2000000 });
  reports = reports.Map ∷ [];
  made = None;
}

-- what the same words ask `bootmem61` for, with the file of early claims `early`
abbrev pub wanting61 : List ℕ → ProgramArgsView
wanting61 zero_page = record {
  named = naming zero_page;
  begun = inputs_without_files Bits46 (record { base = 0x1000000; size = 0x2000000 });
  list = codes "map";
  made = None;
  claims = Some (codes "early");
}

-- the files: only `short`, a zero page that is too short
abbrev held : FileContents
held name = if bytes_eq name (codes "short") then Some (replicate 4095 0) else None

-- a refused command line, whatever the files contain; a zero page that is missing; and a zero page
-- with a fault
refused_words : (h : FileContents) → bootmem_outcome None h ≡ Err reasons.Usage
refused_words h = refl

refused_pages : (bootmem_outcome (Some (wanting (codes "no"))) held ≡ Err (reasons.Unread inputs.ZeroPage))
    × (bootmem_outcome (Some (wanting (codes "short"))) held
    ≡ Err (reasons.Faulty inputs.ZeroPage (faults.ZeroPage zero.WrongLength)))
refused_pages = (refl, refl)

refused61 : (h : FileContents) → (bootmem61_outcome None h ≡ Err reasons.Usage)
    × (bootmem61_outcome (Some (wanting61 (codes "no"))) held ≡ Err (reasons.Unread inputs.ZeroPage))
    × (bootmem61_outcome (Some (wanting61 (codes "short"))) held
    ≡ Err (reasons.Faulty inputs.ZeroPage (faults.ZeroPage zero.WrongLength)))
refused61 h = (refl, refl, refl)

-- the list of `bootmem61` may ask for the outcomes of its early claims, which `bootmem` has no
-- report of
lists61 : (reports_of_list61 (codes "claims,map") ≡ reports.Claims ∷ reports.Map ∷ [])
lists61 = refl

-- inputs from files, whose entries a made table replaces
abbrev of_files : InputsView
of_files = record (inputs_without_files Bits46 (record { base = 0x1000000; size = 0x2000000 })) {
  entries = low_ram ∷ low_ram ∷ low_ram ∷ [];
  initrd = Some (record { base = 0x7D00000; size = 0x1000 });
  extension = low_ram ∷ [];
}

-- a made table of two entries leaves the extension empty; without a made table the files' entries
-- stay
made_examples : (h : FileContents)
    → (with_made_table (Some 2) of_files ≡ record of_files { entries = low_ram ∷ high_ram ∷ []; initrd = None; extension = [] })
    × (with_made_table None of_files ≡ of_files)
    × (read_boot_inputs h (record {
      named = λ input. None;
      begun = inputs_without_files Bits46 (record { base = 0x1000000; size = 0x2000000 });
      reports = [];
      made = Some 2;
    }) ≡ Ok (record of_files { entries = low_ram ∷ high_ram ∷ []; initrd = None; extension = [] }))
unfolding generated_entries_from
made_examples h = (refl, refl, refl)

stop_is_reported : (inputs : InputsView) → boot inputs ≡ Err causes.NoRam
    → reports_on_boot (reports.Map ∷ []) inputs ≡ Err (reasons.Stopped causes.NoRam)
stop_is_reported inputs stops = rw stops refl
