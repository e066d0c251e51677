-- Examples: the error line of each failure.
use Rattle.std.proofs.Common.{◌≡◌, codes, Some, None, refl}
use Rattle.std.specs.Fmt.{digits}
use Rattle.e820_table.specs.declared.extension.ExtFault.TheVariants as extension
use Rattle.e820_table.specs.declared.zero_page.ZeroFault.TheVariants as zero
use Rattle.boot_inputs.specs.declared.fault.Fault.TheVariants as faults
use Rattle.boot_inputs.specs.declared.input.Input.TheVariants as inputs
use Rattle.boot_inputs.specs.Diagnostic.{Diagnostic}
use Rattle.script_reader.specs.declared.fault.ScriptFault.TheVariants as script
use Rattle.memblock_model.specs.declared.owner.Which.TheVariants as which
use Rattle.memblock_grow.specs.declared.stop.What.TheVariants as what
use Rattle.boot_model.specs.declared.stop.Cause.TheVariants as causes
use Rattle.boot_model.specs.declared.stop.Stop.TheVariants as stops
use Rattle.bm_io.specs.declared.writing.Put.TheVariants as put
use Rattle.program_end.specs.declared.failure.Failure.TheVariants as failures
use Rattle.program_end.specs.declared.failure.NoResult.TheVariants as errors
use Rattle.program_end.specs.declared.failure.Reason.TheVariants as reasons
use Rattle.program_args.specs.declared.reader.ArgsError.TheVariants as words
use Rattle.program_run.specs.Stops.{reason_by_stop, reason_by_args_error}
use Rattle.program_run.specs.Line.{diagnostic_line, named_input_fault_line, no_numbered_place_line, no_place_line, stop_cause_line, input_fault_line, bootmem_failure_line, bootmem61_failure_line, bootmem61_name, bootmem_name}
use Rattle.program_run.proofs.OutcomeExamples.{wanting, wanting61}

-- errors of the crates below as the reason why there is no report; out of memory stays apart from
-- reasons
no_report_examples : (reason_by_stop (stops.TooMuchRam 4294967297) ≡ errors.Reason (reasons.Stopped (causes.TooMuchRam 4294967297)))
    × (reason_by_stop stops.Memory ≡ errors.Memory)
    × (reason_by_args_error words.Usage ≡ errors.Reason reasons.Usage)
    × (reason_by_args_error words.Memory ≡ errors.Memory)
no_report_examples = (refl, refl, refl, refl)

-- the error line for each variant of `Diagnostic`, and for none
told_lines : (diagnostic_line bootmem_name (codes "zeropage") (Some (Diagnostic.Whole (codes "initrd too far")))
    ≡ codes "bootmem: zeropage: initrd too far\n")
    × (diagnostic_line bootmem_name (codes "efi") (Some (Diagnostic.Far (codes "descriptor") 3))
    ≡ codes "bootmem: efi: descriptor 3 too far\n")
    × (diagnostic_line bootmem_name (codes "pages") None ≡ codes "bootmem: out of memory\n")
    × (diagnostic_line bootmem_name (codes "cmdline") (Some (Diagnostic.Word 12 (codes "user map")))
    ≡ codes "bootmem: cmdline: word 12: user map\n")
    × (diagnostic_line bootmem_name (codes "script") (Some (Diagnostic.Line 12 (codes "zero size")))
    ≡ codes "bootmem: script: line 12: zero size\n")
    × (diagnostic_line bootmem_name (codes "srat") (Some (Diagnostic.Offset (codes "block too far") 1048))
    ≡ codes "bootmem: srat: block too far at 1048\n")
unfolding digits
told_lines = (refl, refl, refl, refl, refl, refl)

-- the error lines for faults of input files
fault_lines : (named_input_fault_line bootmem_name (codes "zeropage") (faults.ZeroPage (zero.EntryTooFar 3))
    ≡ codes "bootmem: zeropage: entry 3 too far\n")
    × (named_input_fault_line bootmem_name (codes "e820ext") (faults.Extension extension.ExtHeader) ≡ codes "bootmem: e820ext: header\n")
    × (input_fault_line bootmem_name inputs.CommandLine faults.TooLong ≡ codes "bootmem: cmdline: too long\n")
    × (input_fault_line bootmem_name inputs.ZeroPage (faults.ZeroPage zero.TooFew) ≡ codes "bootmem: zeropage: too few entries\n")
unfolding digits
fault_lines = (refl, refl, refl, refl)

-- the error lines for a boot that stops
stop_lines : (stop_cause_line bootmem_name (causes.MapFull 3201) ≡ codes "bootmem: stopped: 3201 map runs\n")
    × (stop_cause_line bootmem_name causes.NoRam ≡ codes "bootmem: stopped: no usable frame\n")
    × (stop_cause_line bootmem_name (causes.NoTablePlace which.Reserved 128)
    ≡ codes "bootmem: stopped: no place for table reserved room 128\n")
    × (stop_cause_line bootmem_name (causes.NoPlace (what.NodeData 3)) ≡ codes "bootmem: stopped: no place for node-data 3\n")
    × (stop_cause_line bootmem_name (causes.NoPlace what.Roots) ≡ codes "bootmem: stopped: no place for roots\n")
    × (no_place_line bootmem_name (what.Map 40) ≡ codes "bootmem: stopped: no place for map 40\n")
    × (no_numbered_place_line bootmem_name (codes "root") 0 ≡ codes "bootmem: stopped: no place for root 0\n")
unfolding digits
stop_lines = (refl, refl, refl, refl, refl, refl, refl)

-- the error lines for a file that can't be read, a refused command line, and an output that fails
other_lines : (bootmem_failure_line (Some (wanting (codes "zp"))) (failures.NoResult (errors.Reason (reasons.Unread inputs.Extension)))
    ≡ codes "bootmem: cannot read ext\n")
    × (bootmem_failure_line None (failures.NoResult (errors.Reason reasons.Usage)) ≡ codes "bootmem: usage\n")
    × (bootmem_failure_line None (failures.Output put.Failed) ≡ codes "bootmem: cannot write\n")
    × (bootmem_failure_line None (failures.Output put.Memory) ≡ codes "bootmem: out of memory\n")
other_lines = (refl, refl, refl, refl)

-- each line of `bootmem61` begins with its own name, and the file of early claims has the word
-- `claims`
lines61 : (diagnostic_line bootmem61_name (codes "pages") None ≡ codes "bootmem61: out of memory\n")
    × (input_fault_line bootmem61_name inputs.Claims (faults.Script (script.BadLine 2)) ≡ codes "bootmem61: claims: line 2: form\n")
    × (stop_cause_line bootmem61_name (causes.MapFull 3201) ≡ codes "bootmem61: stopped: 3201 map runs\n")
    × (stop_cause_line bootmem61_name (causes.NoPlace what.Roots) ≡ codes "bootmem61: stopped: no place for roots\n")
    × (bootmem61_failure_line (Some (wanting61 (codes "zp"))) (failures.NoResult (errors.Reason (reasons.Unread inputs.Claims)))
    ≡ codes "bootmem61: cannot read early\n")
    × (bootmem61_failure_line (Some (wanting61 (codes "zp"))) (failures.NoResult (errors.Reason (reasons.Unread inputs.Extension)))
    ≡ codes "bootmem61: cannot read ext\n")
    × (bootmem61_failure_line None (failures.NoResult (errors.Reason reasons.Usage)) ≡ codes "bootmem61: usage\n")
    × (bootmem61_failure_line None (failures.Output put.Failed) ≡ codes "bootmem61: cannot write\n")
unfolding digits
lines61 = (refl, refl, refl, refl, refl, refl, refl, refl)
