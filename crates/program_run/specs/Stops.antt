-- The reason why there is no report, for each error of the crates that read the command line and
-- run the boot.
use Rattle.std.specs.Prelude.{Option, Some, None}
use Rattle.boot_inputs.specs.Reason.{NoInputs}
use Rattle.boot_model.specs.declared.stop.Cause.{Cause}
use Rattle.boot_model.specs.declared.stop.Stop.{Stop}
use Rattle.boot_model.specs.Stop.{cause_of}
use Rattle.program_end.specs.declared.failure.NoResult.TheVariants as errors
use Rattle.program_end.specs.declared.failure.Reason.TheVariants as reasons
use Rattle.program_args.specs.declared.reader.ArgsError.{ArgsError}
use Rattle.program_args.specs.declared.reader.ArgsError.TheVariants as words

-- why there is no report: the cause for which the boot stopped, or out of memory (`None`)
abbrev pub reason_by_cause : Option Cause → NoInputs
reason_by_cause None = errors.Memory
reason_by_cause (Some cause) = errors.Reason (reasons.Stopped cause)

-- why there is no report on a boot that stops: the cause of the stop, or out of memory
abbrev pub reason_by_stop : Stop → NoInputs
reason_by_stop stop = reason_by_cause (cause_of stop)

-- why there is no report if reading the command line failed: it is refused (`Usage`), or the
-- program is out of memory
abbrev pub reason_by_args_error : ArgsError → NoInputs
reason_by_args_error words.Usage = errors.Reason reasons.Usage
reason_by_args_error words.Memory = errors.Memory
