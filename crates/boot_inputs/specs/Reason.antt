-- The reasons why the program prints no report.
use Rattle.boot_model.specs.declared.stop.Cause.{Cause}
use Rattle.program_end.specs.declared.failure.NoResult.{NoResult}
use Rattle.program_end.specs.declared.failure.Reason.{Reason as ReasonOf}
use Rattle.boot_inputs.specs.declared.fault.Fault.{Fault}
use Rattle.boot_inputs.specs.declared.input.Input.{Input}

-- why there is no report: the program's command line is refused, an input file is refused, or the
-- boot stops
abbrev pub InputsReason : Type 0
InputsReason = ReasonOf Input Fault Cause

-- why there are no inputs: an `InputsReason`, or out of memory
abbrev pub NoInputs : Type 0
NoInputs = NoResult InputsReason
