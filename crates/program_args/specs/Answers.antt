-- The result of reading the command line.
use Rattle.std.specs.Prelude.{Option, Some, None, Result, Ok, Err}
use Rattle.program_args.specs.declared.reader.ArgsError.{ArgsError}
use Rattle.program_args.specs.declared.reader.ArgsError.TheVariants as errors

-- the value, or `Usage` if the command line is refused (`None`)
abbrev pub or_refused : {A : Type 0} → Option A → Result A ArgsError
or_refused None = Err errors.Usage
or_refused (Some value) = Ok value
