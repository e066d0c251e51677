-- The boot whose results a call returns as values, and the errors of such a call.
use Rattle.std.specs.Prelude.{◌≡◌, ℕ, Bool, List, Option, Some, None, Result, Ok, Err}
use Rattle.bm_io.specs.MemFiles.{file_bytes}
use Rattle.program_end.specs.Program.{FileContents}
use Rattle.boot_model.specs.Boot.{InputsView, BootedView, whole_boot, whole_boot_with}
use Rattle.conservation.specs.Headline.{AllTouchedOrInOneBlock, BlocksAreMaximal, BlocksAreWhole, NoOtherInABlock}
use Rattle.boot_inputs.specs.Reason.{NoInputs, InputsReason}
use Rattle.boot_inputs.specs.WithClaims.{InputsWithClaims}
use Rattle.program_end.specs.declared.failure.NoResult.TheVariants as errors
use Rattle.program_run.specs.Outcome.{linux_extra, read_boot_inputs, read_boot_inputs61}
use Rattle.program_args.specs.Args.{BootmemArgsView, ProgramArgsView}
use Rattle.bootmem_c.specs.declared.crossing.Bytes.{Bytes}
use Rattle.bootmem_c.specs.declared.crossing.File.{File}
use Rattle.bootmem_c.specs.declared.profile.BootProfile.{BootProfile}
use Rattle.bootmem_c.specs.declared.profile.BootProfile.TheVariants as profiles
use Rattle.bootmem_c.specs.Call.{are_utf8, read_args61_if, read_args_if}
use Rattle.bootmem_c.specs.Lent.{lent_files, lent_words}
use Rattle.bootmem_c.specs.Profiles.{profile_of_number}

-- `booted` has the results of the one boot that the accepted command line and the files' bytes
-- determine. In this boot each usable frame is touched by a claim with a recorded owner, or is in
-- exactly one free block (`each`). No other frame is in a block (`others`). Each block is aligned,
-- free, in one node and in one zone (`whole`), and as large as possible (`maximal`).
pub record IsBoot (accepted : Option BootmemArgsView) (held : FileContents) (booted : BootedView) : Type 0 where
  pub args : BootmemArgsView
  pub inputs : InputsView
  pub args_read : accepted ≡ Some args
  pub inputs_read : read_boot_inputs held args ≡ Ok inputs
  pub boots : whole_boot inputs ≡ Ok booted
  pub each : AllTouchedOrInOneBlock inputs booted
  pub others : NoOtherInABlock inputs booted
  pub whole : BlocksAreWhole inputs booted
  pub maximal : BlocksAreMaximal inputs booted

-- The same for the boot of `bootmem61`, which has the profile of Linux 6.1 and the early claims of
-- the files.
pub record IsBoot61 (accepted : Option ProgramArgsView) (held : FileContents) (booted : BootedView) : Type 0 where
  pub args : ProgramArgsView
  pub read : InputsWithClaims
  pub args_read : accepted ≡ Some args
  pub inputs_read : read_boot_inputs61 held args ≡ Ok read
  pub boots : whole_boot_with (linux_extra read.claims) read.inputs ≡ Ok booted
  pub each : AllTouchedOrInOneBlock read.inputs booted
  pub others : NoOtherInABlock read.inputs booted
  pub whole : BlocksAreWhole read.inputs booted
  pub maximal : BlocksAreMaximal read.inputs booted

-- `booted` has the results of the boot by a profile; `utf8` says whether each word is UTF-8
abbrev pub IsBootBy : Option BootProfile → Bool → List (List ℕ) → FileContents → BootedView → Type 0
IsBootBy None utf8 words held booted = ⊥
IsBootBy (Some profiles.Own) utf8 words held booted = IsBoot (read_args_if utf8 words) held booted
IsBootBy (Some profiles.Linux61) utf8 words held booted = IsBoot61 (read_args61_if utf8 words) held booted

-- `booted` has the results of the boot by the profile of this number
abbrev pub IsBootAs : ℕ → List Bytes → List File → BootedView → Type 0
IsBootAs number words files booted =
    IsBootBy (profile_of_number number) (are_utf8 (lent_words words)) (lent_words words) (file_bytes (lent_files files)) booted

-- if the error is a reason, the outcome `said` is this reason; out of memory may happen with any
-- outcome
abbrev pub HasOutcomeReason : NoInputs → Result (List ℕ) InputsReason → Type 0
HasOutcomeReason (errors.Reason reason) said = said ≡ Err reason
HasOutcomeReason errors.Memory said = Unit {0}
