-- The step for one file, after its bytes were fetched or read.
use Rattle.std.proofs.Common.{◌≡◌, ℕ, List, Option, arith}
use Rattle.std.specs.Prelude.{IfSome}
use Rattle.boot_model.specs.Boot.{InputsView}
use Rattle.boot_inputs.specs.declared.input.Input.{Input}
use Rattle.program_end.specs.Fetches.{ReachesFile}
use Rattle.boot_inputs.specs.Input.{input_place}
use Rattle.boot_inputs.specs.File.{File}
use Rattle.boot_inputs.specs.Inputs.{inputs_after_named_file}
use Rattle.program_end.specs.Program.{FileContents}

-- the step for a file refuses no other file
pub comes_to_own : (holds : Option FileContents) (other : Input) (file : File) (given : InputsView) (name : List ℕ) → other ≡ file.input
    → IfSome holds (λ held. ReachesFile input_place other (inputs_after_named_file held file given name))
comes_to_own holds other file given name is = grind arith
