-- The definition of an input file, as one value.
use Rattle.std.specs.Prelude.{ℕ, Bool, List, Option, Some, None, Result, Ok, Err}
use Rattle.boot_model.specs.Boot.{InputsView}
use Rattle.boot_inputs.specs.declared.fault.Fault.{Fault}
use Rattle.boot_inputs.specs.declared.input.Input.{Input}

-- `input` says which input the file is, and `limit` how many bytes it may have. `takes` says
-- whether reading some bytes needs memory of this program. From the file's bytes and the inputs so
-- far, `says` gives the inputs with the file's value put in, or the first fault of the bytes.
pub record File : Type 0 where
  pub input : Input
  pub limit : ℕ
  pub takes : List ℕ → Bool
  pub says : List ℕ → InputsView → Result InputsView Fault

-- the inputs with the reader's value put in, or the reader's fault
abbrev pub with_value : {A : Type 0} → (A → InputsView → InputsView) → InputsView → Result A Fault → Result InputsView Fault
with_value put given (Ok value) = Ok (put value given)
with_value put given (Err fault) = Err fault

-- the fault, if there is one, else the value
abbrev pub value_unless_fault : {A : Type 0} → Option Fault → A → Result A Fault
value_unless_fault None value = Ok value
value_unless_fault (Some fault) value = Err fault
