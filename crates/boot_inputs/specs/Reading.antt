-- What is true after input files were read one after another, for any list of files. The position
-- of a file is its number in the order in which the files are read, from 0 (`input_place`).
use Rattle.std.specs.Prelude.{◌≡◌, ℕ, ◌≤◌, Bool, true, ◌&&◌, nat_le, nat_lt, List, [], ◌∷◌, Result, IfErr, IfSome, IsNone, IsOk, IsTrue}
use Rattle.bm_io.specs.declared.reading.Files.{Ghosts as FilesOf}
use Rattle.boot_model.specs.Boot.{InputsView}
use Rattle.boot_inputs.specs.declared.input.Input.{Input}
use Rattle.boot_inputs.specs.Reason.{NoInputs}
use Rattle.program_end.specs.Causes.{IsFileError}
use Rattle.program_end.specs.declared.failure.NoResult.TheVariants as errors
use Rattle.program_end.specs.declared.failure.Reason.TheVariants as reasons
use Rattle.program_end.specs.Fetches.{Fetches}
use Rattle.boot_inputs.specs.File.{File}
use Rattle.boot_inputs.specs.Input.{input_place}
use Rattle.boot_inputs.specs.Inputs.{FileNames, inputs_after_files}

-- whether the position of every file of the list is greater than that of `input`
abbrev pub are_read_later : Input → List File → Bool
are_read_later input [] = true
are_read_later input (file ∷ files) = nat_lt (input_place input) (input_place file.input) && are_read_later input files

-- whether the positions of the files increase along the list
abbrev pub are_in_reading_order : List File → Bool
are_in_reading_order [] = true
are_in_reading_order (file ∷ files) = are_read_later file.input files && are_in_reading_order files

-- whether the position of every file of the list is at most `place`
abbrev pub are_read_up_to : ℕ → List File → Bool
are_read_up_to place [] = true
are_read_up_to place (file ∷ files) = nat_le (input_place file.input) place && are_read_up_to place files

-- the error is out of memory, or it is that some file couldn't be read or has a fault, and the
-- position of this file is at most `place`
abbrev pub IsErrorBy : ℕ → NoInputs → Type 0
IsErrorBy place (errors.Reason reasons.Usage) = ⊥
IsErrorBy place (errors.Reason (reasons.Unread input)) = input_place input ≤ place
IsErrorBy place (errors.Reason (reasons.Faulty input fault)) = input_place input ≤ place
IsErrorBy place (errors.Reason (reasons.Stopped cause)) = ⊥
IsErrorBy place errors.Memory = Unit {0}

-- The files were read one after another, up to the first that was refused. `old` and `new` are the
-- states of the object that fetches files, before and after. `kind` gives the contents of its files
-- and counts its faults for each file name. If the contents are known, the inputs and the result
-- are those of `inputs_after_files` (`fetches`). An error has a cause (`cause`). The position of
-- the file that it names is at most that of the last file of the list (`own`). Without a name for
-- any file there is no error (`unnamed`). The contents stay the same, and no count of faults falls
-- (`kept`, `faults_stay`).
pub record AreRead {F : Type 0} (kind : FilesOf F) (named : FileNames) (files : List File) (old new : F) (before after : InputsView)
    (result : Result (Unit {0}) NoInputs) : Type 0 where
  pub fetches : IfSome (kind.holds old) (λ held. Fetches input_place (λ done. after) result (inputs_after_files held named files before))
  pub cause : IfErr result (IsFileError (kind.faults old) (kind.faults new) named)
  pub own : (place : ℕ) → IsTrue (are_read_up_to place files) → IfErr result (IsErrorBy place)
  pub unnamed : ((input : Input) → IsNone (named input)) → IsOk result
  pub kept : kind.holds new ≡ kind.holds old
  pub faults_stay : (any : List ℕ) → kind.faults old any ≤ kind.faults new any
