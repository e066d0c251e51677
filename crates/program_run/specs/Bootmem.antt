-- `bootmem` and `bootmem61` as programs over files. The result of a run without a failure is the
-- text of the requested reports, and its exit status is 0.
use Rattle.std.specs.Prelude.{ℕ, List}
use Rattle.std.proofs.Common.{refl, inl}
use Rattle.boot_inputs.specs.declared.input.Input.{Input}
use Rattle.boot_inputs.specs.Input.{input_place}
use Rattle.boot_inputs.specs.Inputs.{FileNames}
use Rattle.program_end.specs.Program.{Program}
use Rattle.program_args.specs.Args.{BootmemArgsView, ProgramArgsView, named61}

-- the definition of a program that prints reports on a boot; `named` gives the names of the input
-- files, from what the command line asks for
abbrev pub reports_program : {W : Type 0} → (W → FileNames) → Program W Input (List ℕ)
reports_program named = record {
  place = input_place;
  named = named;
  text = λ text. text;
  status = λ text. 0;
  statuses = λ text. inl refl;
}

-- the program `bootmem`
abbrev pub bootmem : Program BootmemArgsView Input (List ℕ)
bootmem = reports_program (λ args. args.named)

-- the program `bootmem61`, which also reads a file of early claims
abbrev pub bootmem61 : Program ProgramArgsView Input (List ℕ)
bootmem61 = reports_program named61
