-- What is wrong with an input file, as its error line says it: `word 3: memmap` in `bootmem:
-- cmdline: word 3: memmap`.
use Rattle.std.specs.Prelude.{ℕ, List}
use Rattle.boot_inputs.specs.declared.fault.Diagnostic.{Diagnostic as DiagnosticBy}
use Rattle.boot_inputs.specs.declared.fault.Diagnostic.TheVariants as told

-- What is wrong with a file, and where. `Whole` is about the whole file. `Far` is an entry or
-- descriptor that ends beyond 2^64 - 1, with its index from 0. `Word` and `Line` have the number of
-- a word or a line, from 1. `Offset` has an offset in the file, in bytes.
pub data Diagnostic : Type 0 where
  Whole : List ℕ → Diagnostic
  Far : List ℕ → ℕ → Diagnostic
  Word : ℕ → List ℕ → Diagnostic
  Line : ℕ → List ℕ → Diagnostic
  Offset : List ℕ → ℕ → Diagnostic

-- the view of the code's `Diagnostic`: the same variants, with each text as a list of bytes
abbrev pub diagnostic_view : DiagnosticBy → Diagnostic
diagnostic_view (told.Whole what) = Whole what.now
diagnostic_view (told.Far thing index) = Far thing.now index
diagnostic_view (told.Word word what) = Word word what.now
diagnostic_view (told.Line line what) = Line line what.now
diagnostic_view (told.Offset what offset) = Offset what.now offset
