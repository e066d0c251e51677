-- The faults of an SRAT: those of its header, and those of its entries. None of them is out of
-- memory.
use Rattle.std.proofs.Common.{◌≢◌, ℕ, List, [], ◌∷◌, Option, Some, arith}
use Rattle.std.specs.Prelude.{IsErrOf}
use Rattle.std.specs.Option.{option_or}
use Rattle.srat_reader.specs.declared.table.SratFault.{SratFault}
use Rattle.srat_reader.specs.declared.table.SratFault.TheVariants as srat
use Rattle.srat_reader.specs.Table.{SratView, srat_fault_at, first_srat_fault, srat_header_fault, entry_offsets, srat_fault, srat_of, srat_unless_fault}

or_other : {E : Type 0} (want : E) (x y : Option E) → x ≢ Some want → y ≢ Some want → option_or x y ≢ Some want
or_other want x y first second = grind arith

entries_other : (bytes offsets : List ℕ) → first_srat_fault bytes offsets ≢ Some srat.Memory
entries_other bytes [] = λ is. cc is
entries_other bytes (at ∷ rest) =
    or_other srat.Memory (srat_fault_at bytes at) (first_srat_fault bytes rest) (λ is. grind arith) (entries_other bytes rest)

unless_srat_other : (fault : Option SratFault) (lists : SratView) → fault ≢ Some srat.Memory
    → ¬ IsErrOf (srat_unless_fault fault lists) srat.Memory
unless_srat_other fault lists other = λ is. grind arith

pub srat_other : (bytes : List ℕ) → ¬ IsErrOf (srat_of bytes) srat.Memory
srat_other bytes = unless_srat_other (srat_fault bytes) _
    (or_other srat.Memory (srat_header_fault bytes) (first_srat_fault bytes (entry_offsets bytes)) (λ is. grind arith)
    (entries_other bytes (entry_offsets bytes)))
