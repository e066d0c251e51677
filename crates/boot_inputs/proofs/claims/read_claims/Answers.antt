-- The lines that the code's lines hold, or the fault of the lowest line that has one.
use Rattle.std.proofs.Common.{refl, rules}
use Rattle.boot_inputs.proofs.ClaimsLaws.{bounds_in_claims, claims_are_read, claims_are_refused, claims_are_some, claims_some, no_sections_in_claims}
use Rattle.boot_inputs.proofs.claims.read_claims.Goals as goal

pub returns-in-Ok-lines_of_claims-clause-answers : goal.returns-in-Ok-lines_of_claims-clause-answers
returns-in-Ok-lines_of_claims-clause-answers c =
    rw c.in-Ok-lines_of_claims.ensures.lines (rw c.deref.ensures.value
    (claims_are_read c.args.bytes.now c.in-Ok.claims.items c.in-Ok.ensures.answers))

pub returns-in-Ok-lines_of_claims-clause-bounds : goal.returns-in-Ok-lines_of_claims-clause-bounds
returns-in-Ok-lines_of_claims-clause-bounds c =
    rw c.in-Ok-lines_of_claims.ensures.lines (rw c.deref.ensures.value (bounds_in_claims c.in-Ok.claims.items c.in-Ok.ensures.limits))

pub returns-in-Ok-lines_of_claims-clause-no_sections : goal.returns-in-Ok-lines_of_claims-clause-no_sections
returns-in-Ok-lines_of_claims-clause-no_sections c =
    rw c.in-Ok-lines_of_claims.ensures.lines (rw c.deref.ensures.value (no_sections_in_claims c.in-Ok.claims.items c.in-Ok.ensures.limits))

pub returns-in-Ok-clause-memory : goal.returns-in-Ok-clause-memory
returns-in-Ok-clause-memory c is =
    rw (claims_are_read c.args.bytes.now c.in-Ok.claims.items c.in-Ok.ensures.answers)
    (claims_some c.in-Ok.claims.items ((rw c.deref.ensures.value at c.in-Err.ensures.memory) refl))

pub returns-in-Err-Faulty-clause-answers : goal.returns-in-Err-Faulty-clause-answers
returns-in-Err-Faulty-clause-answers c other =
    rw (c.script_fault_at.ensures, c.in-Err-Faulty.line-is, c.in-Err-Faulty.wrong-is)
    (claims_are_refused c.args.bytes.now c.in-Err-Faulty.line c.in-Err-Faulty.wrong (search rules))

pub returns-clause-memory : goal.returns-clause-memory
returns-clause-memory c is = claims_are_some c.args.bytes.now (search rules)
