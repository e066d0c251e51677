-- Applying the remaining edits to the table's claims gives the same as applying all edits to the
-- claims at the start.
use Rattle.std.proofs.Common.{◌≡◌, drop}
use Rattle.e820_model.specs.Claims.{HaveTypes, after_edits}
use Rattle.e820_model.specs.Map.{claims_of}
use Rattle.boot_stages.proofs.map.edit_and_sanitise.Given as goal

abbrev pub invariant-loop-edit : goal.invariant-loop-edit
invariant-loop-edit l = record {
  claims : after_edits (drop l.edit-index l.edits) (claims_of l.table) ≡ after_edits l.edits (claims_of l.fn.table);
  types : HaveTypes (drop l.edit-index l.edits);
}
