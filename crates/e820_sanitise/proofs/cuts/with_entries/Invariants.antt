use Rattle.std.proofs.Common.{◌≡◌, drop, ◌++◌}
use Rattle.std.specs.List.{flat_map}
use Rattle.e820_model.specs.Claims.{EntriesFit}
use Rattle.e820_model.specs.Map.{AreValidClaims}
use Rattle.e820_sanitise.specs.Cuts.{claim_of_entry}
use Rattle.e820_sanitise.proofs.cuts.with_entries.Given as goal

abbrev pub invariant-loop-entry : goal.invariant-loop-entry
invariant-loop-entry l = record {
  added : l.all.items ++ flat_map claim_of_entry (drop l.entry-index l.entries) ≡ l.claims ++ flat_map claim_of_entry l.entries;
  space : EntriesFit (drop l.entry-index l.entries);
  claims : AreValidClaims l.all.items;
}
