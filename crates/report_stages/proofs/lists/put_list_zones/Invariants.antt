-- The entries so far follow the old text. The text's room doesn't shrink.
use Rattle.std.proofs.Common.{◌≡◌, ◌≤◌, ◌++◌, drop, vec_capacity}
use Rattle.std.specs.List.{flat_map}
use Rattle.report_stages.specs.ListsText.{list_zone_text}
use Rattle.report_stages.proofs.lists.put_list_zones.Given as goal

abbrev pub invariant-loop-entry : goal.invariant-loop-entry
invariant-loop-entry l = record {
  text : l.text.items ++ flat_map list_zone_text (drop l.entry-index l.zones) ≡ l.initial.text.items ++ flat_map list_zone_text l.zones;
  room : vec_capacity l.initial.text ≤ vec_capacity l.text;
}
