-- None of the zones so far has a block.
use Rattle.std.proofs.Common.{◌≡◌, false, take}
use Rattle.std.specs.List.{list_any}
use Rattle.page_alloc.specs.PagesView.{page_state_of}
use Rattle.slit_zonelists.specs.Near.{has_block}
use Rattle.slit_zonelists.proofs.near_request.outcome_without_list.Given as goal

abbrev pub invariant-loop-entry : goal.invariant-loop-entry
invariant-loop-entry l = record {
  same : l.entry-items ≡ l.lists.zones;
  none : list_any (has_block (page_state_of l.pages) l.order) (take l.entry-index l.entry-items) ≡ false;
}
