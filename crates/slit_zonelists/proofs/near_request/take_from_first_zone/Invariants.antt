-- None of the zones so far has a block, and nothing has changed.
use Rattle.std.proofs.Common.{◌≡◌, drop}
use Rattle.page_alloc.specs.PagesView.{page_state_of}
use Rattle.slit_zonelists.specs.Near.{first_zone}
use Rattle.slit_zonelists.proofs.near_request.take_from_first_zone.Given as goal

abbrev pub invariant-loop-entry : goal.invariant-loop-entry
invariant-loop-entry l = record {
  same : l.pages ≡ l.fn.pages;
  passed : first_zone (page_state_of l.fn.pages) l.order (drop l.entry-index l.zones)
      ≡ first_zone (page_state_of l.fn.pages) l.order l.zones;
}
