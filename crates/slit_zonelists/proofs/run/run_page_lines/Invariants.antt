-- The lines so far have been carried out, the remaining lines answer as they would have from the
-- start, and there is room for all answers.
use Rattle.std.proofs.Common.{◌≡◌, ◌+◌, ◌≤◌, ◌++◌, length, take, drop, vec_len, vec_capacity}
use Rattle.page_alloc.specs.PagesView.{page_state_of}
use Rattle.page_alloc.specs.Pages.{HaveValidOrders}
use Rattle.slit_zonelists.specs.Near.{page_answers_of, page_state_after}
use Rattle.slit_zonelists.specs.MadeLists.{AreZoneListsOfNodes}
use Rattle.slit_zonelists.proofs.run.run_page_lines.Given as goal

abbrev pub invariant-loop-line : goal.invariant-loop-line
invariant-loop-line l = record {
  orders : HaveValidOrders (drop l.line-index l.lines);
  made : AreZoneListsOfNodes l.lists l.made;
  told : l.answers.items ++ page_answers_of l.lists (page_state_of l.pages) (drop l.line-index l.lines)
      ≡ page_answers_of l.lists (page_state_of l.fn.pages) l.lines;
  so_far : page_state_of l.pages ≡ page_state_after l.lists (page_state_of l.fn.pages) (take l.line-index l.lines);
  room : vec_len l.answers + length l.lines ≤ vec_capacity l.answers + l.line-index;
}
