use Rattle.std.proofs.Common.{◌≡◌, ◌+◌, ◌^◌, ℕ, Option, length, ◌∙◌, arith}
use Rattle.std.proofs.lemmas.Grind.{common_steps}
use Rattle.bm_base.specs.Range.{RangeView}
use Rattle.address_runs.specs.Runs.{value_at}
use Rattle.address_runs.specs.Edits.{change_range, IsEmptyFrom}
use Rattle.run_edits.specs.Ends.{one_right_below, run_ends_at, total}
use Rattle.run_edits.proofs.EndLaws.{all_ends}
use Rattle.run_edits.proofs.AmendLaws.{amended_ends}
use Rattle.run_edits.proofs.CountLaws.{room_by, length_by, amended_edges, spikes_two}
use Rattle.run_edits.proofs.edits.edit_without_cover.Goals as goal

pub edit_range-requires-clause-room : goal.edit_range-requires-clause-room
edit_range-requires-clause-room g c =
    let f : ℕ → Option g.row.S-Value.Denot = value_at (g.T.Rows.list c.args.table.now) in
    let change = g.C.Change.makes c.args.change in
    let r : RangeView = c.args.range.now in
    let same = c.requires.tells.0 in
    let tells = c.requires.tells.1 in
    let count : length (g.T.Rows.list c.args.table.now) ≡ total (run_ends_at same f) 0 (2 ^ 64) = all_ends same tells
    (g.T.Rows.list c.args.table.now) c.requires.runs c.requires.within in (
      same,
      tells,
      room_by same tells f (change_range change r f) (λ x. one_right_below r.base x + one_right_below (r.base + r.size) x) 2
          (g.T.Slots.room c.args.table.now)
          (amended_edges same tells change c.requires.change r f) (λ at le. spikes_two r at) (omega (arith, count, c.requires.room)),
    )

pub returns-clause-few : goal.returns-clause-few
returns-clause-few g c =
    let f : ℕ → Option g.row.S-Value.Denot = value_at (g.T.Rows.list c.args.table.now) in
    let change = g.C.Change.makes c.args.change in
    let r : RangeView = c.args.range.now in
    let same = c.requires.tells.0 in
    let tells = c.requires.tells.1 in
    let now : IsEmptyFrom (2 ^ 64) (value_at (g.T.Rows.list c.edit_range.new.table)) = λ x le. c.edit_range.ensures.list.each x
    ∙ amended_ends change r f (2 ^ 64) (grind (arith, common_steps)) c.requires.within x le in
    length_by same tells (g.T.Rows.list c.args.table.now) (g.T.Rows.list c.edit_range.new.table)
    (λ x. one_right_below r.base x + one_right_below (r.base + r.size) x) 2
    c.requires.runs c.requires.within c.edit_range.ensures.list.runs now
    (λ x. rw (c.edit_range.ensures.list.each x, c.edit_range.ensures.list.each (x + 1))
    (amended_edges same tells change c.requires.change r f x)) (spikes_two r (2 ^ 64))
