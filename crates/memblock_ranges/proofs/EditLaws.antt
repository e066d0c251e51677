-- Edits of records: the room that they need, and that their result is the list of records.
use Rattle.std.proofs.Common.{◌≡◌, ℕ, ◌+◌, ◌-◌, ◌^◌, ◌≤◌, Bool, false, Option, List, length, refl, sym, ◌∙◌, arith}
use Rattle.std.proofs.lemmas.Bool.Decides.{nat_tests}
use Rattle.bm_base.specs.Range.{RangeView, covers}
use Rattle.address_runs.specs.Runs.{RunOf, DecidesEquality, value_at, IsRunsOf}
use Rattle.address_runs.specs.Edits.{change_range, cover_range, gaps_in_range}
use Rattle.run_edits.specs.Ends.{run_ends_at, total, HasRoomToEdit}
use Rattle.run_edits.proofs.EndLaws.{all_ends, total-split}
use Rattle.run_edits.proofs.AmendLaws.{amended_ends}
use Rattle.run_edits.proofs.CountLaws.{room_by, covered_edges, gaps_count_ends}
use Rattle.memblock_model.specs.Labels.{LabelView, Labels, plain_label}
use Rattle.memblock_model.specs.Same.{same_label}
use Rattle.memblock_model.specs.Tables.{records_for, uncovered_run_count}
use Rattle.memblock_model.proofs.SameLaws.{same_label_decides_equality}
use Rattle.memblock_model.proofs.TableLaws.{records_for-is}
use Rattle.memblock_ranges.specs.Tables.{AreRecords}

-- the number of pieces is the number of runs of bare bytes that end in the range
pub pieces_are : (r : RangeView) (f : Labels) → r.base + r.size ≤ 2 ^ 64 →
    uncovered_run_count r f ≡ total (run_ends_at same_label (gaps_in_range r plain_label f)) 0 (2 ^ 64)
unfolding uncovered_run_count records_for
pieces_are r f ends = gaps_count_ends same_label same_label_decides_equality r plain_label f ends

-- room for the pieces of a range is enough to cover it
pub cover_room : (rs : List (RunOf LabelView)) (r : RangeView) (v : LabelView) (room : ℕ) → AreRecords rs → r.base + r.size ≤ 2 ^ 64 →
    length rs + uncovered_run_count r (value_at rs) ≤ room → HasRoomToEdit same_label (value_at rs) (cover_range r v (value_at rs)) room
cover_room rs r v room known ends fits =
    let f = value_at rs in
    let count : length rs ≡ total (run_ends_at same_label f) 0
    (2 ^ 64) = all_ends same_label same_label_decides_equality rs known.runs known.within in
    let more = pieces_are r f ends in
    room_by same_label same_label_decides_equality f (cover_range r v f) (run_ends_at same_label (gaps_in_range r plain_label f))
    (uncovered_run_count r f) room
    (covered_edges same_label same_label_decides_equality r v plain_label f)
    (λ at le. let parts = total-split (run_ends_at same_label (gaps_in_range r plain_label f)) 0 at (2 ^ 64 - at) (2 ^ 64) at (omega arith)
    (omega arith) in
    omega (arith, parts, more))
    (omega (arith, count, fits))

-- the runs that an edit leaves are the records of the changed labels, in order
pub edited : (change : Option LabelView → Option LabelView) (r : RangeView) (rs now : List (RunOf LabelView)) → AreRecords rs →
    r.base + r.size ≤ 2 ^ 64 → IsRunsOf (change_range change r (value_at rs)) now →
    AreRecords now × (now ≡ records_for (change_range change r (value_at rs)))
edited change r rs now known ends is =
    let within = amended_ends change r (value_at rs) (2 ^ 64) ends known.within in (
      record {
        runs = is.runs;
        within = λ x le. is.each x ∙ within x le;
      },
      records_for-is (change_range change r (value_at rs)) now within is,
    )

-- an empty range changes nothing
pub no_edit : (change : Option LabelView → Option LabelView) (r : RangeView) (rs : List (RunOf LabelView)) → AreRecords rs → r.size ≡ 0 →
    rs ≡ records_for (change_range change r (value_at rs))
no_edit change r rs known empty =
    let f = value_at rs in
    let same : (x : ℕ) → f x ≡ change_range change r f x = λ x. let off : covers r x ≡ false = grind (arith, nat_tests) in rw off refl in
    records_for-is (change_range change r f) rs (λ x le. sym (same x) ∙ known.within x le) (record { runs = known.runs; each = same })

pub labels_tell : (same : LabelView → LabelView → Bool) × DecidesEquality same
labels_tell = (same_label, same_label_decides_equality)
