-- A table's records and labels determine each other, and an edit of one is an edit of the other.
use Rattle.std.proofs.Common.{◌≡◌, ℕ, ◌^◌, ◌≤◌, None, List, [], ◌∷◌, sym, ◌∙◌, ap, inl, inr, arith}
use Rattle.std.proofs.lemmas.Bool.{cases_Bool}
use Rattle.std.specs.List.{fold}
use Rattle.address_runs.specs.Runs.{RunOf, value_at, IsRunsOf}
use Rattle.address_runs.proofs.RunsLaws.{runs_of_are_runs, runs_equal_runs_of}
use Rattle.memblock_model.specs.declared.owner.Which.{Which}
use Rattle.memblock_model.specs.declared.item.Item.{Item}
use Rattle.memblock_model.specs.declared.item.Item.TheVariants as item
use Rattle.address_runs.specs.Edits.{IsEmptyFrom}
use Rattle.memblock_model.specs.Labels.{LabelView, Labels}
use Rattle.memblock_model.specs.Same.{same_which, same_label}
use Rattle.memblock_model.specs.Items.{trim_frames}
use Rattle.memblock_model.specs.Tables.{records_for, room_after, room_of}
use Rattle.memblock_model.proofs.LabelLaws.{trim_frames-whole, trim_frames-cases}
use Rattle.memblock_model.proofs.SameLaws.{same_label_decides_equality}

-- the records are the runs of the labels
pub records_for-runs : (f : Labels) → IsEmptyFrom (2 ^ 64) f → IsRunsOf f (records_for f)
unfolding records_for
records_for-runs f ends = runs_of_are_runs same_label same_label_decides_equality f ends

-- every list of the runs of the labels is the list of records
pub records_for-is : (f : Labels) (rs : List (RunOf LabelView)) → IsEmptyFrom (2 ^ 64) f → IsRunsOf f rs → rs ≡ records_for f
unfolding records_for
records_for-is f rs ends known = runs_equal_runs_of same_label same_label_decides_equality f rs ends known

-- the records give each address its label
pub value_at-records : (f : Labels) → IsEmptyFrom (2 ^ 64) f → value_at (records_for f) ≡ f
value_at-records f ends = λ k x. (records_for-runs f ends).each x k

-- an edit of the labels that the records give is the same edit of the table's labels
pub records-edit : (edit : Labels → Labels) (f g : Labels) (rs now : List (RunOf LabelView)) → IsEmptyFrom (2 ^ 64) f → rs ≡ records_for f
    → now ≡ records_for (edit (value_at rs)) → g ≡ edit f → now ≡ records_for g
records-edit edit f g rs now ends old new same =
    new ∙ ap (λ (t : Labels). records_for (edit t)) (ap value_at old ∙ value_at-records f ends) ∙ ap records_for (sym same)

-- a trim gives no label to addresses that have none
pub nothing-trimmed : (at : ℕ) (f : Labels) → IsEmptyFrom at f → IsEmptyFrom at (trim_frames f)
nothing-trimmed at f none x le =
    elim (trim_frames-cases f x) as (λ _. trim_frames f x ≡ None) [ inl one ↦ trim_frames-whole f x one ∙ none x le | inr bare ↦ bare ]

-- a table always has room for at least 128 records
room_after-least : (w : Which) (n : ℕ) (i : Item) → 128 ≤ n → 128 ≤ room_after w n i
room_after-least w n (item.Grown v place room) least =
    elim (cases_Bool (same_which w v)) as (λ _. 128 ≤ room_after w n (item.Grown v place room))
    [ inl this ↦ rw this (omega arith) | inr other ↦ rw other least ]
room_after-least w n i least = least

room_fold-least : (w : Which) (n : ℕ) (items : List Item) → 128 ≤ n → 128 ≤ fold (room_after w) n items
room_fold-least w n [] least = least
room_fold-least w n (i ∷ is) least = room_fold-least w (room_after w n i) is (room_after-least w n i least)

pub room_of-least : (w : Which) (items : List Item) → 128 ≤ room_of w items
room_of-least w items = room_fold-least w 128 items (omega arith)
