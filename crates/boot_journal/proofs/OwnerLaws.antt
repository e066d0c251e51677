-- The runs of bytes with one owner that a journal keeps.
use Rattle.std.proofs.Common.{◌≡◌, ℕ, ◌^◌, List, [], ◌∷◌, ◌++◌, sym, ◌∙◌}
use Rattle.address_runs.specs.Runs.{RunOf, value_at, IsRunsOf}
use Rattle.address_runs.specs.Edits.{IsEmptyFrom}
use Rattle.address_runs.proofs.RunsLaws.{runs_equal_runs_of}
use Rattle.memblock_model.specs.declared.owner.Owner.{Owner}
use Rattle.memblock_model.specs.declared.item.Item.{Item}
use Rattle.memblock_model.specs.Same.{same_owner}
use Rattle.memblock_model.specs.Items.{owners_after, owner_of, owner_runs_of}
use Rattle.memblock_model.proofs.SameLaws.{same_owner_decides_equality}
use Rattle.memblock_model.proofs.ItemLaws.{owner_of-push}

-- an item changes the runs as it changes the owners of bytes
pub owner_runs_after_item : (items : List Item) (i : Item) (rs now : List (RunOf Owner)) → IsRunsOf (owner_of items) rs
    → IsRunsOf (owners_after (value_at rs) i) now
    → IsRunsOf (owner_of (items ++ i ∷ [])) now
owner_runs_after_item items i rs now known new =
    let told : value_at rs ≡ owner_of items = λ k x. known.each x k in
    rw (owner_of-push items i) (rw told at new)

-- if the runs give no owner to addresses at or above 2^64, no byte there has one
pub owners_within : (items : List Item) (rs : List (RunOf Owner)) → IsRunsOf (owner_of items) rs → IsEmptyFrom (2 ^ 64) (value_at rs)
    → IsEmptyFrom (2 ^ 64) (owner_of items)
owners_within items rs known none x le = sym (known.each x) ∙ none x le

-- the runs of the owners are the list that `owner_runs_of` gives
pub owner_list : (items : List Item) (rs : List (RunOf Owner)) → IsRunsOf (owner_of items) rs → IsEmptyFrom (2 ^ 64) (owner_of items) → rs
    ≡ owner_runs_of items
unfolding owner_runs_of
owner_list items rs known none = runs_equal_runs_of same_owner same_owner_decides_equality (owner_of items) rs none known
