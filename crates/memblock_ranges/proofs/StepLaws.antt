-- A table stays equal to that of a list of items, item by item.
use Rattle.std.proofs.Common.{◌≡◌, ◌^◌, Option, Some, None, List, [], ◌∷◌, ◌++◌, sym, ◌∙◌, ap, subst}
use Rattle.std.specs.Prelude.{unwrap_or}
use Rattle.std.specs.Option.{option_map}
use Rattle.address_runs.specs.Runs.{RunOf, value_at}
use Rattle.address_runs.specs.Edits.{IsEmptyFrom}
use Rattle.run_edits.proofs.AmendLaws.{amended_ends}
use Rattle.memblock_model.specs.declared.owner.Which.{Which}
use Rattle.memblock_model.specs.declared.owner.Which.TheVariants as which
use Rattle.memblock_model.specs.declared.item.Item.{Item}
use Rattle.memblock_model.specs.declared.item.Item.TheVariants as item
use Rattle.memblock_model.specs.Labels.{LabelView, Labels, plain_label, with_node, with_mirror}
use Rattle.memblock_model.specs.Tables.{table_of, table_after, records_for, records_of}
use Rattle.memblock_model.proofs.ItemLaws.{table_of-push}
use Rattle.memblock_model.proofs.TableLaws.{records-edit, nothing-trimmed}
use Rattle.memblock_ranges.specs.Steps.{RangeEndsInAddressSpace}

pub edited-items : (w : Which) (items : List Item) (i : Item) (old new : List (RunOf LabelView)) → IsEmptyFrom (2 ^ 64) (table_of w items) →
    old ≡ records_of w items → new ≡ records_for (table_after w (value_at old) i) → new ≡ records_of w (items ++ i ∷ [])
unfolding records_of
edited-items w items i old new none was is =
    records-edit (λ f. table_after w f i) (table_of w items) (table_of w (items ++ i ∷ [])) old new none was is (table_of-push w items i)

pub untouched-items : (w : Which) (items : List Item) (i : Item) (old : List (RunOf LabelView)) → old ≡ records_of w items →
    table_after w (table_of w items) i ≡ table_of w items → old ≡ records_of w (items ++ i ∷ [])
unfolding records_of
untouched-items w items i old was same = was ∙ ap records_for (sym (table_of-push w items i ∙ same))

after_within : (w : Which) (f : Labels) (i : Item) → RangeEndsInAddressSpace i → IsEmptyFrom (2 ^ 64) f
    → IsEmptyFrom (2 ^ 64) (table_after w f i)
after_within which.Memory f (item.Mem range) ends none =
    amended_ends (λ carried. Some (unwrap_or carried plain_label)) range f (2 ^ 64) ends none
after_within which.Memory f item.Trim ends none = nothing-trimmed (2 ^ 64) f none
after_within which.Memory f (item.Node range node) ends none = amended_ends (option_map (with_node (Some node))) range f (2 ^ 64) ends none
after_within which.Memory f (item.Mirror range) ends none = amended_ends (option_map with_mirror) range f (2 ^ 64) ends none
after_within which.Memory f (item.Claim range owner) ends none = none
after_within which.Memory f (item.Free range) ends none = none
after_within which.Memory f (item.Limit at) ends none = none
after_within which.Memory f (item.Upward on) ends none = none
after_within which.Memory f (item.Grown v place room) ends none = none
after_within which.Reserved f (item.Mem range) ends none = none
after_within which.Reserved f item.Trim ends none = none
after_within which.Reserved f (item.Node range node) ends none = none
after_within which.Reserved f (item.Mirror range) ends none = none
after_within which.Reserved f (item.Claim range owner) ends none =
    amended_ends (λ carried. Some (unwrap_or carried plain_label)) range f (2 ^ 64) ends none
after_within which.Reserved f (item.Free range) ends none = amended_ends (λ (carried : Option LabelView). None) range f (2 ^ 64) ends none
after_within which.Reserved f (item.Limit at) ends none = none
after_within which.Reserved f (item.Upward on) ends none = none
after_within which.Reserved f (item.Grown v place room) ends none = none

pub items-within : (w : Which) (items : List Item) (i : Item) → RangeEndsInAddressSpace i → IsEmptyFrom (2 ^ 64) (table_of w items) →
    IsEmptyFrom (2 ^ 64) (table_of w (items ++ i ∷ []))
items-within w items i ends none =
    subst (λ (f : Labels). IsEmptyFrom (2 ^ 64) f) (sym (table_of-push w items i)) (after_within w (table_of w items) i ends none)
