-- The state of memory after a list of journal items, oldest first. Each definition lists the items
-- that change its part of the state; the other items leave that part as it was.
use Rattle.std.specs.Prelude.{ℕ, ◌<◌, Bool, false, if◌then◌else◌, Option, Some, None, List, [], ◌∷◌, fold}
use Rattle.address_runs.specs.Runs.{RunOf, runs_of}
use Rattle.address_runs.specs.Edits.{cover_range, uncover_range, relabel_range, replace_in_range, agree}
use Rattle.bm_base.specs.Frames.{frame_around}
use Rattle.bm_base.specs.Each.{each_in}
use Rattle.memblock_model.specs.Labels.{Labels, plain_label, with_node, with_mirror, tag_for}
use Rattle.memblock_model.specs.Same.{same_label, same_owner}
use Rattle.memblock_model.specs.declared.owner.Owner.{Owner}
use Rattle.memblock_model.specs.declared.label.Tag.{Tag}
use Rattle.memblock_model.specs.declared.item.Item.{Item}
use Rattle.memblock_model.specs.declared.item.Item.TheVariants as item

-- if the item has a range, the range isn't empty
abbrev pub ItemHasBytes : Item → Type 0
ItemHasBytes (item.Mem range) = 0 < range.size
ItemHasBytes (item.Node range node) = 0 < range.size
ItemHasBytes (item.Mirror range) = 0 < range.size
ItemHasBytes (item.Claim range owner) = 0 < range.size
ItemHasBytes (item.Free range) = 0 < range.size
ItemHasBytes i = Unit {0}

abbrev pub ItemsHaveBytes : List Item → Type 0
ItemsHaveBytes [] = Unit {0}
ItemsHaveBytes (i ∷ is) = ItemHasBytes i × ItemsHaveBytes is

-- the owner of each byte, or None if the byte is unclaimed
abbrev pub Owners : Type 0
Owners = ℕ → Option Owner

-- the owners after an item (`memblock_reserve`, `memblock_phys_free`)
abbrev pub owners_after : Owners → Item → Owners
owners_after f (item.Claim range owner) = replace_in_range range owner f
owners_after f (item.Free range) = uncover_range range f
owners_after f i = f

abbrev pub no_owners : Owners
no_owners x = None

-- the owner of each byte after the items. The newest Claim or Free item that covers the byte
-- decides: after a Claim it is that item's owner, after a Free None. It is None if no such item
-- covers the byte.
abbrev pub owner_of : List Item → Owners
owner_of items = fold owners_after no_owners items

-- the labels after a trim (`memblock_trim_memory`). A byte keeps its label if all bytes of its
-- 4 KiB frame have the same label. Otherwise it gets None, so it is no longer memory.
unfoldable pub trim_frames : Labels → Labels
trim_frames f x = if each_in (frame_around x) (λ y. agree same_label (f y) (f x)) then f x else None

-- the label of each byte after an item, or None if the byte isn't memory (`memblock_add`,
-- `memblock_trim_memory`, `memblock_set_node`, `memblock_mark_mirror`)
abbrev pub memory_after : Labels → Item → Labels
memory_after f (item.Mem range) = cover_range range plain_label f
memory_after f item.Trim = trim_frames f
memory_after f (item.Node range node) = relabel_range range (with_node (Some node)) f
memory_after f (item.Mirror range) = relabel_range range with_mirror f
memory_after f i = f

abbrev pub no_memory : Labels
no_memory x = None

-- the label of each byte after the items, or None if the byte isn't memory
abbrev pub memory_of : List Item → Labels
memory_of items = fold memory_after no_memory items

-- the tag of each byte after the items: whether it is memory and, if so, its node (or none) and
-- whether it is mirrored
abbrev pub tag_of : List Item → ℕ → Tag
tag_of items x = tag_for (memory_of items x)

-- the limit of allocations after an item: the newest Limit item's address; 0 before the first Limit
-- item (`memblock.current_limit`). An allocation ends at or below both the limit and its own
-- maximum (`memblock_alloc_internal`).
abbrev pub limit_after : ℕ → Item → ℕ
limit_after l (item.Limit at) = at
limit_after l i = l

abbrev pub limit_of : List Item → ℕ
limit_of items = fold limit_after 0 items

-- whether searches return the lowest address instead of the highest, after an item: the value of
-- the newest Upward item; false before the first one (`memblock_set_bottom_up`)
abbrev pub upward_after : Bool → Item → Bool
upward_after up (item.Upward on) = on
upward_after up i = up

abbrev pub upward_of : List Item → Bool
upward_of items = fold upward_after false items

-- the claimed bytes as a list of runs, lowest first: each run is a range of bytes with one owner,
-- and is as long as possible
unfoldable pub owner_runs_of : List Item → List (RunOf Owner)
owner_runs_of items = runs_of same_owner (owner_of items)
