use Rattle.std.proofs.Common.{◌+◌, ◌-◌, ◌<◌, length, map, sym, ◌∙◌, arith}
use Rattle.std.proofs.lemmas.List.{get_or_read, get_or-drop}
use Rattle.phys_store.specs.Extents.{extent_view}
use Rattle.phys_store.proofs.Lookup.{Holds, holds_one, read-at, none-found, byte-unready}
use Rattle.phys_store.proofs.extents.byte_at.Goals as goal
use Rattle.phys_store.proofs.extents.byte_at.Goals.{In-Some}

-- the extent that has the address
has_it : (c : In-Some) → Holds c.args.extents.now c.args.address 0 c.in-Some.ensures.0 c.in-Some.extent.now
has_it c =
    let (i, found, is) = c.in-Some.ensures in holds_one c.args.extents.now c.args.address i c.in-Some.extent.now c.requires found is

pub overflow_sub-address : goal.overflow_sub-address
overflow_sub-address c = (has_it (goal.at.overflow_sub-address c).In-Some).low

pub index-requires : goal.index-requires
index-requires c = let h = has_it (goal.at.index-requires c).In-Some in omega (arith, h.low, h.inner, h.long, h.len)

pub overflow_add-extent : goal.overflow_add-extent
overflow_add-extent c = let h = has_it (goal.at.overflow_add-extent c).In-Some in omega (arith, h.room, h.most)

pub returns-in-Some : goal.returns-in-Some
returns-in-Some c =
    let e = c.in-Some.extent.now in
    let i = c.in-Some.ensures.0 in
    let h = has_it (goal.at.returns-in-Some c).In-Some in
    let k = e.front + (c.args.address - e.base) in
    let below : k < length e.bytes.items = omega (arith, h.low, h.inner, h.long) in
    get_or_read e.bytes.items k c.index.result.now below c.index.ensures 0
    ∙ sym (get_or-drop e.front e.bytes.items (c.args.address - e.base) 0)
    ∙ sym (read-at 0 (map extent_view c.args.extents.now) i (extent_view e) c.args.address c.requires h.count h.there h.low h.inner).0

pub returns-in-None : goal.returns-in-None
returns-in-None c =
    let es = c.args.extents.now in
    sym (byte-unready (map extent_view es) c.args.address (none-found es c.args.address c.in-None.ensures))
