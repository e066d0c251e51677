-- If the program runs out of memory at an entry, the room was too small for all entries.
use Rattle.std.proofs.Common.{◌≡◌, ℕ, ◌+◌, ◌<◌, ◌≤◌, List, ◌++◌, length, drop, get_or, refl, drop-cons, add-one}
use Rattle.std.proofs.lemmas.Result.{err_from_is_err_and}
use Rattle.std.specs.List.{flat_map}
use Rattle.slit_zonelists.specs.declared.order.ListZone.{ListZone}
use Rattle.report_memory.proofs.PutLaws.{too_small}
use Rattle.report_stages.specs.ListsText.{list_zone_text}
use Rattle.report_stages.proofs.lists.put_list_zones.Goals as goal

no_room : (zones : List ListZone) (i : ℕ) (d : ListZone) (old mid : List ℕ) (before room : ℕ) → i < length zones
    → mid ++ flat_map list_zone_text (drop i zones) ≡ old ++ flat_map list_zone_text zones → before ≤ room
    → room < length mid + length (list_zone_text (get_or zones i d)) → before < length old + length (flat_map list_zone_text zones)
no_room zones i d old mid before room within so_far less wants =
    let left : flat_map list_zone_text (drop i zones) ≡ list_zone_text (get_or zones i d) ++ flat_map list_zone_text (drop (i + 1) zones) =
    rw (drop-cons zones i d within, add-one) refl in
    too_small old mid (list_zone_text (get_or zones i d)) _
    (flat_map list_zone_text (drop (i + 1) zones)) _ before room left so_far less wants

pub returns-in_err-put_list_zone : goal.returns-in_err-put_list_zone
returns-in_err-put_list_zone c =
    let l = c.loop-entry in
    rw (err_from_is_err_and c.from_residual.result c.from_residual.ensures.1).1
    (no_room c.args.zones.now l.entry-index _ _ _ _ _ c.loop-entry-test.true l.invariant.text l.invariant.room
    c.in_err-put_list_zone.ensures)
