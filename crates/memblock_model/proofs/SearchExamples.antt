-- Worked examples: small searches, the addresses that fit and the best of them.
use Rattle.std.proofs.Common.{◌≡◌, ℕ, ◌≤◌, ◌==◌, nat_lt, true, false, if◌then◌else◌, Some, None, List, [], ◌∷◌, refl, ◌∙◌, arith}
use Rattle.std.proofs.lemmas.Bool.{false_from_ne_true}
use Rattle.std.proofs.lemmas.Bool.Decides.{nat_tests}
use Rattle.bm_base.specs.Range.{covers}
use Rattle.memblock_model.specs.declared.owner.Owner.TheVariants as owner
use Rattle.memblock_model.specs.declared.owner.Which.TheVariants as which
use Rattle.memblock_model.specs.declared.query.Query.{Query}
use Rattle.memblock_model.specs.declared.item.Item.{Item}
use Rattle.memblock_model.specs.declared.item.Item.TheVariants as item
use Rattle.bm_base.specs.Each.{each_from, each_in}
use Rattle.memblock_model.specs.Labels.{LabelView, Labels, plain_label, with_node, with_mirror}
use Rattle.memblock_model.specs.Items.{no_memory}
use Rattle.memblock_model.specs.Tables.{table_of}
use Rattle.memblock_model.specs.Search.{is_allowed_mirror, fits_in, outermost_fit, fits, best_place}
use Rattle.memblock_model.proofs.SearchLaws.{fits_in-parts, outermost_fit-first, best_place_in-plain, best_place_in-last, best_place_in-fails, plain_or_none}
use Rattle.memblock_model.proofs.ItemExamples.{bytes}

abbrev of_node : ℕ → LabelView
of_node node = with_node (Some node) plain_label

-- bytes 4096 to 4103 are memory of node 1, all others memory of node 2; byte 4101 is claimed
abbrev memory : Labels
memory x = if nat_lt x 4104 then Some (of_node 1) else Some (of_node 2)

abbrev claimed : Labels
claimed x = if x == 4101 then Some plain_label else None

-- two queries: two bytes of node 1 at an even address; two bytes of any node at any address
abbrev pairs : ℕ → ℕ → Query
pairs lo hi = record { lo = lo; hi = hi; size = 2; align = 2; node = Some 1 }

abbrev any_pairs : Query
any_pairs = record { lo = 0; hi = 4200; size = 2; align = 1; node = None }

-- two bytes of node 1 fit above the claimed byte. They don't fit over it, in the other node, in
-- the first frame, or at an odd address, though two bytes of any node at any address do. They
-- don't fit across the border of the nodes, nor outside memory.
fits_in_examples : (fits_in false memory claimed (pairs 0 4200) 4102 ≡ true) × (fits_in false memory claimed (pairs 0 4200) 4100 ≡ false)
    × (fits_in false memory claimed (pairs 0 4200) 4104 ≡ false) × (fits_in false memory claimed (pairs 0 4200) 4094 ≡ false)
    × (fits_in false memory claimed (pairs 0 4200) 4097 ≡ false) × (fits_in false memory claimed any_pairs 4097 ≡ true)
    × (fits_in false memory claimed any_pairs 4103 ≡ false) × (fits_in false no_memory claimed any_pairs 4098 ≡ false)
unfolding fits_in each_in each_from
fits_in_examples = (refl, refl, refl, refl, refl, refl, refl, refl)

-- a place may begin at the first byte of the window and end at its last, but not begin below or
-- end above it
window_examples : (fits_in false memory claimed (pairs 4098 4200) 4098 ≡ true)
    × (fits_in false memory claimed (pairs 4098 4200) 4096 ≡ false) × (fits_in false memory claimed (pairs 0 4104) 4102 ≡ true)
    × (fits_in false memory claimed (pairs 0 4103) 4102 ≡ false)
unfolding fits_in each_in each_from
window_examples = (refl, refl, refl, refl)

-- only bytes 4096 to 4103 are mirrored; all memory is of node 1
abbrev half_mirrored : Labels
half_mirrored x = if nat_lt x 4104 then Some (with_mirror (of_node 1)) else Some (of_node 1)

-- in a search of mirrored memory nothing fits in other memory; in any search nothing fits across
-- the border of both
mirrored_examples : (fits_in true memory claimed (pairs 0 4104) 4096 ≡ false)
    × (fits_in true half_mirrored claimed (pairs 0 5000) 4098 ≡ true)
    × (fits_in false half_mirrored claimed (record { lo = 0; hi = 5000; size = 2; align = 1; node = None }) 4103 ≡ false)
unfolding fits_in each_in each_from
mirrored_examples = (refl, refl, refl)

-- 64 KiB of memory: the best place for a page is the highest one, and there is none if only the
-- first frame is unclaimed
abbrev small : List Item
small = item.Mem (bytes 0 0x10000) ∷ []

abbrev page : Query
page = record { lo = 0; hi = 0x10000; size = 0x1000; align = 0x1000; node = None }

page_fits : fits small page false 0xF000 ≡ true
unfolding fits fits_in each_in each_from
page_fits = refl

page_ends : (b : ℕ) → fits_in false (table_of which.Memory small) (table_of which.Reserved small) page b ≡ true → b ≤ 0xF000
page_ends b h = let high = (fits_in-parts false (table_of which.Memory small) (table_of which.Reserved small) page b h).high in omega arith

small_is_plain : (x : ℕ) → is_allowed_mirror true (table_of which.Memory small x) ≡ false
small_is_plain x = plain_or_none (covers (bytes 0 0x10000) x)

best_page : best_place small page ≡ Some 0xF000
unfolding best_place fits
best_page = best_place_in-last (table_of which.Memory small) (table_of which.Reserved small) page 0xF000 small_is_plain
    (record { below = omega arith; passes = page_fits; last = λ b lt h. page_ends b h })

abbrev crowded : List Item
crowded = item.Mem (bytes 0 0x10000) ∷ (item.Claim (bytes 0x1000 0xF000) owner.Kernel ∷ [])

nothing_fits : (b : ℕ) → fits_in false (table_of which.Memory crowded) (table_of which.Reserved crowded) page b ≡ true → ⊥
nothing_fits b h =
    let place = fits_in-parts false (table_of which.Memory crowded) (table_of which.Reserved crowded) page b h in
    let high = place.high in
    let first = place.first in
    let inside : covers (bytes 0x1000 0xF000) b ≡ true = grind (arith, nat_tests) in
    let free : Some plain_label ≡ None = rw inside at (place.free b (omega arith) (omega arith)) in
    cc

nothing_best : best_place crowded page ≡ None
unfolding best_place
nothing_best = best_place_in-fails false (table_of which.Memory crowded) (table_of which.Reserved crowded) page
    (λ b lt. false_from_ne_true _ (nothing_fits b))

-- if the search goes up, the best place is the lowest one, and never the first frame
abbrev turned : List Item
turned = item.Mem (bytes 0 0x10000) ∷ (item.Upward true ∷ [])

page_fits_low : fits turned page false 0x1000 ≡ true
unfolding fits fits_in each_in each_from
page_fits_low = refl

lowest_page : outermost_fit (record { mirror = false; up = true }) (table_of which.Memory turned) (table_of which.Reserved turned) page
    ≡ Some 0x1000
unfolding fits
lowest_page = outermost_fit-first false (table_of which.Memory turned) (table_of which.Reserved turned) page 0x1000 (record {
  below = omega arith;
  passes = page_fits_low;
  first = λ b lt h. (fits_in-parts false (table_of which.Memory turned) (table_of which.Reserved turned) page b h).first;
})

turned_is_plain : (x : ℕ) → is_allowed_mirror true (table_of which.Memory turned x) ≡ false
turned_is_plain x = plain_or_none (covers (bytes 0 0x10000) x)

best_page_upward : best_place turned page ≡ Some 0x1000
unfolding best_place
best_page_upward =
    best_place_in-plain true (table_of which.Memory turned) (table_of which.Reserved turned) page turned_is_plain ∙ lowest_page
