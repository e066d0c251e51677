-- Lemmas: a line that is accepted is the printed line of what was read.
use Rattle.std.proofs.Common.{◌≡◌, ℕ, ◌-◌, ◌^◌, ◌&&◌, Bool, true, false, nat_le, nat_lt, if◌then◌else◌, List, [], ◌∷◌, ◌++◌, codes, Option, Some, None, refl, ap, ◌∙◌, sym, inl, inr, append-nil, ◌⊎◌}
use Rattle.std.specs.Fmt.{decimal}
use Rattle.bm_base.specs.Range.{RangeView, end_of}
use Rattle.bm_base.specs.Text.{hex_text}
use Rattle.bm_base.specs.declared.zone.Zone.{Zone}
use Rattle.bm_base.specs.declared.zone.Zone.TheVariants as zones
use Rattle.audit_lines.specs.Blocks.{BlockLineView, bytes_of_block}
use Rattle.audit_lines.specs.Fields.{address_in, rest_after, is_at_end, number_in, range_at_start}
use Rattle.audit_lines.specs.Forms.{block_in, block_if_bounded, map_type_name, map_line_in, zone_in}
use Rattle.audit_lines.specs.declared.lines.MapLine.{MapLine}
use Rattle.audit_lines.proofs.FieldLaws.{after_is}
use Rattle.report_memory.specs.Lines.{range_text}
use Rattle.audit_roundtrip.proofs.FormLaws.{apart_eight, apart_five, block_words, map_words}
use Rattle.audit_roundtrip.proofs.ReadLaws.{address_is, chain, left_of_found, number_is, range_is, value_of_found}
use Rattle.bm_base.specs.OptionSteps.{some_if}
use Rattle.bm_base.specs.Zones.{zone_name}

none_left : (text : List ℕ) (u : Unit {0}) → is_at_end text ≡ Some u → text ≡ []
none_left [] u is = refl
none_left (b ∷ bs) u is = cc

-- this and the following: for lines of the map
map_parts : (l : MapLine) (range : RangeView) (kind : ℕ) (text one two three four five : List ℕ)
    → ◌≡◌ {A = MapLine} (record { range = range; kind = kind }) l
    → text ≡ range_text range ++ one → one ≡ codes " " ++ two → two ≡ decimal kind ++ three → three ≡ codes " " ++ four
    → four ≡ map_type_name kind ++ five → five ≡ [] → text ≡ map_words l
map_parts l range kind text one two three four five line a b c d e f =
    a ∙ ap (λ (xs : List ℕ). range_text range ++ xs) (b ∙ ap (λ (xs : List ℕ). codes " " ++ xs) (c
    ∙ ap (λ (xs : List ℕ). decimal kind ++ xs) (d
    ∙ ap (λ (xs : List ℕ). codes " " ++ xs) (e ∙ ap (λ (xs : List ℕ). map_type_name kind ++ xs) f ∙ append-nil (map_type_name kind)))))
    ∙ sym (apart_five (range_text range) (codes " ") (decimal kind) (codes " ") (map_type_name kind)) ∙ ap map_words line

pub map_is : (index : ℕ) (text : List ℕ) (l : MapLine) → map_line_in index text ≡ Some l → text ≡ map_words l
unfolding map_line_in
map_is index text l found =
    let one = chain (range_at_start text) _ l found in
    let two = chain (rest_after (codes " ") one.0.1) _ l one.1.1 in
    let three = chain (number_in (2 ^ 32 - 1) two.0) _ l two.1.1 in
    let four = chain (some_if (nat_lt 0 three.0.0)) _ l three.1.1 in
    let five = chain (rest_after (codes " ") three.0.1) _ l four.1.1 in
    let six = chain (rest_after (map_type_name three.0.0) five.0) _ l five.1.1 in
    let seven = chain (is_at_end six.0) _ l six.1.1 in
    map_parts l one.0.0 three.0.0 text one.0.1 two.0 three.0.1 five.0 six.0 (line_is one.0.0 three.0.0 seven.1.1)
    (range_is one.0.0 text one.0.1 one.1.0) (after_is (codes " ") one.0.1 two.0 two.1.0)
    (number_is (2 ^ 32 - 1) three.0.0 two.0 three.0.1 three.1.0) (after_is (codes " ") three.0.1 five.0 five.1.0)
    (after_is (map_type_name three.0.0) five.0 six.0 six.1.0) (none_left six.0 seven.0 seven.1.0)
  where
    line_is : (range : RangeView) (kind : ℕ) → ◌≡◌ {A = Option MapLine} (Some (record { range = range; kind = kind })) (Some l)
        → ◌≡◌ {A = MapLine} (record { range = range; kind = kind }) l
    line_is range kind is = cc

-- this and the following: for lines of blocks
has_value : {A : Type 0} (o : Option A) → (o ≡ None) ⊎ ((a : A) × (o ≡ Some a))
has_value None = inl refl
has_value (Some a) = inr (a, refl)

zone_at : (there zone : Zone) (text left rest : List ℕ) → text ≡ zone_name there ++ left
    → ◌≡◌ {A = Option (Zone × List ℕ)} (Some (there, left)) (Some (zone, rest)) → text ≡ zone_name zone ++ rest
zone_at there zone text left rest is same =
    is ∙ ap (λ (z : Zone). zone_name z ++ left) (value_of_found there zone left rest same)
    ∙ ap (λ (xs : List ℕ). zone_name zone ++ xs) (left_of_found there zone left rest same)

zone_is : (zone : Zone) (text rest : List ℕ) → zone_in text ≡ Some (zone, rest) → text ≡ zone_name zone ++ rest
unfolding zone_in
zone_is zone text rest found =
    elim (has_value (rest_after (codes "DMA32") text)) as (λ _. text ≡ zone_name zone ++ rest) [
      | inr one ↦ zone_at zones.Dma32 zone text one.0 rest (after_is (codes "DMA32") text one.0 one.1) (rw (one.1) at found)
      | inl none ↦ elim (has_value (rest_after (codes "DMA") text)) as (λ _. text ≡ zone_name zone ++ rest) [
        | inr two ↦ zone_at zones.Dma zone text two.0 rest (after_is (codes "DMA") text two.0 two.1) (rw (none, two.1) at found)
        | inl neither ↦ elim (has_value (rest_after (codes "Normal") text)) as (λ _. text ≡ zone_name zone ++ rest) [
          | inr three ↦
              zone_at zones.Normal zone text three.0 rest (after_is (codes "Normal") text three.0 three.1)
              (rw (none, neither, three.1) at found)
          | inl all ↦ let wrong : ◌≡◌ {A = Option (Zone × List ℕ)} None (Some (zone, rest)) = rw (none, neither, all) at found in cc
        ]
      ]
    ]

block_parts : (b : BlockLineView) (text one two three four five six seven eight : List ℕ) → text ≡ codes "node " ++ one
    → one ≡ decimal b.node ++ two
    → two ≡ codes " zone " ++ three → three ≡ zone_name b.zone ++ four → four ≡ codes " order " ++ five → five ≡ decimal b.order ++ six
    → six ≡ codes " " ++ seven → seven ≡ hex_text b.at ++ eight → eight ≡ [] → text ≡ block_words b
block_parts b text one two three four five six seven eight a c d e f g h i j =
    a ∙ ap (λ (xs : List ℕ). codes "node " ++ xs) (c ∙ ap (λ (xs : List ℕ). decimal b.node ++ xs) (d
    ∙ ap (λ (xs : List ℕ). codes " zone " ++ xs) (e ∙ ap (λ (xs : List ℕ). zone_name b.zone ++ xs) (f
    ∙ ap (λ (xs : List ℕ). codes " order " ++ xs) (g ∙ ap (λ (xs : List ℕ). decimal b.order ++ xs) (h
    ∙ ap (λ (xs : List ℕ). codes " " ++ xs) (i ∙ ap (λ (xs : List ℕ). hex_text b.at ++ xs) j ∙ append-nil (hex_text b.at))))))))
    ∙ sym (apart_eight (codes "node ") (decimal b.node) (codes " zone ") (zone_name b.zone) (codes " order ") (decimal b.order) (codes " ")
    (hex_text b.at))

bounded_is : (c b : BlockLineView) → block_if_bounded c ≡ Some b → c ≡ b
bounded_is c b found = by_test (nat_le c.order 10 && nat_le (end_of (bytes_of_block c)) (2 ^ 52)) found
  where
    by_test : (test : Bool) → ◌≡◌ {A = Option BlockLineView} (if test then Some c else None) (Some b) → c ≡ b
    by_test false is = cc
    by_test true is = cc

pub block_is : (index : ℕ) (text : List ℕ) (b : BlockLineView) → block_in index text ≡ Some b → text ≡ block_words b
unfolding block_in
block_is index text b found =
    let one = chain (rest_after (codes "node ") text) _ b found in
    let two = chain (number_in (2 ^ 32 - 1) one.0) _ b one.1.1 in
    let three = chain (rest_after (codes " zone ") two.0.1) _ b two.1.1 in
    let four = chain (zone_in three.0) _ b three.1.1 in
    let five = chain (rest_after (codes " order ") four.0.1) _ b four.1.1 in
    let six = chain (number_in 10 five.0) _ b five.1.1 in
    let seven = chain (rest_after (codes " ") six.0.1) _ b six.1.1 in
    let eight = chain (address_in seven.0) _ b seven.1.1 in
    let nine = chain (is_at_end eight.0.1) _ b eight.1.1 in
    let read : BlockLineView = record { node = two.0.0; zone = four.0.0; order = six.0.0; at = eight.0.0 } in
    block_parts read text one.0 two.0.1 three.0 four.0.1 five.0 six.0.1 seven.0 eight.0.1 (after_is (codes "node ") text one.0 one.1.0)
    (number_is (2 ^ 32 - 1) two.0.0 one.0 two.0.1 two.1.0) (after_is (codes " zone ") two.0.1 three.0 three.1.0)
    (zone_is four.0.0 three.0 four.0.1 four.1.0) (after_is (codes " order ") four.0.1 five.0 five.1.0)
    (number_is 10 six.0.0 five.0 six.0.1 six.1.0) (after_is (codes " ") six.0.1 seven.0 seven.1.0)
    (address_is eight.0.0 seven.0 eight.0.1 eight.1.0) (none_left eight.0.1 nine.0 nine.1.0)
    ∙ ap block_words (bounded_is read b nine.1.1)
