-- Lemmas: each printed line is read as what it states.
use Rattle.std.proofs.Common.{◌≡◌, ℕ, ◌-◌, ◌^◌, ◌<◌, ◌==◌, Bool, true, false, nat_le, nat_lt, if◌then◌else◌, List, [], ◌∷◌, ◌++◌, codes, Some, refl, ap, ◌∙◌, sym, arith, append_assoc, append-nil}
use Rattle.std.specs.Fmt.{decimal}
use Rattle.std.proofs.lemmas.Bool.Decides.{nat_tests}
use Rattle.bm_base.specs.Range.{RangeView, end_of}
use Rattle.bm_base.specs.Text.{hex_text, padded_decimal}
use Rattle.bm_base.specs.declared.zone.Zone.{Zone}
use Rattle.bm_base.specs.declared.zone.Zone.TheVariants as zones
use Rattle.audit_lines.specs.Blocks.{BlockLineView, IsBlockLine, bytes_of_block}
use Rattle.audit_lines.specs.Fields.{address_in, rest_after, number_in}
use Rattle.audit_lines.specs.Forms.{block_in, is_exactly, is_numbered, is_owner, map_type_name, map_line_in, owner_line_in, zone_in}
use Rattle.audit_lines.specs.declared.lines.MapLine.{MapLine}
use Rattle.audit_lines.proofs.FieldLaws.{after_front}
use Rattle.audit_roundtrip.proofs.NumberLaws.{address_line, address_read, number_line, number_read, range_line, range_read, index_line}
use Rattle.report_memory.specs.Lines.{index_text, range_text}
use Rattle.audit_roundtrip.proofs.SplitLaws.{IsOneLine, one_line-append}
use Rattle.bm_base.specs.Zones.{zone_name}

-- eight texts one after another, however they are bracketed
pub apart_eight : (a b c d e f g h : List ℕ)
    → ((((((a ++ b) ++ c) ++ d) ++ e) ++ f) ++ g) ++ h ≡ a ++ (b ++ (c ++ (d ++ (e ++ (f ++ (g ++ h))))))
apart_eight a b c d e f g h =
    append_assoc (((((a ++ b) ++ c) ++ d) ++ e) ++ f) g h ∙ append_assoc ((((a ++ b) ++ c) ++ d) ++ e) f (g ++ h)
    ∙ append_assoc (((a ++ b) ++ c) ++ d) e (f ++ (g ++ h)) ∙ append_assoc ((a ++ b) ++ c) d (e ++ (f ++ (g ++ h)))
    ∙ append_assoc (a ++ b) c (d ++ (e ++ (f ++ (g ++ h)))) ∙ append_assoc a b (c ++ (d ++ (e ++ (f ++ (g ++ h)))))

zone_read : (zone : Zone) (rest : List ℕ) → zone_in (zone_name zone ++ (32 ∷ rest)) ≡ Some (zone, 32 ∷ rest)
unfolding zone_in rest_after
zone_read zones.Dma rest = refl
zone_read zones.Dma32 rest = refl
zone_read zones.Normal rest = refl

-- the line of a block is read as that block
block_by : (b : BlockLineView) (index : ℕ) → b.node < 2 ^ 32 → IsBlockLine b
    → block_in index (codes "node " ++ (decimal b.node ++ (codes " zone " ++ (zone_name b.zone ++ (codes " order " ++ (decimal b.order
    ++ (codes " " ++ hex_text b.at))))))) ≡ Some b
unfolding block_in
block_by b index node fits =
    let last : List ℕ = codes " " ++ hex_text b.at in
    let order_on : List ℕ = codes " order " ++ (decimal b.order ++ last) in
    let zone_on : List ℕ = codes " zone " ++ (zone_name b.zone ++ order_on) in
    let at : address_in (hex_text b.at) ≡ Some (b.at, []) =
    ap address_in (sym (append-nil (hex_text b.at))) ∙ address_read b.at [] (omega (arith, fits.1)) in
    let small : nat_le b.order 10 ≡ true = grind (arith, nat_tests, fits.0) in
    let near : nat_le (end_of (bytes_of_block b)) (2 ^ 52) ≡ true = grind (arith, nat_tests, fits.1) in
    rw (
      after_front (codes "node ") (decimal b.node ++ zone_on),
      number_read (2 ^ 32 - 1) b.node zone_on (omega (arith, node)) (omega arith) refl,
      after_front (codes " zone ") (zone_name b.zone ++ order_on),
      zone_read b.zone (codes "order " ++ (decimal b.order ++ last)),
      after_front (codes " order ") (decimal b.order ++ last),
      number_read 10 b.order last fits.0 (omega arith) refl,
      after_front (codes " ") (hex_text b.at),
      at,
      small,
      near,
    ) refl

abbrev pub block_words : BlockLineView → List ℕ
block_words b =
    codes "node " ++ decimal b.node ++ codes " zone " ++ zone_name b.zone ++ codes " order " ++ decimal b.order ++ codes " "
    ++ hex_text b.at

pub block_read : (b : BlockLineView) (index : ℕ) → b.node < 2 ^ 32 → IsBlockLine b → block_in index (block_words b) ≡ Some b
block_read b index node fits =
    ap (block_in index) (apart_eight (codes "node ") (decimal b.node) (codes " zone ") (zone_name b.zone) (codes " order ")
    (decimal b.order) (codes " ") (hex_text b.at)) ∙ block_by b index node fits

zone_line : (zone : Zone) → IsOneLine (zone_name zone)
zone_line zones.Dma = (refl, (refl, (refl, tt)))
zone_line zones.Dma32 = (refl, (refl, (refl, (refl, (refl, tt)))))
zone_line zones.Normal = (refl, (refl, (refl, (refl, (refl, (refl, tt))))))

-- texts without a newline are together a text without a newline
one_line-more : (xs : List ℕ) (word ys : List ℕ) → IsOneLine xs → IsOneLine word → IsOneLine ys → IsOneLine ((xs ++ word) ++ ys)
one_line-more xs word ys first middle last = one_line-append (xs ++ word) ys (one_line-append xs word first middle) last

pub block_one : (b : BlockLineView) → b.node < 2 ^ 32 → IsBlockLine b → IsOneLine (block_words b)
block_one b node fits =
    one_line-more (codes "node " ++ decimal b.node ++ codes " zone " ++ zone_name b.zone ++ codes " order " ++ decimal b.order) (codes " ")
    (hex_text b.at)
    (one_line-more (codes "node " ++ decimal b.node ++ codes " zone " ++ zone_name b.zone) (codes " order ") (decimal b.order)
    (one_line-more (codes "node " ++ decimal b.node) (codes " zone ") (zone_name b.zone)
    (one_line-append (codes "node ") (decimal b.node) (refl, (refl, (refl, (refl, (refl, tt))))) (number_line b.node (omega (arith, node))))
    (refl, (refl, (refl, (refl, (refl, (refl, tt)))))) (zone_line b.zone))
    (refl, (refl, (refl, (refl, (refl, (refl, (refl, tt))))))) (number_line b.order (omega (arith, fits.0))))
    (refl, tt) (address_line b.at (omega (arith, fits.1)))

-- this and the following: the line of a run of the map is read as that run
pub apart_five : (a b c d e : List ℕ) → (((a ++ b) ++ c) ++ d) ++ e ≡ a ++ (b ++ (c ++ (d ++ e)))
apart_five a b c d e =
    append_assoc ((a ++ b) ++ c) d e ∙ append_assoc (a ++ b) c (d ++ e) ∙ append_assoc a b (c ++ (d ++ e))

map_by : (l : MapLine) (index : ℕ) → 0 < l.range.size → end_of l.range < 2 ^ 64 → 0 < l.kind → l.kind < 2 ^ 32
    → map_line_in index (range_text l.range ++ (codes " " ++ (decimal l.kind ++ (codes " " ++ map_type_name l.kind)))) ≡ Some l
unfolding map_line_in
map_by l index some near kind small =
    let name : List ℕ = codes " " ++ map_type_name l.kind in
    let left : rest_after (map_type_name l.kind) (map_type_name l.kind) ≡ Some [] =
    ap (rest_after (map_type_name l.kind)) (sym (append-nil (map_type_name l.kind))) ∙ after_front (map_type_name l.kind) [] in
    let above : nat_lt 0 l.kind ≡ true = grind (arith, nat_tests, kind) in
    rw (
      range_read l.range (codes " " ++ (decimal l.kind ++ name)) some near,
      after_front (codes " ") (decimal l.kind ++ name),
      number_read (2 ^ 32 - 1) l.kind name (omega (arith, small)) (omega arith) refl,
      above,
      after_front (codes " ") (map_type_name l.kind),
      left,
    ) refl

abbrev pub map_words : MapLine → List ℕ
map_words l = range_text l.range ++ codes " " ++ decimal l.kind ++ codes " " ++ map_type_name l.kind

pub map_read : (l : MapLine) (index : ℕ) → 0 < l.range.size → end_of l.range < 2 ^ 64 → 0 < l.kind → l.kind < 2 ^ 32
    → map_line_in index (map_words l) ≡ Some l
map_read l index some near kind small =
    ap (map_line_in index) (apart_five (range_text l.range) (codes " ") (decimal l.kind) (codes " ") (map_type_name l.kind))
    ∙ map_by l index some near kind small

one_line-if : (test : Bool) (xs ys : List ℕ) → IsOneLine xs → IsOneLine ys → IsOneLine (if test then xs else ys)
one_line-if true xs ys first second = first
one_line-if false xs ys first second = second

-- whether a text has no newline, as a test that computation decides for a known text
abbrev is_one_line : List ℕ → Bool
is_one_line [] = true
is_one_line (b ∷ bs) = if b == 10 then false else is_one_line bs

one_line-by : (xs : List ℕ) → is_one_line xs ≡ true → IsOneLine xs
one_line-by [] is = tt
one_line-by (b ∷ bs) is = by_test (b == 10) refl is (one_line-by bs)
  where
    by_test : (test : Bool) → (b == 10) ≡ test → (if test then false else is_one_line bs) ≡ true → (is_one_line bs ≡ true → IsOneLine bs)
        → IsOneLine (b ∷ bs)
    by_test true here is rest = cc
    by_test false here is rest = (here, rest is)

kind_line : (kind : ℕ) → IsOneLine (map_type_name kind)
unfolding map_type_name
kind_line kind =
    one_line-if (kind == 1) _ _ (one_line-by (codes "usable") refl)
    (one_line-if (kind == 2) _ _ (one_line-by (codes "reserved") refl)
    (one_line-if (kind == 3) _ _ (one_line-by (codes "ACPI data") refl)
    (one_line-if (kind == 4) _ _ (one_line-by (codes "ACPI NVS") refl)
    (one_line-if (kind == 5) _ _ (one_line-by (codes "unusable") refl)
    (one_line-if (kind == 7) _ _ (one_line-by (codes "persistent") refl)
    (one_line-if (kind == 12) _ _ (one_line-by (codes "persistent legacy") refl)
    (one_line-if (kind == 128) _ _ (one_line-by (codes "usable kernel") refl)
    (one_line-if (kind == 4026531839) _ _ (one_line-by (codes "soft reserved") refl) (one_line-by (codes "other") refl)))))))))

pub map_one : (l : MapLine) → 0 < l.range.size → end_of l.range < 2 ^ 64 → l.kind < 2 ^ 32 → IsOneLine (map_words l)
map_one l some near small =
    one_line-more (range_text l.range ++ codes " " ++ decimal l.kind) (codes " ") (map_type_name l.kind)
    (one_line-more (range_text l.range) (codes " ") (decimal l.kind) (range_line l.range some near) (refl, tt)
    (number_line l.kind (omega (arith, small))))
    (refl, tt) (kind_line l.kind)

-- the line of an owner is read as its range
owner_by : (r : RangeView) (name : List ℕ) (index : ℕ) → 0 < r.size → end_of r < 2 ^ 64 → is_owner name ≡ true
    → owner_line_in index (padded_decimal 4 index ++ (codes ": " ++ (range_text r ++ (codes " " ++ name)))) ≡ Some r
unfolding owner_line_in
owner_by r name index some near known =
    rw (
      after_front (padded_decimal 4 index) (codes ": " ++ (range_text r ++ (codes " " ++ name))),
      after_front (codes ": ") (range_text r ++ (codes " " ++ name)),
      range_read r (codes " " ++ name) some near,
      after_front (codes " ") name,
      known,
    ) refl

abbrev pub owner_words : ℕ → RangeView → List ℕ → List ℕ
owner_words index r name = index_text index ++ range_text r ++ codes " " ++ name

pub owner_read : (r : RangeView) (name : List ℕ) (index : ℕ) → 0 < r.size → end_of r < 2 ^ 64 → is_owner name ≡ true
    → owner_line_in index (owner_words index r name) ≡ Some r
owner_read r name index some near known =
    ap (owner_line_in index) (apart_five (padded_decimal 4 index) (codes ": ") (range_text r) (codes " ") name)
    ∙ owner_by r name index some near known

pub owner_one : (r : RangeView) (name : List ℕ) (index : ℕ) → index < 2 ^ 64 → 0 < r.size → end_of r < 2 ^ 64 → IsOneLine name
    → IsOneLine (owner_words index r name)
owner_one r name index small some near one =
    one_line-more (index_text index ++ range_text r) (codes " ") name
    (one_line-append (index_text index) (range_text r)
    (one_line-append (padded_decimal 4 index) (codes ": ") (index_line index small) (refl, (refl, tt))) (range_line r some near))
    (refl, tt) one

-- the name of a numbered owner, followed by its number, is accepted
pub owner_with_number_is_read : (front : List ℕ) (n : ℕ) → n < 2 ^ 32 → is_numbered front (front ++ decimal n) ≡ true
unfolding is_numbered
owner_with_number_is_read front n small =
    let read : number_in (2 ^ 32 - 1) (decimal n) ≡ Some (n, []) =
    ap (number_in (2 ^ 32 - 1)) (sym (append-nil (decimal n))) ∙ number_read (2 ^ 32 - 1) n [] (omega (arith, small)) (omega arith) tt in
    rw (after_front front (decimal n), read) refl

pub numbered_line : (front : List ℕ) (n : ℕ) → n < 2 ^ 32 → is_one_line front ≡ true → IsOneLine (front ++ decimal n)
numbered_line front n small one = one_line-append front (decimal n) (one_line-by front one) (number_line n (omega (arith, small)))

pub named_line : (name : List ℕ) → is_one_line name ≡ true → IsOneLine name
named_line name one = one_line-by name one

pub node_owner : (n : ℕ) → n < 2 ^ 32 → is_owner (codes "node-data " ++ decimal n) ≡ true
unfolding is_owner is_exactly rest_after
node_owner n small = rw (owner_with_number_is_read (codes "node-data ") n small) refl

pub root_owner : (n : ℕ) → n < 2 ^ 32 → is_owner (codes "root " ++ decimal n) ≡ true
unfolding is_owner is_exactly is_numbered rest_after
root_owner n small = rw (owner_with_number_is_read (codes "root ") n small) refl

pub usage_owner : (n : ℕ) → n < 2 ^ 32 → is_owner (codes "usage " ++ decimal n) ≡ true
unfolding is_owner is_exactly is_numbered rest_after
usage_owner n small = rw (owner_with_number_is_read (codes "usage ") n small) refl

pub map_owner : (n : ℕ) → n < 2 ^ 32 → is_owner (codes "map " ++ decimal n) ≡ true
unfolding is_owner is_exactly is_numbered rest_after
map_owner n small = rw (owner_with_number_is_read (codes "map ") n small) refl

pub script_owner : (n : ℕ) → n < 2 ^ 32 → is_owner (codes "script " ++ decimal n) ≡ true
unfolding is_owner is_exactly is_numbered rest_after
script_owner n small = rw (owner_with_number_is_read (codes "script ") n small) refl
