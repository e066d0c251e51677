-- The lines of the three reports, each without its newline.
use Rattle.std.specs.Prelude.{ℕ, ◌-◌, ◌^◌, ◌==◌, ◌&&◌, ◌||◌, Bool, true, false, nat_le, nat_lt, if◌then◌else◌, List, [], ◌∷◌, codes, Option, Some, None}
use Rattle.std.specs.Option.{option_map}
use Rattle.bm_base.specs.Range.{RangeView, end_of}
use Rattle.bm_base.specs.OptionSteps.{◌>>=◌, some_if}
use Rattle.bm_base.specs.Text.{padded_decimal}
use Rattle.bm_base.specs.declared.zone.Zone.{Zone}
use Rattle.bm_base.specs.declared.zone.Zone.TheVariants as zones
use Rattle.audit_lines.specs.Blocks.{BlockLineView, bytes_of_block}
use Rattle.audit_lines.specs.Fields.{rest_after, is_at_end, number_in, address_in, range_at_start}
use Rattle.audit_lines.specs.declared.lines.MapLine.{MapLine}

-- the name of a type of memory in the report `map` (`enum e820_type`)
unfoldable pub map_type_name : ℕ → List ℕ
map_type_name kind =
    if kind == 1 then codes "usable" else
    (if kind == 2 then codes "reserved" else
    (if kind == 3 then codes "ACPI data" else
    (if kind == 4 then codes "ACPI NVS" else
    (if kind == 5 then codes "unusable" else
    (if kind == 7 then codes "persistent" else
    (if kind == 12 then codes "persistent legacy" else
    (if kind == 128 then codes "usable kernel" else
    (if kind == 4026531839 then codes "soft reserved" else codes "other"))))))))

-- the line `FIRST..LAST TYPE NAME` of `map`: a range of addresses, the number of its type, which
-- isn't 0, and the name of that type
unfoldable pub map_line_in : ℕ → List ℕ → Option MapLine
map_line_in index text = do
  range ← range_at_start text
  kind_text ← rest_after (codes " ") range.1
  kind ← number_in (2 ^ 32 - 1) kind_text
  above ← some_if (nat_lt 0 kind.0)
  name ← rest_after (codes " ") kind.1
  left ← rest_after (map_type_name kind.0) name
  nothing ← is_at_end left
  Some (record { range = range.0; kind = kind.0 })

-- whether the argument is the empty text
abbrev pub is_empty_rest : Option (List ℕ) → Bool
is_empty_rest (Some []) = true
is_empty_rest (Some (b ∷ bs)) = false
is_empty_rest None = false

-- whether the text and `word` are the same bytes
unfoldable pub is_exactly : List ℕ → List ℕ → Bool
is_exactly word text = is_empty_rest (rest_after word text)

-- whether the argument is a decimal number below 2^32, and nothing else
abbrev pub is_number_rest : Option (List ℕ) → Bool
is_number_rest None = false
is_number_rest (Some text) = is_empty_rest (option_map (λ number. number.1) (number_in (2 ^ 32 - 1) text))

-- whether the text is `front` followed by a decimal number below 2^32, and nothing else
unfoldable pub is_numbered : List ℕ → List ℕ → Bool
is_numbered front text = is_number_rest (rest_after front text)

-- whether the text is the name of an owner that claims memory at the start of the boot
abbrev pub is_first_owner : List ℕ → Bool
is_first_owner text =
    is_exactly (codes "kernel") text || is_exactly (codes "low-64k") text || is_exactly (codes "initrd") text
    || is_exactly (codes "low-1m") text
    || is_exactly (codes "soft-reserved") text

-- whether the text is the name of an owner that claims memory later in the boot and has no number:
-- one of memblock's tables, a part of the crash area, or the table of section roots (the kernel's
-- `mem_section`)
abbrev pub is_later_owner : List ℕ → Bool
is_later_owner text =
    is_exactly (codes "table-memory") text || is_exactly (codes "table-reserved") text || is_exactly (codes "crash") text
    || is_exactly (codes "crash-low") text || is_exactly (codes "roots") text

-- whether the text is the name of an owner that has a number, followed by a number below 2^32,
-- such as `node-data 1`
abbrev pub is_numbered_owner : List ℕ → Bool
is_numbered_owner text =
    is_numbered (codes "node-data ") text || is_numbered (codes "root ") text || is_numbered (codes "usage ") text
    || is_numbered (codes "map ") text || is_numbered (codes "script ") text

-- whether the text is the name of an owner, as the report `owners` prints it
unfoldable pub is_owner : List ℕ → Bool
is_owner text = is_first_owner text || is_later_owner text || is_numbered_owner text

-- the range that the line `INDEX: FIRST..LAST OWNER` of `owners` states; INDEX is the number of
-- the line, from 0, in four columns
unfoldable pub owner_line_in : ℕ → List ℕ → Option RangeView
owner_line_in index text = do
  colon ← rest_after (padded_decimal 4 index) text
  range_text ← rest_after (codes ": ") colon
  range ← range_at_start range_text
  name ← rest_after (codes " ") range.1
  known ← some_if (is_owner name)
  Some range.0

-- the zone whose name is at the start of the text, and the text after the name
unfoldable pub zone_in : List ℕ → Option (Zone × List ℕ)
zone_in text = dma32 (rest_after (codes "DMA32") text) (rest_after (codes "DMA") text) (rest_after (codes "Normal") text)
  where
    dma32 : Option (List ℕ) → Option (List ℕ) → Option (List ℕ) → Option (Zone × List ℕ)
    dma32 (Some left) dma normal = Some (zones.Dma32, left)
    dma32 None (Some left) normal = Some (zones.Dma, left)
    dma32 None None (Some left) = Some (zones.Normal, left)
    dma32 None None None = None

-- the block, if its order is at most 10 and it ends at or below 2^52
abbrev pub block_if_bounded : BlockLineView → Option BlockLineView
block_if_bounded b = if nat_le b.order 10 && nat_le (end_of (bytes_of_block b)) (2 ^ 52) then Some b else None

-- the line `node N zone Z order O ADDRESS` of `blocks`: a block of 2^O frames from ADDRESS on
unfoldable pub block_in : ℕ → List ℕ → Option BlockLineView
block_in index text = do
  node_text ← rest_after (codes "node ") text
  node ← number_in (2 ^ 32 - 1) node_text
  zone_text ← rest_after (codes " zone ") node.1
  zone ← zone_in zone_text
  order_text ← rest_after (codes " order ") zone.1
  order ← number_in 10 order_text
  at_text ← rest_after (codes " ") order.1
  at ← address_in at_text
  nothing ← is_at_end at.1
  block_if_bounded (record { node = node.0; zone = zone.0; order = order.0; at = at.0 })
