-- A record of a table as 24 little-endian bytes without padding (`struct memblock_region`): base
-- (u64 at 0), size (u64 at 8), flags (u32 at 16), node (u32 at 20). The flags are 2 for mirrored
-- memory (`MEMBLOCK_MIRROR`), else 0. The node 1,024 means no node (`MAX_NUMNODES`).
use Rattle.std.specs.Prelude.{◌≡◌, ℕ, zero, suc, ◌+◌, ◌-◌, ◌*◌, ◌^◌, ◌<◌, ◌≤◌, ◌==◌, if◌then◌else◌, Option, Some, None, List, [], ◌∷◌, ◌++◌, drop, replicate, unwrap_or}
use Rattle.byteorder.specs.Endian.{little_number, little_bytes}
use Rattle.phys_store.specs.Bytes.{bytes_at}
use Rattle.address_runs.specs.Runs.{RunOf, run_end}
use Rattle.memblock_model.specs.Labels.{LabelView}
use Rattle.memblock_ranges.specs.declared.region.Region.{Region}

-- the four fields in the 24 bytes of a record: base, size, flags and node
unfoldable pub base_in : List ℕ → ℕ
base_in bs = little_number 8 bs

unfoldable pub size_in : List ℕ → ℕ
size_in bs = little_number 8 (drop 8 bs)

unfoldable pub flags_in : List ℕ → ℕ
flags_in bs = little_number 4 (drop 16 bs)

unfoldable pub node_in : List ℕ → ℕ
node_in bs = little_number 4 (drop 20 bs)

-- the four fields of any 24 bytes, which may be no valid record
abbrev pub decode_region : List ℕ → Region
decode_region bs = record { base = base_in bs; size = size_in bs; flags = flags_in bs; node = node_in bs }

-- the 24 bytes of a record with these four fields
unfoldable pub encode_fields : ℕ → ℕ → ℕ → ℕ → List ℕ
encode_fields base size flags node = little_bytes 8 base ++ (little_bytes 8 size ++ (little_bytes 4 flags ++ little_bytes 4 node))

-- the node that a record's node field means, or None for 1,024
abbrev pub node_of_field : ℕ → Option ℕ
node_of_field field = if field == 1024 then None else Some field

-- the label that a record's flags and node field mean
abbrev pub label_of : ℕ → ℕ → LabelView
label_of flags field = record { node = node_of_field field; mirror = flags == 2 }

-- the flags in the record of a range with this label: 2 if it is mirrored, else 0
abbrev pub flags_field : LabelView → ℕ
flags_field label = if label.mirror then 2 else 0

-- the node field in the record of a range with this label: the node, or 1,024 if it has none
abbrev pub node_field : LabelView → ℕ
node_field label = unwrap_or label.node 1024

-- the record that 24 bytes encode: a run of addresses with one label
abbrev pub decode_record : List ℕ → RunOf LabelView
decode_record bs = record { base = base_in bs; size = size_in bs; value = label_of (flags_in bs) (node_in bs) }

-- the four fields of the record for this run
abbrev pub region_of : RunOf LabelView → Region
region_of r = record { base = r.base; size = r.size; flags = flags_field r.value; node = node_field r.value }

-- the 24 bytes of the record for this run
abbrev pub encode_record : RunOf LabelView → List ℕ
encode_record r = encode_fields r.base r.size (flags_field r.value) (node_field r.value)

-- the runs that n records describe, which lie one after another from address `a` on; `f` gives the
-- byte at each address
unfoldable pub records_at : (ℕ → ℕ) → ℕ → ℕ → List (RunOf LabelView)
records_at f a zero = []
records_at f a (suc n) = decode_record (bytes_at f a 24) ∷ records_at f (a + 24) n

-- the bytes of a table that has these records and room for n: the records, 24 bytes each, then
-- zeros
unfoldable pub encode_table : List (RunOf LabelView) → ℕ → List ℕ
encode_table [] n = replicate (24 * n) 0
encode_table (r ∷ rs) n = encode_record r ++ encode_table rs (n - 1)

-- the run can be written as a record, and read back from it
pub record FitsRecord (r : RunOf LabelView) : Type 0 where
  pub small : run_end r < 2 ^ 64
  pub node : node_field r.value ≤ 1024
  pub back : label_of (flags_field r.value) (node_field r.value) ≡ r.value

-- the 24 bytes are a valid record: its end is below 2^64, its flags are 0 or 2, and its node is at
-- most 1,024
pub record IsRecord (bs : List ℕ) : Type 0 where
  pub spells : bs ≡ encode_fields (base_in bs) (size_in bs) (flags_in bs) (node_in bs)
  pub within : base_in bs + size_in bs < 2 ^ 64
  pub flags : flags_in bs ≡ flags_field (label_of (flags_in bs) (node_in bs))
  pub node : node_in bs ≤ 1024
