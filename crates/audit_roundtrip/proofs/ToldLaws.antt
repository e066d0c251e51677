-- Lemmas: each line of the three reports is read back.
use Rattle.std.proofs.Common.{◌≡◌, ℕ, ◌<◌, ◌^◌, List, [], ◌∷◌, length, map, codes, Option, Ok, true, refl, ap, arith}
use Rattle.std.specs.List.{All}
use Rattle.std.proofs.lemmas.List.Elements.{All-head, All-tail}
use Rattle.address_runs.specs.Runs.{RunOf, range_of_run}
use Rattle.bm_base.specs.Range.{RangeView}
use Rattle.bm_base.specs.declared.zone.Zone.{Zone}
use Rattle.bm_base.specs.declared.zone.Zone.TheVariants as zones
use Rattle.audit_lines.specs.Blocks.{bytes_of_block}
use Rattle.audit_lines.specs.Forms.{block_in, is_exactly, is_numbered, is_owner, map_type_name, map_line_in, owner_line_in}
use Rattle.audit_lines.specs.Fields.{rest_after}
use Rattle.audit_lines.specs.Lines.{AscendApart, StartFrom}
use Rattle.audit_lines.specs.Reports.{report_of}
use Rattle.audit_roundtrip.specs.PrintedLines.{IsPrintableBlock, IsPrintableOwner, IsPrintableOwnerRun, IsPrintableRun, line_of_block, line_of_run}
use Rattle.buddy_blocks.specs.declared.block.Block.{Block}
use Rattle.memblock_model.specs.declared.owner.Owner.{Owner}
use Rattle.memblock_model.specs.declared.owner.Owner.TheVariants as owners
use Rattle.memblock_model.specs.declared.owner.Which.TheVariants as which
use Rattle.report_memory.specs.Lines.{indexed_lines}
use Rattle.report_memory.specs.MapText.{e820_type_name, map_line, map_text}
use Rattle.report_memory.specs.OwnersText.{owner_line, owner_text, owners_text}
use Rattle.report_stages.specs.BlocksText.{block_line}
use Rattle.audit_roundtrip.proofs.FormLaws.{block_one, block_read, block_words, map_one, map_owner, map_read, map_words, named_line, node_owner, numbered_line, owner_one, owner_read, owner_words, root_owner, script_owner, usage_owner}
use Rattle.audit_roundtrip.proofs.ReportLaws.{AreReadBack, IsReadBack, lines_read}
use Rattle.audit_roundtrip.proofs.SplitLaws.{IsOneLine}
use Rattle.bm_base.specs.Zones.{zone_name}

module _ {L X : Type 0} (form : ℕ → List ℕ → Option L) (extent : L → RangeView) (line text : ℕ → X → List ℕ) (seen : X → L) (P : X → Type 0)
    (each : (x : X) → P x → IsReadBack form extent line text seen x) where
  all_back : (xs : List X) → All P xs → AreReadBack form extent line text seen xs
  all_back [] all = tt
  all_back (x ∷ xs) all = (each x (All-head P x xs all), all_back xs (All-tail P x xs all))

-- the audit and the report `map` have the same names for types
pub same_name : (kind : ℕ) → map_type_name kind ≡ e820_type_name kind
unfolding map_type_name
same_name kind = refl

run_back : (r : RunOf ℕ) → IsPrintableRun r
    → IsReadBack map_line_in (λ l. l.range) map_line (λ n x. map_words (line_of_run x)) line_of_run r
run_back r told = record {
  ended = λ n. rw (same_name r.value) refl;
  one = λ n small. map_one (line_of_run r) told.0.0 told.0.1 told.1.1;
  read = λ n. map_read (line_of_run r) n told.0.0 told.0.1 told.1.0 told.1.1;
}

name_known : (o : Owner) → IsPrintableOwner o → is_owner (owner_text o) ≡ true
unfolding is_owner is_exactly is_numbered rest_after
name_known owners.Kernel told = refl
name_known owners.Low64K told = refl
name_known owners.Initrd told = refl
name_known owners.Low1M told = refl
name_known owners.Soft told = refl
name_known (owners.Table which.Memory) told = refl
name_known (owners.Table which.Reserved) told = refl
name_known (owners.NodeData n) told = node_owner n told
name_known owners.Crash told = refl
name_known owners.CrashLow told = refl
name_known owners.Roots told = refl
name_known (owners.Root n) told = root_owner n told
name_known (owners.Usage n) told = usage_owner n told
name_known (owners.Map n) told = map_owner n told
name_known (owners.Script n) told = script_owner n told

name_line : (o : Owner) → IsPrintableOwner o → IsOneLine (owner_text o)
name_line owners.Kernel told = named_line (codes "kernel") refl
name_line owners.Low64K told = named_line (codes "low-64k") refl
name_line owners.Initrd told = named_line (codes "initrd") refl
name_line owners.Low1M told = named_line (codes "low-1m") refl
name_line owners.Soft told = named_line (codes "soft-reserved") refl
name_line (owners.Table which.Memory) told = named_line (codes "table-memory") refl
name_line (owners.Table which.Reserved) told = named_line (codes "table-reserved") refl
name_line (owners.NodeData n) told = numbered_line (codes "node-data ") n told refl
name_line owners.Crash told = named_line (codes "crash") refl
name_line owners.CrashLow told = named_line (codes "crash-low") refl
name_line owners.Roots told = named_line (codes "roots") refl
name_line (owners.Root n) told = numbered_line (codes "root ") n told refl
name_line (owners.Usage n) told = numbered_line (codes "usage ") n told refl
name_line (owners.Map n) told = numbered_line (codes "map ") n told refl
name_line (owners.Script n) told = numbered_line (codes "script ") n told refl

owner_back : (r : RunOf Owner) → IsPrintableOwnerRun r
    → IsReadBack owner_line_in (λ e. e) owner_line (λ n x. owner_words n (range_of_run x) (owner_text x.value)) range_of_run r
owner_back r told = record {
  ended = λ n. refl;
  one = λ n small. owner_one (range_of_run r) (owner_text r.value) n small told.0.0 told.0.1 (name_line r.value told.1);
  read = λ n. owner_read (range_of_run r) (owner_text r.value) n told.0.0 told.0.1 (name_known r.value told.1);
}

block_back : (b : Block) → IsPrintableBlock b
    → IsReadBack block_in bytes_of_block block_line (λ n x. block_words (line_of_block x)) line_of_block b
block_back b told = record {
  ended = λ n. refl;
  one = λ n small. block_one (line_of_block b) told.0 told.1;
  read = λ n. block_read (line_of_block b) n told.0 told.1;
}

-- every address is at or above 0, so the ranges start from 0
from_first : (rs : List RangeView) → StartFrom 0 rs
from_first [] = tt
from_first (r ∷ rs) = omega arith

ranges_told : (runs : List (RunOf ℕ)) → map (λ l. l.range) (map line_of_run runs) ≡ map range_of_run runs
ranges_told [] = refl
ranges_told (r ∷ rs) = ap (λ (es : List RangeView). range_of_run r ∷ es) (ranges_told rs)

pub map_back : (runs : List (RunOf ℕ)) → length runs < 2 ^ 64 → All IsPrintableRun runs → AscendApart (map range_of_run runs)
    → report_of map_line_in (λ l. l.range) (map_text runs) ≡ Ok (map line_of_run runs)
map_back runs few told order =
    lines_read map_line_in (λ l. l.range) map_line (λ n x. map_words (line_of_run x)) line_of_run runs 0 0 (omega (arith, few))
    (all_back map_line_in (λ l. l.range) map_line (λ n x. map_words (line_of_run x)) line_of_run IsPrintableRun run_back runs told)
    (from_first (map (λ l. l.range) (map line_of_run runs))) (rw (ranges_told runs) order)

same_ranges : (es : List RangeView) → map (λ e. e) es ≡ es
same_ranges [] = refl
same_ranges (e ∷ es) = ap (λ (others : List RangeView). e ∷ others) (same_ranges es)

pub owners_back : (runs : List (RunOf Owner)) → length runs < 2 ^ 64 → All IsPrintableOwnerRun runs → AscendApart (map range_of_run runs)
    → report_of owner_line_in (λ r. r) (owners_text runs) ≡ Ok (map range_of_run runs)
owners_back runs few told order =
    lines_read owner_line_in (λ e. e) owner_line (λ n x. owner_words n (range_of_run x) (owner_text x.value)) range_of_run runs 0 0
    (omega (arith, few))
    (all_back owner_line_in (λ e. e) owner_line (λ n x.
    owner_words n (range_of_run x) (owner_text x.value)) range_of_run IsPrintableOwnerRun owner_back
    runs told)
    (from_first (map (λ e. e) (map range_of_run runs))) (rw (same_ranges (map range_of_run runs)) order)

pub blocks_back : (blocks : List Block) → length blocks < 2 ^ 64 → All IsPrintableBlock blocks
    → AscendApart (map bytes_of_block (map line_of_block blocks))
    → report_of block_in bytes_of_block (indexed_lines block_line 0 blocks) ≡ Ok (map line_of_block blocks)
blocks_back blocks few told order =
    lines_read block_in bytes_of_block block_line (λ n x. block_words (line_of_block x)) line_of_block blocks 0 0 (omega (arith, few))
    (all_back block_in bytes_of_block block_line (λ n x.
    block_words (line_of_block x)) line_of_block IsPrintableBlock block_back blocks told)
    (from_first (map bytes_of_block (map line_of_block blocks))) order
