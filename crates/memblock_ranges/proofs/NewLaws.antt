-- The two empty tables of a new `Tables`.
use Rattle.std.proofs.Common.{◌≡◌, ℕ, ◌+◌, ◌-◌, ◌*◌, ◌^◌, ◌<◌, ◌≤◌, true, ◌||◌, ◌&&◌, List, [], refl, ◌∙◌, ap, arith}
use Rattle.std.proofs.lemmas.Bool.{or_left, or_right}
use Rattle.std.proofs.lemmas.Bool.Decides.{nat_tests}
use Rattle.bm_base.specs.Range.{covers}
use Rattle.phys_store.specs.Bytes.{ExtentView, byte_of, is_prepared_at}
use Rattle.address_runs.specs.Runs.{RunOf}
use Rattle.memblock_model.specs.Labels.{LabelView}
use Rattle.memblock_ranges.specs.declared.region.Head.{Head}
use Rattle.memblock_ranges.specs.Encoding.{records_at}
use Rattle.memblock_ranges.specs.Tables.{HasTable, records_of_head, TableView, table_of_head, bytes_of_head, AreRecords, AreTables, ArePlainRecords}

-- the head of a table at this address without records
abbrev pub first_head : ℕ → Head
first_head place = record { place = place; room = 128; count = 0 }

no_records : (s : List ExtentView) (place : ℕ) → records_of_head s (first_head place) ≡ []
unfolding records_at
no_records s place = refl

none_known : AreRecords []
none_known = record { runs = tt; within = λ x le. refl }

none_noded : ArePlainRecords []
none_noded = λ x label is. cc is

empty_table : (s : List ExtentView) (place : ℕ) → place + 24 * 128 < 2 ^ 64 → ((x : ℕ) → byte_of s x ≡ 0) →
    ((x : ℕ) → covers (bytes_of_head (first_head place)) x ≡ true → is_prepared_at s x ≡ true) → HasTable s (first_head place)
empty_table s place fits zeros ready = record {
  few = omega arith;
  fits = fits;
  records = λ i less. absurd (omega arith);
  zeros = λ x low high. zeros x;
  prepared = λ x low high. ready x (grind (arith, nat_tests));
}

parted : (end x : ℕ) → 8192 ≤ end → (covers (bytes_of_head (first_head (end - 8192))) x && covers
    (bytes_of_head (first_head (end - 4096))) x) ≡ true → ⊥
parted end x long lies =
    let low : x < end - 8192 + 3072 = grind (arith, nat_tests) in
    let high : end - 4096 ≤ x = grind (arith, nat_tests) in
    absurd (omega arith)

pub new_tables : (s : List ExtentView) (end : ℕ) → 8192 ≤ end → end < 2 ^ 64 → ((x : ℕ) → byte_of s x ≡ 0) →
    ((x : ℕ) → is_prepared_at s x
    ≡ (covers (bytes_of_head (first_head (end - 4096))) x || covers (bytes_of_head (first_head (end - 8192))) x)) →
    AreTables s (first_head (end - 8192)) (first_head (end - 4096))
new_tables s end long small zeros ready = record {
  memory = empty_table s (end - 8192) (omega arith) zeros
      (λ x lies. ready x
      ∙ or_right (covers (bytes_of_head (first_head (end - 4096))) x) (covers (bytes_of_head (first_head (end - 8192))) x) lies);
  reserved = empty_table s (end - 4096) (omega arith) zeros
      (λ x lies. ready x
      ∙ or_left (covers (bytes_of_head (first_head (end - 4096))) x) (covers (bytes_of_head (first_head (end - 8192))) x) lies);
  apart = λ both. let x = both.0 in let lies = both.1 in absurd (parted end x long lies);
  memory_records = rw (no_records s (end - 8192)) none_known;
  reserved_records = rw (no_records s (end - 4096)) none_known;
  plain = rw (no_records s (end - 4096)) none_noded;
}

pub first_table : (s : List ExtentView) (place : ℕ)
    → table_of_head s (first_head place) ≡ record { records = []; place = place; room = 128 }
first_table s place = ap (λ (rs : List (RunOf LabelView)). let t : TableView = record { records = rs; place = place; room = 128 } in
    t) (no_records s place)
