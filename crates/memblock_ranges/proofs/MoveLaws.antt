-- Moving a table to another place.
use Rattle.std.proofs.Common.{◌≡◌, ℕ, ◌+◌, ◌-◌, ◌*◌, ◌^◌, ◌<◌, ◌≤◌, List, ◌||◌, max, nat_le, nat_lt, refl, sym, ◌∙◌, ap, arith, IsTrue}
use Rattle.std.proofs.lemmas.Bool.{true_from_ne_false}
use Rattle.std.proofs.lemmas.Bool.Decides.{nat_tests}
use Rattle.bm_base.specs.Range.{RangeView, Meet}
use Rattle.phys_store.specs.Bytes.{ExtentView, byte_of, is_prepared_at, ArePrepared, WritesBytes}
use Rattle.memblock_ranges.specs.declared.region.Head.{Head}
use Rattle.memblock_ranges.specs.Tables.{HasTable, bytes_of_head, MovesTable}
use Rattle.memblock_ranges.proofs.SpellLaws.{same_records}
use Rattle.memblock_ranges.proofs.ByteEdits.{record_there}

abbrev bytes : ℕ → ℕ → RangeView
bytes base size = record { base = base; size = size }

-- two ranges that have an address in common overlap
both : (r s : RangeView) (x : ℕ) → r.base ≤ x → x < r.base + r.size → s.base ≤ x → x < s.base + s.size → Meet r s
both r s x a b c d = (x, grind (arith, nat_tests))

-- the bytes that are copied don't overlap those that they are copied to
pub copied_apart : (old room count place : ℕ) → count ≤ room → ¬ Meet (bytes old (24 * room)) (bytes place (48 * room)) →
    IsTrue (nat_le (old + 24 * count) place || nat_le (place + 24 * count) old)
copied_apart old room count place few apart =
    true_from_ne_false (nat_le (old + 24 * count) place || nat_le (place + 24 * count) old) (λ meet.
    let under : place < old + 24 * count = grind (arith, nat_tests) in
    let over : old < place + 24 * count = grind (arith, nat_tests) in
    apart (both (bytes old (24 * room)) (bytes place (48 * room)) (max old place) (omega arith) (omega arith) (omega arith) (omega arith)))

pub moves : (s t u v : List ExtentView) (g : Head) (place used free size : ℕ) → HasTable s g → place + 48 * g.room < 2 ^ 64 →
    ArePrepared s place (48 * g.room) →
    ¬ Meet (bytes_of_head g) (bytes place (48 * g.room)) →
    WritesBytes s t place used (λ k. byte_of s (g.place + k)) → WritesBytes t u (place + used) free (λ _. 0)
    → WritesBytes u v g.place size (λ _. 0) →
    used ≡ 24 * g.count → free ≡ 48 * g.room - used → size ≡ 24 * g.room →
    MovesTable s v g (record { place = place; room = 2 * g.room; count = g.count }) place
moves s t u v g place used free size table small prepared apart copied cleared zeroed used_is free_is size_is =
    let old : ℕ = g.place in
    let few = table.few in
    let off : (x : ℕ) → place ≤ x → x < place + 48 * g.room → byte_of v x ≡ byte_of u x = λ x low high.
    zeroed.outside x (true_from_ne_false (nat_lt x old || nat_le (old + size) x) (λ within.
    apart (both (bytes_of_head g) (bytes place (48 * g.room)) x (grind (arith, nat_tests)) (grind (arith, nat_tests)) low high))) in
    let there : (k : ℕ) → k < 24 * g.count → byte_of v (place + k) ≡ byte_of s (old + k) = λ k less.
    off (place + k) (omega arith) (omega arith) ∙ cleared.outside (place + k) (grind (arith, nat_tests))
    ∙ copied.within k (omega (arith, used_is, less)) in
    let after : (x : ℕ) → place + 24 * g.count ≤ x → x < place + 48 * g.room → byte_of v x ≡ 0 = λ x low high.
    let here : place + used + (x - (place + used)) ≡ x = omega (arith, used_is, low) in
    off x (omega arith) high ∙ ap (byte_of u) (sym here)
    ∙ cleared.within (x - (place + used)) (omega (arith, used_is, free_is, low, high)) in
    let ready : (x : ℕ) → is_prepared_at v x ≡ is_prepared_at s x = λ x. zeroed.ready x ∙ cleared.ready x ∙ copied.ready x in
    record {
      list_is = same_records (byte_of s) (byte_of v) old place g.count there;
      table = record {
        few = omega arith;
        fits = omega (arith, small);
        records = λ i less. record_there (byte_of s) (byte_of v) (old + 24 * i) (place + 24 * i)
            (λ k in_it.
            let here : place + 24 * i + k ≡ place + (24 * i + k) = omega arith in
            let from : old + (24 * i + k) ≡ old + 24 * i + k = omega arith in
            ap (byte_of v) here ∙ there (24 * i + k) (omega arith) ∙ ap (byte_of s) from) (table.records i less);
        zeros = λ x low high. after x low (omega (arith, high));
        prepared = λ x low high. ready x ∙ prepared x low (omega (arith, high));
      };
      place_is = refl;
      room_is = refl;
      left = λ x lies.
          let low : old ≤ x = grind (arith, nat_tests) in
          let here : old + (x - old) ≡ x = omega arith in
          ap (byte_of v) (sym here) ∙ zeroed.within (x - old) (grind (arith, nat_tests));
      elsewhere = λ x out_new out_old. zeroed.outside x (grind (arith, nat_tests)) ∙ cleared.outside x (grind (arith, nat_tests))
          ∙ copied.outside x (grind (arith, nat_tests));
      ready = ready;
    }
