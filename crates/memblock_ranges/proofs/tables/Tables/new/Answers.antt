use Rattle.std.proofs.Common.{◌≡◌, ℕ, ◌-◌, Bool, ◌||◌, List, sym, ◌∙◌, ap, subst, arith}
use Rattle.std.proofs.Math.Bool.{or-false}
use Rattle.bm_base.specs.Range.{RangeView, covers, end_of}
use Rattle.phys_store.specs.Bytes.{ExtentView, byte_of, is_prepared_at}
use Rattle.memblock_ranges.specs.declared.region.Head.{Head}
use Rattle.memblock_ranges.specs.Tables.{bytes_of_head, AreTables}
use Rattle.memblock_ranges.proofs.NewLaws.{first_head, new_tables}
use Rattle.memblock_ranges.proofs.tables.Tables.new.Goals as goal

pub invariant_of-result : goal.invariant_of-result
invariant_of-result c =
    let end : ℕ = end_of c.args.kernel in
    let s = c.prepare-2.new.self in
    let m : c.empty_built_in_head.result ≡ first_head (end - 8192) = c.empty_built_in_head.ensures.head in
    let r : c.empty_built_in_head-2.result ≡ first_head (end - 4096) = c.empty_built_in_head-2.ensures.head in
    let t = c.prepare.new.self in
    let none = c.new-store.ensures in
    let second : c.bytes-2.result ≡ bytes_of_head (first_head (end - 4096)) = c.bytes-2.ensures ∙ ap bytes_of_head r in
    let first : c.bytes.result ≡ bytes_of_head (first_head (end - 8192)) = c.bytes.ensures ∙ ap bytes_of_head m in
    let zeros : (x : ℕ) → byte_of s x ≡ 0 = λ x. c.prepare-2.ensures.bytes x ∙ c.prepare.ensures.bytes x
    ∙ ap (λ (l : List ExtentView). byte_of l x) none in
    let one : (x : ℕ) → is_prepared_at t x ≡ covers (bytes_of_head (first_head (end - 8192))) x = λ x.
    c.in_ok-prepare.ensures.ready x ∙ ap (λ (l : List ExtentView). covers c.bytes.result x || is_prepared_at l x) none
    ∙ or-false (covers c.bytes.result x) ∙ ap (λ (e : RangeView). covers e x) first in
    let two : (x : ℕ)
    → is_prepared_at s x ≡ (covers (bytes_of_head (first_head (end - 4096))) x || covers (bytes_of_head (first_head (end - 8192))) x) =
    λ x.
    c.in_ok-prepare-2.ensures.ready x ∙ ap (λ (b : Bool). covers c.bytes-2.result x || b) (one x)
    ∙ ap (λ (e : RangeView). covers e x || covers (bytes_of_head (first_head (end - 8192))) x) second in
    let known : AreTables s (first_head (end - 8192)) (first_head (end - 4096)) =
    new_tables s end (omega (arith, c.requires)) c.empty_built_in_head.ensures.small zeros two in
    subst (λ (h : Head). AreTables s h c.empty_built_in_head-2.result) (sym m)
    (subst (λ (h : Head). AreTables s (first_head (end - 8192)) h) (sym r) known)
