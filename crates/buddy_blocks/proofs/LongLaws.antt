-- Lemmas: rows are as long as possible.
use Rattle.std.proofs.Common.{◌≡◌, ◌≢◌, ◌⊎◌, ℕ, suc, ◌+◌, ◌-◌, ◌*◌, ◌%◌, ◌^◌, ◌<◌, ◌≤◌, Some, List, [], ◌∷◌, ◌++◌, sym, ◌∙◌, ap, inl, inr, arith}
use Rattle.std.proofs.lemmas.Nat.{pow_pos}
use Rattle.std.proofs.Math.Nat.{mul-pos}
use Rattle.bm_base.specs.Zones.{zone_of}
use Rattle.buddy_blocks.specs.declared.block.BlockRow.{BlockRow}
use Rattle.buddy_blocks.specs.Frames.{Frames}
use Rattle.buddy_blocks.specs.Rows.{row_end, AreJoinableRows, AreCanonicalRows}
use Rattle.buddy_blocks.specs.Sets.{IsWholeNodeRun, SetFits, LastRowFulfils, LastFrameIsFree}

-- no row of the node that begins at this frame, in frames up to the end, could be joined with this
-- row
abbrev pub EndsAt : ℕ → ℕ → ℕ → BlockRow → Type 0
EndsAt at end n r = r.order ≡ 10 → r.node ≡ n → row_end r ≡ at → (end < at + 1024) ⊎ (zone_of at ≢ r.zone)

-- what is true of the last row
last_put : (P : BlockRow → Type 0) (rs : List BlockRow) (r : BlockRow) → P r → LastRowFulfils P (rs ++ r ∷ [])
last_put P [] r holds = holds
last_put P (q ∷ []) r holds = holds
last_put P (q ∷ (p ∷ rs)) r holds = last_put P (p ∷ rs) r holds

last_so : (P Q : BlockRow → Type 0) (rs : List BlockRow) → ((r : BlockRow) → P r → Q r) → LastRowFulfils P rs → LastRowFulfils Q rs
last_so P Q [] so holds = tt
last_so P Q (r ∷ []) so holds = so r holds
last_so P Q (r ∷ (q ∷ rs)) so holds = last_so P Q (q ∷ rs) so holds

-- appending a row that can't be joined with the last one keeps the list canonical
rows_put : (rs : List BlockRow) (r : BlockRow) → 0 < r.count → ((r.order ≡ 10) ⊎ (r.count ≡ 1))
    → LastRowFulfils (λ q. AreJoinableRows q r → ⊥) rs → AreCanonicalRows rs → AreCanonicalRows (rs ++ r ∷ [])
rows_put [] r some single ends are = (some, single, tt, tt)
rows_put (q ∷ []) r some single ends are = (are.0, are.1, ends, (some, single, tt, tt))
rows_put (q ∷ (p ∷ rs)) r some single ends are = (are.0, are.1, are.2, rows_put (p ∷ rs) r some single ends are.3)

-- a run begins after a frame that isn't free, or is of another node
pub ends_at_first : (f : Frames) (first end n : ℕ) (rs : List BlockRow) → IsWholeNodeRun f first end n
    → LastRowFulfils (LastFrameIsFree f) rs
    → LastRowFulfils (EndsAt first end n) rs
ends_at_first f first end n rs run free =
    last_so (LastFrameIsFree f) (EndsAt first end n) rs
    (λ r last ten node touch.
    let next : suc (row_end r - 1) ≡ first = omega (arith, last.0, touch) in
    absurd (run.before (row_end r - 1) next (last.1 ∙ ap (λ m. Some m) node)))
    free

-- the consecutive blocks from frame `at` on are one more row of the list
pub long_more : (f : Frames) (first end n o s at k : ℕ) (rs new : List BlockRow)
    → new ≡ rs ++ record { order = o; first = at; count = k; node = n; zone = zone_of at } ∷ []
    → IsWholeNodeRun f first end n → first ≤ at → 0 < k → at + k * s ≤ end → s ≡ 2 ^ o → at % s ≡ 0 → SetFits first end at s
    → ((o ≡ 10) ⊎ (k ≡ 1)) → (o ≡ 10 → (end < at + (k + 1) * s) ⊎ (zone_of (at + k * s) ≢ zone_of at))
    → LastRowFulfils (LastFrameIsFree f) rs × LastRowFulfils (EndsAt at end n) rs × AreCanonicalRows rs
    → LastRowFulfils (LastFrameIsFree f) new × LastRowFulfils (EndsAt (at + k * s) end n) new × AreCanonicalRows new
long_more f first end n o s at k rs new put run above some room size whole fits single most old =
    let r : BlockRow = record { order = o; first = at; count = k; node = n; zone = zone_of at } in
    let positive : 0 < s = omega (arith, size, pow_pos o) in
    let frames : 0 < k * s = mul-pos some positive in
    let end_is : row_end r ≡ at + k * s = ap (λ t. at + k * t) (sym size) in
    let ends : LastFrameIsFree f r = (
      omega (arith, end_is, frames),
      run.inside (row_end r - 1) (omega (arith, end_is, frames, above)) (omega (arith, end_is, frames, room)),
    ) in
    let next : EndsAt (at + k * s) end n r = λ ten node touch.
    let s_is : s ≡ 1024 = size ∙ ap (λ p. 2 ^ p) ten in
    let sum : (k + 1) * s ≡ k * s + s = grind arith in
    elim (most ten) as (λ _. (end < at + k * s + 1024) ⊎ (zone_of (at + k * s) ≢ zone_of at)) [
      | inl lt ↦ inl (omega (arith, lt, sum, s_is))
      | inr other ↦ inr other
    ] in
    let apart : LastRowFulfils (λ q. AreJoinableRows q r → ⊥) rs =
    last_so (EndsAt at end n) (λ q. AreJoinableRows q r → ⊥) rs
    (λ q last goes.
    let ten : o ≡ 10 = goes.order ∙ goes.great in
    let s_is : s ≡ 1024 = size ∙ ap (λ p. 2 ^ p) ten in
    elim (last goes.great (sym goes.node) (sym goes.touch)) as (λ _. ⊥) [
      | inl lt ↦ absurd (omega (arith, lt, fits.below, whole, s_is))
      | inr other ↦ other goes.zone
    ])
    old.1 in
    rw put (last_put (LastFrameIsFree f) rs r ends, last_put (EndsAt (at + k * s) end n) rs r next, rows_put rs r some single apart old.2)
