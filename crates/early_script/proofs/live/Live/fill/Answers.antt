-- The bytes of the range are filled, and the ID owned all of them.
use Rattle.std.proofs.Common.{◌≡◌, ◌≤◌, false, nat_lt, Ok, [], ◌∷◌, ◌++◌, length, refl, ap, subst, arith}
use Rattle.std.proofs.lemmas.Bool.Decides.{nat_tests}
use Rattle.bm_base.specs.Range.{RangeView}
use Rattle.boot_journal.specs.JournalView.{JournalView}
use Rattle.growth_model.specs.Bytes.{Fill}
use Rattle.growth_model.proofs.FillLaws.{holds-fill}
use Rattle.early_script.specs.declared.outcome.Outcome.TheVariants as outcomes
use Rattle.early_script.specs.Effects.{fill_whole_range, fill_effect}
use Rattle.early_script.specs.FromMemblock.{state_of_memblock, memblock_bytes}
use Rattle.early_script.proofs.HoldLaws.{holds-as, holds-by}
use Rattle.early_script.proofs.live.Live.fill.Goals as goal

pub returns-clause-holds : goal.returns-clause-holds
returns-clause-holds c = λ fills holds.
    let m = c.args.mb.now in
    let next = c.fill.new.self in
    let old = state_of_memblock c.args.self.now m in
    let f : Fill = record { range = c.in-Ok.range; byte = c.args.byte; at = length m.journal.items } in
    let size = subst (λ (r : RangeView). r.size ≤ 65536) c.range.view_is c.if-range-gt-MAX_FILL_BYTES.false in
    let few : nat_lt 65536 c.in-Ok.range.size ≡ false = grind (arith, nat_tests) in
    let same = rw few at (c.in-Ok.ensures.range (fill_whole_range old c.args.byte)) in
    holds-by (Ok outcomes.Done) (state_of_memblock c.args.self.now next) (fill_effect old c.args.id c.args.byte) _
    (memblock_bytes next) fills same
    (holds-as m.kernel next.kernel m.journal.items next.journal.items (fills ++ f ∷ []) (memblock_bytes next) (memblock_bytes next)
    c.in_ok-fill.ensures.kernel (ap (λ (j : JournalView). j.items) c.in_ok-fill.ensures.journal) (λ x. refl)
    (holds-fill m.kernel m.journal.items fills f (memblock_bytes m)
    (memblock_bytes next) holds refl c.in-Ok.ensures.away c.in_ok-fill.ensures.ok))
