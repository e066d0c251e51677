use Rattle.std.proofs.Common.{◌≡◌, ℕ, suc, ◌+◌, ◌-◌, ◌^◌, ◌<◌, ◌≤◌, Option, ◌++◌, length, take, drop, sym, ◌∙◌, ap, subst, arith}
use Rattle.std.proofs.lemmas.Grind.{common_steps}
use Rattle.bm_base.specs.Range.{RangeView, end_of}
use Rattle.address_runs.specs.Runs.{value_at}
use Rattle.address_runs.specs.Edits.{change_range}
use Rattle.address_runs.specs.Sweep.{StartAtOrPast, FirstEndsAtOrPast, HasValueBetween, IsRestFrom, IsSweptTo, IsBuiltTo}
use Rattle.address_runs.proofs.SweepLaws.{ends_sooner}
use Rattle.run_edits.specs.Records.{run_or_none}
use Rattle.run_edits.proofs.JoinLaws.{swept_join, swept_stretch}
use Rattle.run_edits.proofs.AmendLaws.{amended_below, amended_inside, amended_after, amended_stays, amended_stays_after, room_here}
use Rattle.run_edits.proofs.edits.edit_range.Goals as goal

pub loop-from-init : goal.loop-from-init
loop-from-init g c =
    let f : ℕ → Option g.row.S-Value.Denot = value_at (g.T.Rows.list c.args.table.now) in
    let base : c.range.inside.base ≡ c.args.range.now.base = grind (arith, common_steps) in
    record {
      first = omega arith;
      last = omega (arith, c.end-until.ensures.value);
      order = c.begin-sweep.ensures.order;
      within = c.begin-sweep.ensures.within;
      built = c.begin-sweep.ensures.built (change_range (g.C.Change.makes c.args.change) c.args.range.now f)
          (λ x under. amended_below (g.C.Change.makes c.args.change) c.args.range.now f x (omega arith));
      rest = c.begin-sweep.ensures.rest;
      keeps = g.met.T.Slots.keeps_itself c.args.table.now;
    }

pub advance-sweep-requires-clause-room : goal.advance-sweep-requires-clause-room
advance-sweep-requires-clause-room g c = λ free lt some other.
    let f : ℕ → Option g.row.S-Value.Denot = value_at (g.T.Rows.list c.args.table.now) in
    let change = g.C.Change.makes c.args.change in
    let r : RangeView = c.args.range.now in
    let from : ℕ = c.loop-from.from in
    let h = change_range change r f in
    let i = c.loop-from.invariant in
    let until : c.end-until.result ≡ end_of r = c.end-until.ensures.value in
    let small : end_of r < 2 ^ 64 = c.end-until.ensures.small in
    let first : r.base ≤ from = i.first in
    let test : from < c.end-until.result = c.loop-from-test.true in
    let next : from < c.value_and_end-here.result.1 = c.value_and_end-here.ensures.after i.rest.ends (omega arith) in
    let order : from ≤ c.min-to.result = omega arith in
    let here : h from ≡ c.apply.result = amended_inside change r f from first (omega arith)
    ∙ ap change (sym (c.value_and_end-here.ensures.value f i.rest)) ∙ sym c.apply.ensures in
    let rest : IsRestFrom f c.min-to.result (drop c.skip_ended.result (g.T.Rows.list c.loop-from.table)) =
    c.skip_ended.ensures.rest f from i.rest order (ends_sooner c.min-to.result c.value_and_end-here.result.1 _ (omega arith)
    (c.value_and_end-here.ensures.ends i.rest.ends)) in
    let room : length (g.T.Rows.list c.loop-from.table) < g.T.Slots.room c.args.table.now =
    room_here c.requires.room.0 c.requires.room.1 f h c.loop-from.sweep.start from c.min-to.result c.loop-from.sweep.value
    (g.T.Rows.list c.loop-from.table) c.loop-from.sweep.write c.skip_ended.result
    (g.T.Slots.room c.args.table.now) c.requires.room.2 c.requires.within order (omega arith) i.built
    (λ same. absurd (other (sym same ∙ here))) rest free (c.skip_ended.ensures.within i.within) lt some in
    g.met.T.Slots.keeps_room c.args.table.now c.loop-from.table i.keeps (suc (length (g.T.Rows.list c.loop-from.table))) room

pub loop-from-preserved : goal.loop-from-preserved
loop-from-preserved g c =
    let f : ℕ → Option g.row.S-Value.Denot = value_at (g.T.Rows.list c.args.table.now) in
    let change = g.C.Change.makes c.args.change in
    let r : RangeView = c.args.range.now in
    let from : ℕ = c.loop-from.from in
    let to : ℕ = c.min-to.result in
    let h = change_range change r f in
    let i = c.loop-from.invariant in
    let until : c.end-until.result ≡ end_of r = c.end-until.ensures.value in
    let small : end_of r < 2 ^ 64 = c.end-until.ensures.small in
    let first : r.base ≤ from = i.first in
    let test : from < c.end-until.result = c.loop-from-test.true in
    let next : from < c.value_and_end-here.result.1 = c.value_and_end-here.ensures.after i.rest.ends (omega arith) in
    let order : from ≤ to = omega arith in
    let value : c.apply.result ≡ change (f from) = c.apply.ensures ∙ ap change (c.value_and_end-here.ensures.value f i.rest) in
    let here : h from ≡ c.apply.result = amended_inside change r f from first (omega arith) ∙ sym value in
    let rest : IsRestFrom f to (drop c.skip_ended.result (g.T.Rows.list c.loop-from.table)) =
    c.skip_ended.ensures.rest f from i.rest order
    (ends_sooner to c.value_and_end-here.result.1 _ (omega arith) (c.value_and_end-here.ensures.ends i.rest.ends))
    in
    let stays : HasValueBetween h from to c.apply.result =
    amended_stays change r f from to c.value_and_end-here.result.1 c.apply.result first (omega arith)
    (omega arith) (c.value_and_end-here.ensures.stays f i.rest) value in
    record {
      first = omega arith;
      last = omega arith;
      order = c.advance-sweep.ensures.order;
      within = c.advance-sweep.ensures.within;
      built = c.advance-sweep.ensures.built h to i.built here order stays;
      rest = rw c.advance-sweep.ensures.rest rest;
      keeps = g.met.T.Slots.keeps_on c.args.table.now c.loop-from.table c.advance-sweep.new.table i.keeps c.advance-sweep.ensures.keeps;
    }

pub advance-sweep-requires-2-clause-room : goal.advance-sweep-requires-2-clause-room
advance-sweep-requires-2-clause-room g c = λ free lt some other.
    let f : ℕ → Option g.row.S-Value.Denot = value_at (g.T.Rows.list c.args.table.now) in
    let change = g.C.Change.makes c.args.change in
    let r : RangeView = c.args.range.now in
    let until : ℕ = c.end-until.result in
    let h = change_range change r f in
    let i = c.loop-from.invariant in
    let end : until ≡ end_of r = c.end-until.ensures.value in
    let small : end_of r < 2 ^ 64 = c.end-until.ensures.small in
    let at : c.loop-from.from ≡ until = omega (arith, i.last, c.loop-from-test.false) in
    let left : IsRestFrom f until (drop c.loop-from.sweep.read (g.T.Rows.list c.loop-from.table)) =
    subst (λ (n : ℕ). IsRestFrom f n (drop c.loop-from.sweep.read (g.T.Rows.list c.loop-from.table))) at i.rest in
    let built : IsBuiltTo h until (take c.loop-from.sweep.write (g.T.Rows.list c.loop-from.table)) c.loop-from.sweep.start
    c.loop-from.sweep.value =
    subst (λ (n : ℕ). IsBuiltTo h n (take c.loop-from.sweep.write (g.T.Rows.list c.loop-from.table)) c.loop-from.sweep.start
    c.loop-from.sweep.value) at i.built in
    let order : until ≤ c.value_and_end-here-2.result.1 = c.value_and_end-here-2.ensures.forward left.ends (omega arith) in
    let here : h until ≡ c.value_and_end-here-2.result.0 = amended_after change r f until (omega arith)
    ∙ sym (c.value_and_end-here-2.ensures.value f left) in
    let rest : IsRestFrom f c.value_and_end-here-2.result.1 (drop c.skip_ended-2.result (g.T.Rows.list c.loop-from.table)) =
    c.skip_ended-2.ensures.rest f until left order (c.value_and_end-here-2.ensures.ends left.ends) in
    let room : length (g.T.Rows.list c.loop-from.table) < g.T.Slots.room c.args.table.now =
    room_here c.requires.room.0 c.requires.room.1 f h c.loop-from.sweep.start until c.value_and_end-here-2.result.1 c.loop-from.sweep.value
    (g.T.Rows.list c.loop-from.table) c.loop-from.sweep.write c.skip_ended-2.result
    (g.T.Slots.room c.args.table.now) c.requires.room.2 c.requires.within order (grind (arith, common_steps)) built
    (λ same. absurd (other (sym same ∙ here))) rest free (c.skip_ended-2.ensures.within i.within) lt some in
    g.met.T.Slots.keeps_room c.args.table.now c.loop-from.table i.keeps (suc (length (g.T.Rows.list c.loop-from.table))) room

pub write_run-write-requires-clause-room : goal.write_run-write-requires-clause-room
write_run-write-requires-clause-room g c = λ free lt some.
    let f : ℕ → Option g.row.S-Value.Denot = value_at (g.T.Rows.list c.args.table.now) in
    let change = g.C.Change.makes c.args.change in
    let r : RangeView = c.args.range.now in
    let until : ℕ = c.end-until.result in
    let next : ℕ = c.value_and_end-here-2.result.1 in
    let h = change_range change r f in
    let i = c.loop-from.invariant in
    let a = c.advance-sweep-2 in
    let end : until ≡ end_of r = c.end-until.ensures.value in
    let small : end_of r < 2 ^ 64 = c.end-until.ensures.small in
    let at : c.loop-from.from ≡ until = omega (arith, i.last, c.loop-from-test.false) in
    let left : IsRestFrom f until (drop c.loop-from.sweep.read (g.T.Rows.list c.loop-from.table)) =
    subst (λ (n : ℕ). IsRestFrom f n (drop c.loop-from.sweep.read (g.T.Rows.list c.loop-from.table))) at i.rest in
    let before : IsBuiltTo h until (take c.loop-from.sweep.write (g.T.Rows.list c.loop-from.table)) c.loop-from.sweep.start
    c.loop-from.sweep.value =
    subst (λ (n : ℕ). IsBuiltTo h n (take c.loop-from.sweep.write (g.T.Rows.list c.loop-from.table)) c.loop-from.sweep.start
    c.loop-from.sweep.value) at i.built in
    let order : until ≤ next = c.value_and_end-here-2.ensures.forward left.ends (omega arith) in
    let value : c.value_and_end-here-2.result.0 ≡ f until = c.value_and_end-here-2.ensures.value f left in
    let here : h until ≡ c.value_and_end-here-2.result.0 = amended_after change r f until (omega arith) ∙ sym value in
    let stays : HasValueBetween h until next c.value_and_end-here-2.result.0 =
    amended_stays_after change r f until next c.value_and_end-here-2.result.0
    (omega arith) (c.value_and_end-here-2.ensures.stays f left) value in
    let built : IsBuiltTo h next (take a.result.write (g.T.Rows.list a.new.table)) a.result.start a.result.value = a.ensures.built h next
    before here order stays in
    let rest : IsRestFrom f next (drop a.result.read (g.T.Rows.list a.new.table)) =
    rw a.ensures.rest (c.skip_ended-2.ensures.rest f until left order (c.value_and_end-here-2.ensures.ends left.ends)) in
    let last : a.result.value ≡ f until = a.ensures.value ∙ value in
    let room : length (g.T.Rows.list a.new.table) < g.T.Slots.room c.args.table.now =
    room_here c.requires.room.0 c.requires.room.1 f h a.result.start next next a.result.value (g.T.Rows.list a.new.table) a.result.write
    a.result.read
    (g.T.Slots.room c.args.table.now) c.requires.room.2 c.requires.within (omega arith) (grind (arith, common_steps)) built
    (λ same. last
    ∙ c.value_and_end-here-2.ensures.another f left (sym (amended_after change r f next (omega arith)) ∙ same ∙ last)) rest free
    a.ensures.within lt some in
    let keeps = g.met.T.Slots.keeps_on c.args.table.now c.loop-from.table a.new.table i.keeps a.ensures.keeps in
    g.met.T.Slots.keeps_room c.args.table.now a.new.table keeps (suc (length (g.T.Rows.list a.new.table))) room

pub returns-clause-list : goal.returns-clause-list
returns-clause-list g c =
    let f : ℕ → Option g.row.S-Value.Denot = value_at (g.T.Rows.list c.args.table.now) in
    let change = g.C.Change.makes c.args.change in
    let r : RangeView = c.args.range.now in
    let until : ℕ = c.end-until.result in
    let next : ℕ = c.value_and_end-here-2.result.1 in
    let h = change_range change r f in
    let i = c.loop-from.invariant in
    let a = c.advance-sweep-2 in
    let end : until ≡ end_of r = c.end-until.ensures.value in
    let small : end_of r < 2 ^ 64 = c.end-until.ensures.small in
    let at : c.loop-from.from ≡ until = omega (arith, i.last, c.loop-from-test.false) in
    let left : IsRestFrom f until (drop c.loop-from.sweep.read (g.T.Rows.list c.loop-from.table)) =
    subst (λ (n : ℕ). IsRestFrom f n (drop c.loop-from.sweep.read (g.T.Rows.list c.loop-from.table))) at i.rest in
    let before : IsBuiltTo h until (take c.loop-from.sweep.write (g.T.Rows.list c.loop-from.table)) c.loop-from.sweep.start
    c.loop-from.sweep.value =
    subst (λ (n : ℕ). IsBuiltTo h n (take c.loop-from.sweep.write (g.T.Rows.list c.loop-from.table)) c.loop-from.sweep.start
    c.loop-from.sweep.value) at i.built in
    let order : until ≤ next = c.value_and_end-here-2.ensures.forward left.ends (omega arith) in
    let value : c.value_and_end-here-2.result.0 ≡ f until = c.value_and_end-here-2.ensures.value f left in
    let here : h until ≡ c.value_and_end-here-2.result.0 = amended_after change r f until (omega arith) ∙ sym value in
    let stays : HasValueBetween h until next c.value_and_end-here-2.result.0 =
    amended_stays_after change r f until next c.value_and_end-here-2.result.0
    (omega arith) (c.value_and_end-here-2.ensures.stays f left) value in
    let built : IsBuiltTo h next (take a.result.write (g.T.Rows.list a.new.table)) a.result.start a.result.value = a.ensures.built h next
    before here order stays in
    let last : a.result.value ≡ f until = a.ensures.value ∙ value in
    let ends : FirstEndsAtOrPast next (drop c.loop-from.sweep.read (g.T.Rows.list c.loop-from.table)) =
    c.value_and_end-here-2.ensures.ends left.ends in
    let passed : IsRestFrom f next (drop c.skip_ended-2.result (g.T.Rows.list c.loop-from.table)) =
    c.skip_ended-2.ensures.rest f until left order
    ends in
    let starts : StartAtOrPast next (drop c.skip_ended-2.result (g.T.Rows.list c.loop-from.table)) =
    c.skip_ended-2.ensures.starts f until left ends
    c.value_and_end-here-2.ensures.uncut in
    let swept : IsSweptTo h next (take a.result.write (g.T.Rows.list a.new.table) ++ run_or_none a.result.start next a.result.value) =
    swept_stretch h a.result.start next a.result.value (take a.result.write (g.T.Rows.list a.new.table)) built.swept built.begun built.stays
    (λ same. last ∙ c.value_and_end-here-2.ensures.another f left (sym (amended_after change r f next (omega arith)) ∙ same ∙ last)) in
    let close : c.write_run-write.result.0 + (c.write_run-write.result.1 - c.write_run-write.result.0)
    ≡ c.write_run-write.result.1 = omega (arith, c.write_run-write.ensures.order) in
    rw (c.close.ensures.list, close, c.write_run-write.ensures.written, c.write_run-write.ensures.rest, a.ensures.rest)
    (swept_join f h next _ _ swept passed starts (λ x le. amended_after change r f x (omega arith)))
