-- Each act is one call, which ends as the effect of the act.
use Rattle.std.proofs.Common.{Ok, refl, sym}
use Rattle.script_reader.specs.declared.act.Act.TheVariants as acts
use Rattle.early_script.specs.Effects.{act_effect}
use Rattle.early_script.specs.FromMemblock.{state_of_memblock}
use Rattle.early_script.proofs.PowerLaws.{power_of}
use Rattle.early_script.proofs.RunLaws.{alloc-quiet, reserve-quiet, free-quiet, trim-quiet}
use Rattle.early_script.proofs.DeedLaws.{nothing-done, ran-as, ran-quiet}
use Rattle.early_script.proofs.live.Live.run_line.Goals as goal

pub alloc-requires-clause-aligned : goal.alloc-requires-clause-aligned
alloc-requires-clause-aligned c = power_of c.in-Alloc.request.align (rw c.in-Alloc.is at c.requires.bounds).1

pub returns-in-Alloc : goal.returns-in-Alloc
unfolding act_effect
returns-in-Alloc c =
    let ran = ran-quiet c.alloc.result c.args.self.now c.args.mb.now c.alloc.new.self c.alloc.new.mb c.args.line.now.act
    (acts.Alloc c.in-Alloc.id c.in-Alloc.request) c.in-Alloc.is
    (alloc-quiet (state_of_memblock c.args.self.now c.args.mb.now) c.in-Alloc.id c.in-Alloc.request) c.alloc.ensures.acts
    c.alloc.ensures.goes_on.bytes in
    record { acts = ran.acts; answered = ran.answered; bytes = ran.bytes; holds = ran.holds; still_ready = c.alloc.ensures.goes_on.ready }

pub returns-in-Reserve : goal.returns-in-Reserve
unfolding act_effect
returns-in-Reserve c =
    let ran = ran-quiet c.reserve.result c.args.self.now c.args.mb.now c.reserve.new.self c.reserve.new.mb c.args.line.now.act
    (acts.Reserve c.in-Reserve.id c.in-Reserve.range) c.in-Reserve.is
    (reserve-quiet (state_of_memblock c.args.self.now c.args.mb.now) c.in-Reserve.id c.in-Reserve.range) c.reserve.ensures.acts
    c.reserve.ensures.goes_on.bytes in
    record { acts = ran.acts; answered = ran.answered; bytes = ran.bytes; holds = ran.holds; still_ready = c.reserve.ensures.goes_on.ready }

pub returns-in-Free : goal.returns-in-Free
unfolding act_effect
returns-in-Free c =
    let ran = ran-quiet c.free.result c.args.self.now c.args.mb.now c.free.new.self c.free.new.mb c.args.line.now.act
    (acts.Free c.in-Free.id) c.in-Free.is (free-quiet (state_of_memblock c.args.self.now c.args.mb.now) c.in-Free.id) c.free.ensures.acts
    c.free.ensures.goes_on.bytes in
    record { acts = ran.acts; answered = ran.answered; bytes = ran.bytes; holds = ran.holds; still_ready = c.free.ensures.goes_on.ready }

pub returns-in-Trim : goal.returns-in-Trim
unfolding act_effect
returns-in-Trim c =
    let ran = ran-quiet c.trim.result c.args.self.now c.args.mb.now c.trim.new.self c.trim.new.mb c.args.line.now.act
    (acts.Trim c.in-Trim.id c.in-Trim.keep) c.in-Trim.is
    (trim-quiet (state_of_memblock c.args.self.now c.args.mb.now) c.in-Trim.id c.in-Trim.keep) c.trim.ensures.acts
    c.trim.ensures.goes_on.bytes in
    record { acts = ran.acts; answered = ran.answered; bytes = ran.bytes; holds = ran.holds; still_ready = c.trim.ensures.goes_on.ready }

pub returns-in-Fill : goal.returns-in-Fill
unfolding act_effect
returns-in-Fill c =
    let ran = ran-as c.fill.result c.args.self.now c.args.mb.now c.fill.new.self c.fill.new.mb c.args.line.now.act
    (acts.Fill c.in-Fill.id c.in-Fill.byte) c.in-Fill.is c.fill.ensures.acts c.fill.ensures.bytes c.fill.ensures.holds in
    record { acts = ran.acts; answered = ran.answered; bytes = ran.bytes; holds = ran.holds; still_ready = c.fill.ensures.still_ready }

pub returns-in-Peek : goal.returns-in-Peek
unfolding act_effect
returns-in-Peek c =
    let ran = ran-quiet (Ok c.read_bytes_at.result) c.args.self.now c.args.mb.now c.args.self.now c.args.mb.now c.args.line.now.act
    (acts.Peek c.in-Peek.at c.in-Peek.len) c.in-Peek.is refl
    (c.read_bytes_at.ensures.told, sym (nothing-done (state_of_memblock c.args.self.now c.args.mb.now))) c.read_bytes_at.ensures.still in
    record { acts = ran.acts; answered = ran.answered; bytes = ran.bytes; holds = ran.holds; still_ready = λ x ready. ready }
