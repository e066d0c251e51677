use Rattle.std.proofs.Common.{ap, arith}
use Rattle.std.proofs.lemmas.Grind.{common_steps}
use Rattle.std.specs.Option.{option_map}
use Rattle.memblock_model.specs.Labels.{with_mirror}
use Rattle.memblock_ranges.proofs.EditLaws.{edited, no_edit}
use Rattle.memblock_ranges.proofs.PairLaws.{memory_edited, with_records}
use Rattle.memblock_ranges.proofs.tables.Tables.set_mirror.Goals as goal

pub returns-then-range-eq0-clause-memory : goal.returns-then-range-eq0-clause-memory
returns-then-range-eq0-clause-memory c =
    rw (← c.self.view_is) (ap (with_records c.self.inside.store c.self.inside.heads.memory)
    (no_edit (option_map with_mirror) c.args.range _ c.self.invariant.memory_records (grind (arith, common_steps))))

pub invariant_of-self-2 : goal.invariant_of-self-2
invariant_of-self-2 c =
    (memory_edited _ _ _ _ _ _ c.self.invariant c.edit_without_cover.new.table.table c.edit_without_cover.ensures.keeps.2
    (edited (option_map with_mirror) c.args.range _ _ c.self.invariant.memory_records
    (grind (arith, common_steps)) c.edit_without_cover.ensures.list)).0

pub returns : goal.returns
returns c =
    let e = (memory_edited _ _ _ _ _ _ c.self.invariant c.edit_without_cover.new.table.table c.edit_without_cover.ensures.keeps.2
    (edited (option_map with_mirror) c.args.range _ _ c.self.invariant.memory_records
    (grind (arith, common_steps)) c.edit_without_cover.ensures.list)).1 in
    rw (← c.self.view_is) (record { memory = e.table; reserved = e.other; elsewhere = e.elsewhere; ready = e.ready })
