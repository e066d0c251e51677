use Rattle.std.proofs.Common.{◌-◌, ap, sym, arith}
use Rattle.audit_lines.specs.Blocks.{BlockLineView}
use Rattle.boot_audit.proofs.ZoneLaws.{ends_tell, first_tells}
use Rattle.boot_audit.proofs.blocks.is_in_zone.Goals as goal

pub returns-then-same_zone : goal.returns-then-same_zone
returns-then-same_zone c =
    ends_tell c.args.block.now c.first_frame-first.result (c.end_frame-last.result - 1) c.same_zone-then-same_zone.result
    c.first_frame-first.ensures.value
    (omega (arith, c.end_frame-last.ensures.value, c.end_frame-last.ensures.after))
    (omega (arith, c.end_frame-last.ensures.value, c.end_frame-last.ensures.after, c.first_frame-first.ensures.value))
    (rw (← c.zone_of.ensures, ← ap (λ (b : BlockLineView). b.zone) c.block.view_is) (sym c.if-same_zone.ensures))
    (rw (← c.zone_of-then-same_zone.ensures, ← ap (λ (b : BlockLineView). b.zone) c.block.view_is) c.same_zone-then-same_zone.ensures)

pub returns-else-same_zone : goal.returns-else-same_zone
returns-else-same_zone c =
    first_tells c.args.block.now c.first_frame-first.result (c.end_frame-last.result - 1) c.same_zone.result
    c.first_frame-first.ensures.value
    (omega (arith, c.end_frame-last.ensures.value, c.end_frame-last.ensures.after))
    (omega (arith, c.end_frame-last.ensures.value, c.end_frame-last.ensures.after, c.first_frame-first.ensures.value))
    (rw (← c.zone_of.ensures, ← ap (λ (b : BlockLineView). b.zone) c.block.view_is) (sym c.if-same_zone.ensures))
    c.if-same_zone.false
