use Rattle.std.proofs.Common.{◌≡◌, ◌+◌, drop}
use Rattle.std.specs.Prelude.{not}
use Rattle.boot_audit.specs.Frames.{is_in_zone}
use Rattle.boot_audit.specs.Verdicts.{first_line_passing}
use Rattle.boot_audit.proofs.blocks.first_in_wrong_zone.Given as goal

abbrev pub invariant-loop-index : goal.invariant-loop-index
invariant-loop-index l =
    first_line_passing (λ b. not (is_in_zone b)) (l.index + 1) (drop l.index l.blocks)
    ≡ first_line_passing (λ b. not (is_in_zone b)) 1 l.blocks
