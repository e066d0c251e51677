use Rattle.std.proofs.Common.{◌∙◌, sym, ap, arith}
use Rattle.boot_audit.specs.Sweep.{byte_state_of}
use Rattle.boot_audit.proofs.FrameLaws.{around}
use Rattle.boot_audit.proofs.sweep.state_run_from.Goals as goal

pub returns-clause-state : goal.returns-clause-state
returns-clause-state c = λ x above below.
    around c.args.limit c.args.runs.now c.args.owners.now c.args.blocks.now x c.coverage_below_limit-below.result.inside
    c.coverage_at-memory.result.inside c.coverage_at-owned.result.inside c.coverage_at-held.result.inside
    (c.coverage_below_limit-below.ensures.says x above (omega arith))
    (c.coverage_at-memory.ensures.says x above (omega arith))
    (c.coverage_at-owned.ensures.says x above (omega arith))
    (c.coverage_at-held.ensures.says x above (omega arith))
    ∙ sym (c.byte_state_of.ensures ∙ ap (λ free. byte_state_of free c.coverage_at-held.result.inside) c.is_free_state-free.ensures)
