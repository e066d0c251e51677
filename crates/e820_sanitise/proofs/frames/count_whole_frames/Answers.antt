use Rattle.std.proofs.Common.{◌≡◌, ◌-◌, ◌/◌, ◌+◌, ◌∙◌, sym, arith}
use Rattle.std.proofs.lemmas.Grind.{common_steps}
use Rattle.e820_sanitise.proofs.FramesLaws.{whole_by_division}
use Rattle.e820_sanitise.proofs.frames.count_whole_frames.Goals as goal

pub returns-clause-value : goal.returns-clause-value
returns-clause-value c =
    let divided : c.saturating_sub.result ≡ c.args.until / 4096 - (c.args.from + 4095) / 4096 = grind (arith, common_steps) in
    divided ∙ sym (whole_by_division c.args.from c.args.until (omega arith))
