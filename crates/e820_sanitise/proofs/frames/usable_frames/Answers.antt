use Rattle.std.proofs.Common.{◌≡◌, ◌+◌, ◌∙◌, arith}
use Rattle.std.proofs.lemmas.Grind.{common_steps}
use Rattle.e820_sanitise.proofs.FramesLaws.{frames_from, frames_usable}
use Rattle.e820_sanitise.proofs.frames.usable_frames.Goals as goal

pub returns : goal.returns
returns c =
    let counted : c.loop-run.frames + c.count_whole_frames.result ≡ frames_from c.args.limit 0 0 c.args.runs.now =
    grind (arith, common_steps) in
    counted ∙ frames_usable c.args.limit (omega arith) c.args.runs.now c.requires
