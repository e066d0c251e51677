use Rattle.address_runs.proofs.RunsLaws.{runs_ascend}
use Rattle.e820_sanitise.proofs.stop.judge_frames.Goals as goal

pub usable_frames-frames-requires : goal.usable_frames-frames-requires
usable_frames-frames-requires c = runs_ascend c.args.runs.now c.requires
