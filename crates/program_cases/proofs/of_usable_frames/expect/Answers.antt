use Rattle.address_runs.proofs.RunsLaws.{runs_ascend}
use Rattle.program_cases.proofs.of_usable_frames.expect.Goals as goal

pub usable_frames-requires : goal.usable_frames-requires
usable_frames-requires g c = runs_ascend c.args.runs.now c.requires
