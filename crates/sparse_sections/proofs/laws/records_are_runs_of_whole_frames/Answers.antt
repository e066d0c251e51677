use Rattle.sparse_sections.proofs.NodedLaws.{noded-runs, noded-told, noded-frames, noded-records}
use Rattle.sparse_sections.proofs.laws.records_are_runs_of_whole_frames.Goals as goal

pub returns : goal.returns
returns c = record { runs = noded-runs; told = noded-told; frames = noded-frames; records = noded-records }
