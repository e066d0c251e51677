use Rattle.memblock_model.proofs.LabelLaws.{in_frame, trim_frames-frame}
use Rattle.memblock_model.proofs.laws.trimmed_frame_is_whole.Goals as goal

pub returns : goal.returns
returns c = λ f x y h. trim_frames-frame f x y (in_frame x y h)
