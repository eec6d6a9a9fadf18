use Rattle.model_frames.proofs.WorkLaws.{frames_add_up_is}
use Rattle.model_frames.proofs.laws.frames_add_up.Goals as goal

pub returns : goal.returns
returns c = frames_add_up_is
