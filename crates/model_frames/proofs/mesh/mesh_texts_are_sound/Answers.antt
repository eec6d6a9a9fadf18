use Rattle.model_frames.proofs.SoundTexts.{texts_are_sound}
use Rattle.model_frames.proofs.mesh.mesh_texts_are_sound.Goals as goal

pub returns : goal.returns
returns c = texts_are_sound
