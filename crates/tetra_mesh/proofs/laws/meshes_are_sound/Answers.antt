-- The laws of meshes are those of grids.
use Rattle.tetra_mesh.proofs.SoundLaws.{grid_meshes_are_sound, grid_meshes_lie_apart}
use Rattle.tetra_mesh.proofs.laws.meshes_are_sound.Goals as goal

pub returns-clause-sound : goal.returns-clause-sound
returns-clause-sound c = grid_meshes_are_sound

pub returns-clause-apart : goal.returns-clause-apart
returns-clause-apart c = grid_meshes_lie_apart
