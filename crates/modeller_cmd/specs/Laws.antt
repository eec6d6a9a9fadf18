-- What is so of all outputs: that which a run writes under Done is right.
use Rattle.std.specs.Prelude.{ℕ, List}
use Rattle.clause_reader.specs.ReadingLaws.{ReadingIsExact, RefusingIsExact}
use Rattle.modeller_cmd.specs.Answers.{MeshesAreRefused, SolidsAreCompiled, SolidsAreRefused}
use Rattle.modeller_cmd.specs.Checks.{VerdictsAreWritten, WrittenMeshesPass}
use Rattle.modeller_cmd.specs.ShownModels.{FramesShowModels, UndosBringFramesBack}
use Rattle.modeller_cmd.specs.SoundTexts.{ContoursAreClosed, MeshFramesAreSound, MeshesAreSound, SolidsKeepValues}

-- The output of these words of this input is right.
pub record Laws (words : List (List ℕ)) (input : List ℕ) : Type 0 where
  -- texts are read as clauses, and refused, as the relation between lines and clauses says
  pub reading : ReadingIsExact
  pub refusing : RefusingIsExact
  -- a mesh is closed, manifold and separating, alone and as a frame of a script
  pub sound : MeshesAreSound words input
  pub sound_frames : MeshFramesAreSound words input
  -- a contour is the paths of closed loops
  pub closed : ContoursAreClosed words input
  -- a solid becomes the model that it compiles to, which has its value at every point, or is refused
  pub compiled : SolidsAreCompiled words input
  pub values : SolidsKeepValues words input
  pub refused_solids : SolidsAreRefused words input
  -- a mesh that is checked gets its one verdict, one that was written passes, and no other is read
  pub verdicts : VerdictsAreWritten words input
  pub passes : WrittenMeshesPass words input
  pub refused_meshes : MeshesAreRefused words input
  -- each frame shows the model that stands, and after undos the one before the edits
  pub frames : FramesShowModels words input
  pub undos : UndosBringFramesBack words input
