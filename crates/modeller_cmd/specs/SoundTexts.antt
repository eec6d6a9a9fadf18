-- What a run writes of a mesh is the text of a sound one, and of a contour the paths of closed loops.
use Rattle.std.specs.Prelude.{◌≡◌, ℕ, List, ◌∷◌, ◌++◌, Ok, codes}
use Rattle.clause_reader.specs.Reading.{text_read}
use Rattle.model_frames.specs.ClosedTexts.{IsClosedText}
use Rattle.edit_script.specs.Marks.{before_mark}
use Rattle.edit_script.specs.Scripts.{script_read}
use Rattle.edit_script.specs.declared.command.Command.{Command}
use Rattle.edit_script.specs.declared.command.Command.TheVariants as commands
use Rattle.edit_session.specs.Sessions.{started}
use Rattle.model_frames.specs.SoundTexts.{IsSoundText}
use Rattle.solid_lang.specs.Reading.{SolidReads}
use Rattle.solid_lang.specs.Solids.{SolidTree}
use Rattle.solid_lang.specs.TranslationLaws.{SaysValuesOf}
use Rattle.solid_model.specs.declared.clause.Clause.{Clause}
use Rattle.view_settings.specs.declared.job.Job.TheVariants.{Contour, Mesh, Replay, Solid}
use Rattle.view_places.specs.Window.{Window}
use Rattle.modeller_cmd.specs.Asking.{asked}
use Rattle.modeller_cmd.specs.Frames.{frame_of}
use Rattle.modeller_cmd.specs.Output.{output_of}
use Rattle.model_frames.specs.Frames.{Part}
use Rattle.modeller_cmd.specs.Parts.{bytes_of_parts}
use Rattle.modeller_cmd.specs.Replays.{replayed, standing}
use Rattle.modeller_cmd.specs.declared.status.Status.TheVariants.{Done}

-- where the words of a run ask for a mesh and its input is that of a solid, what it writes is the
-- text of a sound mesh of the solid
abbrev pub MeshesAreSound : List (List ℕ) → List ℕ → Type 0
MeshesAreSound words input =
    (view : Window) (clauses : List Clause) → asked words ≡ Ok (Mesh view)
    → text_read input ≡ Ok clauses
    → (output_of words input).status ≡ Done
    → IsSoundText view clauses (bytes_of_parts (output_of words input).parts)

-- where they ask for a contour, it is the paths of the closed loops of the solid's
abbrev pub ContoursAreClosed : List (List ℕ) → List ℕ → Type 0
ContoursAreClosed words input =
    (view : Window) (clauses : List Clause) → asked words ≡ Ok (Contour view)
    → text_read input ≡ Ok clauses
    → (output_of words input).status ≡ Done
    → IsClosedText view clauses (bytes_of_parts (output_of words input).parts)

-- where they ask for the model of a solid that is written as forms, and the input says one, it is the
-- text of a model that has the value of the solid at every point
abbrev pub SolidsKeepValues : List (List ℕ) → List ℕ → Type 0
SolidsKeepValues words input =
    (solid : SolidTree) → asked words ≡ Ok Solid → SolidReads input solid
    → (output_of words input).status ≡ Done
    → SaysValuesOf solid (bytes_of_parts (output_of words input).parts)

-- after some parts stands the frame of the text of a sound mesh of a solid
pub record HasSoundFrame (view : Window) (clauses : List Clause)
    (before parts : List Part) : Type 0 where
  pub text : List ℕ
  pub sound : IsSoundText view clauses text
  pub frame : Part
  pub bytes : frame.bytes ≡ frame_of (codes "mesh") text
  pub after : List Part
  pub stands : parts ≡ before ++ frame ∷ after

-- where the words of a run ask for a script, and one of its commands for a mesh, what the run
-- writes for that command, after what it writes for the commands before it, is the frame of the
-- text of a sound mesh of the solid then standing
abbrev pub MeshFramesAreSound : List (List ℕ) → List ℕ → Type 0
MeshFramesAreSound words input =
    (clauses : List Clause) (before after : List Command) (view : Window)
    → asked words ≡ Ok Replay → text_read (before_mark input) ≡ Ok clauses
    → script_read input ≡ Ok (before ++ commands.Mesh view ∷ after)
    → (output_of words input).status ≡ Done
    → HasSoundFrame view (standing (started clauses) before).clauses
    (replayed (started clauses) before) (output_of words input).parts
