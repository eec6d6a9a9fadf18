-- What a job makes is what its task makes.
use Rattle.std.proofs.Common.{◌≡◌, ℕ, List, [], ◌∷◌, Result, Ok, refl}
use Rattle.edit_script.specs.Marks.{before_mark}
use Rattle.edit_script.specs.Scripts.{script_read}
use Rattle.model_frames.specs.Frames.{Part, frame_part}
use Rattle.view_settings.specs.declared.job.Job.{Job}
use Rattle.view_settings.specs.declared.job.Job.TheVariants as jobs
use Rattle.modeller_cmd.specs.Forging.{forge_part}
use Rattle.modeller_cmd.specs.Output.{count_part, made, of_forms, of_mesh, of_model, of_solid, parts_replayed}
use Rattle.modeller_cmd.specs.Tasks.{task_of}
use Rattle.modeller_cmd.specs.declared.refusal.Refusal.{Refusal}
use Rattle.modeller_cmd.specs.declared.task.Task.{Task}
use Rattle.modeller_cmd.specs.declared.task.Task.TheVariants.{Draw, Count, Forge, Replay, Solid, Check}

-- the parts that a task makes of an input, or why it makes none
abbrev pub made_by : Task → List ℕ → Result (List Part) Refusal
made_by (Draw frame) input = of_model input (frame_part frame)
made_by (Count view) input = of_model input (count_part view)
made_by (Forge forge) input = Ok (forge_part forge ∷ [])
made_by Replay input = of_solid input (before_mark input) (λ clauses. parts_replayed clauses (script_read input))
made_by Solid input = of_forms input
made_by Check input = of_mesh input

pub made-by : (job : Job) (input : List ℕ) → made job input ≡ made_by (task_of job) input
made-by (jobs.Render view) input = refl
made-by (jobs.Height view) input = refl
made-by (jobs.Mesh view) input = refl
made-by (jobs.Count view) input = refl
made-by jobs.Text input = refl
made-by jobs.Replay input = refl
made-by (jobs.Forge forge) input = refl
made-by (jobs.Shade view) input = refl
made-by (jobs.Contour view) input = refl
made-by jobs.Solid input = refl
made-by jobs.Check input = refl

-- a script is the task of the one job that asks for it
pub replay-asked : (job : Job) → Replay ≡ task_of job → job ≡ jobs.Replay
replay-asked jobs.Replay is = refl
replay-asked (jobs.Render view) is = cc
replay-asked (jobs.Height view) is = cc
replay-asked (jobs.Mesh view) is = cc
replay-asked (jobs.Count view) is = cc
replay-asked jobs.Text is = cc
replay-asked (jobs.Forge forge) is = cc
replay-asked (jobs.Shade view) is = cc
replay-asked (jobs.Contour view) is = cc
replay-asked jobs.Solid is = cc
replay-asked jobs.Check is = cc
