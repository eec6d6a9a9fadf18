-- What is done for a job.
use Rattle.std.specs.Prelude.{⊤}
use Rattle.model_frames.specs.Frames.{CanDraw}
use Rattle.model_frames.specs.declared.frame.Frame.TheVariants as frames
use Rattle.view_settings.specs.Verbs.{IsJob}
use Rattle.view_settings.specs.declared.job.Job.{Job}
use Rattle.view_settings.specs.declared.job.Job.TheVariants as jobs
use Rattle.modeller_cmd.specs.declared.task.Task.{Task}
use Rattle.modeller_cmd.specs.declared.task.Task.TheVariants.{Draw, Count, Forge, Replay, Solid, Check}

-- the task of a job
abbrev pub task_of : Job → Task
task_of (jobs.Render view) = Draw (frames.Render view)
task_of (jobs.Height view) = Draw (frames.Height view)
task_of (jobs.Mesh view) = Draw (frames.Mesh view)
task_of (jobs.Count view) = Count view
task_of jobs.Text = Draw frames.Text
task_of jobs.Replay = Replay
task_of (jobs.Forge forge) = Forge forge
task_of (jobs.Shade view) = Draw (frames.Shade view)
task_of (jobs.Contour view) = Draw (frames.Contour view)
task_of jobs.Solid = Solid
task_of jobs.Check = Check

-- the view of what it draws is one that such a frame has, and what it makes from a seed is what words may ask for
abbrev pub CanDo : Task → Type 0
CanDo (Draw frame) = CanDraw frame
CanDo (Count view) = ⊤
CanDo (Forge forge) = IsJob (jobs.Forge forge)
CanDo Replay = ⊤
CanDo Solid = ⊤
CanDo Check = ⊤
