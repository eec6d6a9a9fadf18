-- What a job that is executed does to a sink and to a tally.
use Rattle.std.specs.Prelude.{◌≡◌, ◌≢◌, ℕ, List, Option, Result, Err, IfErr, OnOk}
use Rattle.fixed_ops.specs.Counts.{Counts}
use Rattle.model_frames.specs.Frames.{Part}
use Rattle.model_frames.specs.Work.{CountsWork}
use Rattle.modeller_io.specs.Count.{Stands}
use Rattle.modeller_io.specs.Held.{Gains}
use Rattle.view_settings.specs.declared.job.Job.{Job}
use Rattle.view_settings.specs.declared.job.Job.TheVariants.{Replay}
use Rattle.modeller_cmd.specs.Endings.{Ends, IsExecutionStop, IsHalt, IsRefusal, status_after}
use Rattle.modeller_cmd.specs.Output.{made, output_as}
use Rattle.modeller_cmd.specs.Parts.{work_of_parts}
use Rattle.modeller_cmd.specs.Writing.{FailsToSend, Halted, Written}
use Rattle.modeller_cmd.specs.Halting.{HaltsScript}
use Rattle.modeller_cmd.specs.declared.refusal.Refusal.{Refusal}
use Rattle.modeller_cmd.specs.declared.status.Status.TheVariants.{BadScript}
use Rattle.modeller_cmd.specs.declared.stop.Stop.{Stop}
use Rattle.modeller_cmd.specs.declared.stop.Stop.TheVariants.{NoMemory, WriteFault}

-- Bytes were sent to a sink. A fault of it leaves it with a proper prefix of them, and a lack of
-- memory with none.
pub record Sent {K T : Type 0} (held : K → Option (List ℕ)) (faults : K → ℕ) (before after : K)
    (bytes : List ℕ) (result : Result T Stop) : Type 0 where
  pub stop : IfErr result IsHalt
  pub gained : OnOk result (Gains held before after bytes)
  pub no_fault : OnOk result (Stands faults before after)
  pub failed : result ≡ Err WriteFault → FailsToSend held faults before after bytes
  pub unwritten : result ≡ Err NoMemory → after ≡ before

-- Work of this outcome was done, and its parts were written when the last of them was made: where
-- it comes to writing, all work is done, and all memory is taken.
pub record ExecutedAtOnce {K T : Type 0} (held : K → Option (List ℕ)) (faults : K → ℕ)
    (before after : K) (first last : Counts) (outcome : Result (List Part) Refusal)
    (result : Result T Stop) : Type 0 where
  pub ends : Ends outcome result
  pub stop : IfErr result IsExecutionStop
  pub written : OnOk result (Written held faults before after first last (output_as outcome).parts)
  pub halted : IfErr result
      (Halted held faults before after first last (output_as outcome).parts)
  pub refused : IsRefusal (status_after result) → (after ≡ before) × (last ≡ first)
  pub script : status_after result ≢ BadScript
  pub unwritten : result ≡ Err NoMemory → after ≡ before
  pub counted : result ≡ Err WriteFault
      → CountsWork first last (work_of_parts (output_as outcome).parts)

-- A job was done on an input, and what it makes was written: of a script each part as soon as it is
-- made, and else all of them when the last is made.
pub record Executed {K T : Type 0} (held : K → Option (List ℕ)) (faults : K → ℕ)
    (before after : K) (first last : Counts) (job : Job) (input : List ℕ)
    (result : Result T Stop) : Type 0 where
  pub ends : Ends (made job input) result
  pub stop : IfErr result IsExecutionStop
  pub written : OnOk result
      (Written held faults before after first last (output_as (made job input)).parts)
  pub halted : IfErr result
      (Halted held faults before after first last (output_as (made job input)).parts)
  pub refused : IsRefusal (status_after result) → (after ≡ before) × (last ≡ first)
  pub script : status_after result ≡ BadScript → job ≡ Replay
  pub unwritten : job ≢ Replay → result ≡ Err NoMemory → after ≡ before
  pub counted : job ≢ Replay → result ≡ Err WriteFault
      → CountsWork first last (work_of_parts (output_as (made job input)).parts)
  pub halts : job ≡ Replay → IfErr result (HaltsScript held faults before after first last input)
