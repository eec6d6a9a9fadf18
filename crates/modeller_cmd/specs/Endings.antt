-- What may end the work of a run, and what it leaves of the source and of the notes.
use Rattle.std.specs.Prelude.{◌≡◌, ◌⊎◌, ℕ, ◌≤◌, List, [], length, Option, Some, Result, Ok, Err, IfSome, IsOk, ⊤}
use Rattle.fixed_ops.specs.Counts.{Counts}
use Rattle.modeller_io.specs.Count.{Stands}
use Rattle.modeller_io.specs.Held.{Gains}
use Rattle.model_frames.specs.Frames.{Part}
use Rattle.model_frames.specs.Work.{CountsWithin, PointsRiseAtMost}
use Rattle.modeller_cmd.specs.Notes.{line_of}
use Rattle.modeller_cmd.specs.Output.{input_limit, output_of}
use Rattle.modeller_cmd.specs.Parts.{work_of_parts}
use Rattle.modeller_cmd.specs.Stops.{status_at}
use Rattle.modeller_cmd.specs.Writing.{FailsToSend}
use Rattle.modeller_cmd.specs.declared.refusal.Refusal.{Refusal}
use Rattle.modeller_cmd.specs.declared.refusal.Refusal.TheVariants as refusal
use Rattle.modeller_cmd.specs.declared.status.Status.{Status}
use Rattle.modeller_cmd.specs.declared.status.Status.TheVariants.{Done, Usage, BadModel, BadScript, TooLong}
use Rattle.modeller_cmd.specs.declared.stop.Stop.{Stop}
use Rattle.modeller_cmd.specs.declared.stop.Stop.TheVariants as stop

-- the statuses of what is refused: words, a text, a script, an input that is too long
abbrev pub IsRefusal : Status → Type 0
IsRefusal Usage = ⊤
IsRefusal BadModel = ⊤
IsRefusal BadScript = ⊤
IsRefusal TooLong = ⊤
IsRefusal status = ⊥

-- the source was read to its end, and had no more bytes than are accepted
abbrev pub ReadsWhole : {S : Type 0} → (S → Option (List ℕ)) → S → S → Type 0
ReadsWhole rest before after =
    IfSome (rest before) (λ input. (rest after ≡ Some []) × (length input ≤ input_limit))

-- There is an input, no longer than is accepted, of whose output a tally counted at most the work.
pub record CountsForSome (words : List (List ℕ)) (before after : Counts) : Type 0 where
  pub input : List ℕ
  pub few : length input ≤ input_limit
  pub work : CountsWithin before after (work_of_parts (output_of words input).parts)
  pub plain : PointsRiseAtMost before after (work_of_parts (output_of words input).parts).plain

-- the notes took a whole line without a fault, or failed and took a proper prefix of it
abbrev pub TakesLine : {N : Type 0} → (N → Option (List ℕ)) → (N → ℕ) → N → N → List ℕ → Type 0
TakesLine held faults before after line =
    (Gains held before after line × Stands faults before after)
    ⊎ FailsToSend held faults before after line

-- What may end work whose outcome is this: what the outcome says, or a fault or a lack of memory on
-- the way.
abbrev pub Ends : {T : Type 0} → Result (List Part) Refusal → Result T Stop → Type 0
Ends expected (Ok done) = IsOk expected
Ends expected (Err (stop.Refused why)) = expected ≡ Err why
Ends expected (Err stop.WriteFault) = IsOk expected
Ends expected (Err other) = ⊤

-- the status that work ends a run with
abbrev pub status_after : {T : Type 0} → Result T Stop → Status
status_after (Ok done) = Done
status_after (Err stop) = status_at stop

-- and the line that the notes are to take
abbrev pub line_after : {T : Type 0} → Result T Stop → List ℕ
line_after (Ok done) = []
line_after (Err stop) = line_of stop

-- what may stop the work on an input that was read, before anything of it is written: its text or
-- its script is refused, or memory
abbrev pub IsWorkStop : Stop → Type 0
IsWorkStop (stop.Refused (refusal.Text bad)) = ⊤
IsWorkStop (stop.Refused (refusal.Script fault)) = ⊤
IsWorkStop stop.NoMemory = ⊤
IsWorkStop other = ⊥

-- what may halt the writing of parts: a fault of the sink, or a lack of memory
abbrev pub IsHalt : Stop → Type 0
IsHalt stop.WriteFault = ⊤
IsHalt stop.NoMemory = ⊤
IsHalt other = ⊥

-- what may stop the execution of a job on an input that was read: what stops its work, or a fault of
-- the sink
abbrev pub IsExecutionStop : Stop → Type 0
IsExecutionStop stop.WriteFault = ⊤
IsExecutionStop other = IsWorkStop other
