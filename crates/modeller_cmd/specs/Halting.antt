-- At which command a script halts: by a fault of the sink, or for lack of memory.
use Rattle.std.specs.Prelude.{◌≡◌, ◌⊎◌, ℕ, ◌+◌, List, ◌∷◌, ◌++◌, Option, Ok, IsOk, drop, take, ⊤}
use Rattle.clause_reader.specs.Reading.{text_read}
use Rattle.edit_script.specs.Marks.{before_mark}
use Rattle.edit_script.specs.Scripts.{script_read}
use Rattle.edit_script.specs.declared.command.Command.{Command}
use Rattle.edit_script.specs.declared.command.Command.TheVariants as commands
use Rattle.edit_session.specs.Sessions.{State, started}
use Rattle.model_frames.specs.Work.{CountsWithin, PointsRiseAtMost}
use Rattle.fixed_ops.specs.Counts.{Counts}
use Rattle.modeller_io.specs.Count.{RoseBy, Stands}
use Rattle.modeller_io.specs.Held.{Gains}
use Rattle.solid_model.specs.Edits.{edited, FirstMakesClause}
use Rattle.solid_model.specs.declared.clause.Clause.{Clause}
use Rattle.modeller_cmd.specs.Parts.{bytes_of_parts, work_of_parts}
use Rattle.modeller_cmd.specs.Writing.{GainsBeyond, Worked}
use Rattle.modeller_cmd.specs.Replays.{parts_at, replayed, standing}
use Rattle.modeller_cmd.specs.declared.stop.Stop.{Stop}
use Rattle.modeller_cmd.specs.declared.stop.Stop.TheVariants.{WriteFault, NoMemory}

-- A command may run out of memory: an edit only where it is accepted, an undo only where a clause
-- comes back, and neither an edit with a token that begins with `#` nor the cost of an image ever.
abbrev pub MayRunOut : State → Command → Type 0
MayRunOut state (commands.Edit line edit) = IsOk (edited state.clauses edit)
MayRunOut state (commands.Stray line) = ⊥
MayRunOut state (commands.Undo line) = FirstMakesClause state.undo
MayRunOut state commands.Cost = ⊥
MayRunOut state other = ⊤

-- The sink failed once in a command, of which the work was done. It took what was written before the
-- command, and a proper prefix of what this writes, which is something, therefore.
pub record FailsIn {K : Type 0} (held : K → Option (List ℕ)) (faults : K → ℕ) (before after : K)
    (first last : Counts) (written : List ℕ) (state : State) (command : Command) : Type 0 where
  pub gained : GainsBeyond held before after written (bytes_of_parts (parts_at state command))
  pub fault : RoseBy faults before after 1
  pub worked : Worked first last (work_of_parts (parts_at state command))

-- Memory was refused in a command, which may run out of it. What was written before the command went
-- out, and nothing of the command, and no more than its work was counted.
pub record RunsOutIn {K : Type 0} (held : K → Option (List ℕ)) (faults : K → ℕ)
    (before after : K) (first last : Counts) (written : List ℕ) (state : State)
    (command : Command) : Type 0 where
  pub may : MayRunOut state command
  pub gained : Gains held before after written
  pub no_fault : Stands faults before after
  pub at_most : CountsWithin first last (work_of_parts (parts_at state command))
  pub plain : PointsRiseAtMost first last (work_of_parts (parts_at state command)).plain

-- one of the two halted a command
abbrev pub HaltsIn : {K : Type 0} → (K → Option (List ℕ)) → (K → ℕ) → K → K → Counts → Counts
    → List ℕ → State → Command → Stop → Type 0
HaltsIn held faults before after first last written state command WriteFault =
    FailsIn held faults before after first last written state command
HaltsIn held faults before after first last written state command NoMemory =
    RunsOutIn held faults before after first last written state command
HaltsIn held faults before after first last written state command other = ⊥

-- Commands were halted at one of them, the k-th from 0: what those before it write was written, and
-- their work was counted. Of those behind it nothing was written or counted.
pub record HaltsAt {K : Type 0} (held : K → Option (List ℕ)) (faults : K → ℕ)
    (before after : K) (first last : Counts) (state : State) (commands : List Command)
    (stop : Stop) : Type 0 where
  pub k : ℕ
  pub command : Command
  pub kth : commands ≡ take k commands ++ command ∷ drop (k + 1) commands
  pub counts : Counts
  pub worked : Worked first counts (work_of_parts (replayed state (take k commands)))
  pub halts : HaltsIn held faults before after counts last
      (bytes_of_parts (replayed state (take k commands))) (standing state (take k commands))
      command stop

-- so it was of the commands of an input that has a solid and a script
pub record HaltsReplay {K : Type 0} (held : K → Option (List ℕ)) (faults : K → ℕ)
    (before after : K) (first last : Counts) (input : List ℕ) (stop : Stop) : Type 0 where
  pub clauses : List Clause
  pub solid : text_read (before_mark input) ≡ Ok clauses
  pub commands : List Command
  pub script : script_read input ≡ Ok commands
  pub halts : HaltsAt held faults before after first last (started clauses) commands stop

-- What a fault of the sink, or a lack of memory, leaves of a script: it halts at one of the commands.
-- Memory may run out before the first of them, too, when nothing is written or counted.
abbrev pub HaltsScript : {K : Type 0} → (K → Option (List ℕ)) → (K → ℕ) → K → K → Counts → Counts
    → List ℕ → Stop → Type 0
HaltsScript held faults before after first last input WriteFault =
    HaltsReplay held faults before after first last input WriteFault
HaltsScript held faults before after first last input NoMemory =
    ((after ≡ before) × (last ≡ first))
    ⊎ HaltsReplay held faults before after first last input NoMemory
HaltsScript held faults before after first last input other = ⊤
