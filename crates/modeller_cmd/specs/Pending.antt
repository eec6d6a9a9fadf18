-- What comes of bytes that wait to be written while commands are played.
use Rattle.std.specs.Prelude.{◌≡◌, ◌⊎◌, ℕ, List, [], ◌++◌, Option, ⊤}
use Rattle.edit_script.specs.declared.command.Command.{Command}
use Rattle.edit_script.specs.declared.command.Command.TheVariants as commands
use Rattle.edit_session.specs.Sessions.{State}
use Rattle.fixed_ops.specs.Counts.{Counts}
use Rattle.model_frames.specs.Frames.{Part}
use Rattle.model_frames.specs.Work.{no_work}
use Rattle.modeller_io.specs.Count.{Stands}
use Rattle.modeller_io.specs.Held.{Gains}
use Rattle.modeller_cmd.specs.Halting.{HaltsIn}
use Rattle.modeller_cmd.specs.Parts.{bytes_of_parts, work_of_parts}
use Rattle.modeller_cmd.specs.Writing.{FailsToSend, Written}
use Rattle.modeller_cmd.specs.declared.stop.Stop.{Stop}
use Rattle.modeller_cmd.specs.declared.stop.Stop.TheVariants.{WriteFault}

-- The command draws a frame. Any other one writes a line at most, or what the last image took, and
-- nothing is evaluated for it.
abbrev pub Draws : Command → Type 0
Draws (commands.Render view) = ⊤
Draws (commands.Height view) = ⊤
Draws (commands.Mesh view) = ⊤
Draws commands.Text = ⊤
Draws other = ⊥

-- the bytes wait as before, or all of them were written and none waits any more
abbrev pub WaitsOrSent : {K : Type 0} → (K → Option (List ℕ)) → (K → ℕ) → K → K → List ℕ → List ℕ
    → Type 0
WaitsOrSent held faults before after waited waits =
    ((after ≡ before) × (waits ≡ waited))
    ⊎ (Gains held before after waited × Stands faults before after × (waits ≡ []))

-- what a command writes waits behind what waited before, and nothing was evaluated for it
pub record Waits {K : Type 0} (before after : K) (first last : Counts) (waited waits : List ℕ)
    (parts : List Part) : Type 0 where
  pub sink : after ≡ before
  pub counts : last ≡ first
  pub idle : work_of_parts parts ≡ no_work
  pub bytes : waits ≡ waited ++ bytes_of_parts parts

-- nothing waited before a command, what it writes was written, and nothing waits
pub record GoesOut {K : Type 0} (held : K → Option (List ℕ)) (faults : K → ℕ)
    (before after : K) (first last : Counts) (waited waits : List ℕ) (parts : List Part)
    : Type 0 where
  pub unwaited : waited ≡ []
  pub emptied : waits ≡ []
  pub written : Written held faults before after first last parts

-- a command that writes these parts was played
abbrev pub IsPlayed : {K : Type 0} → (K → Option (List ℕ)) → (K → ℕ) → K → K → Counts → Counts
    → List ℕ → List ℕ → List Part → Type 0
IsPlayed held faults before after first last waited waits parts =
    Waits before after first last waited waits parts
    ⊎ GoesOut held faults before after first last waited waits parts

-- A command was halted: when what waited was written, and nothing was done of the command; or in the
-- command, before which that is written.
abbrev pub HaltsPlay : {K : Type 0} → (K → Option (List ℕ)) → (K → ℕ) → K → K → Counts → Counts
    → List ℕ → State → Command → Stop → Type 0
HaltsPlay held faults before after first last waited state command stop =
    ((stop ≡ WriteFault) × (last ≡ first) × FailsToSend held faults before after waited)
    ⊎ HaltsIn held faults before after first last waited state command stop
