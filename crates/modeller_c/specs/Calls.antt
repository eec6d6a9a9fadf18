-- What a call leaves: the run that it was, and what that run handed over.
use Rattle.std.specs.Prelude.{◌≡◌, ◌⊎◌, ℕ, List, Some}
use Rattle.fixed_ops.specs.Counts.{Counts, no_counts}
use Rattle.modeller_io.specs.SourceView.{SureSourceView}
use Rattle.modeller_cmd.specs.Laws.{Laws}
use Rattle.modeller_cmd.specs.Notes.{line_of}
use Rattle.modeller_cmd.specs.Promises.{IsRun}
use Rattle.modeller_cmd.specs.Runs.{Run, run_of}
use Rattle.modeller_cmd.specs.Statuses.{number_of}
use Rattle.modeller_cmd.specs.declared.status.Status.{Status}
use Rattle.modeller_cmd.specs.declared.status.Status.TheVariants.{NoMemory}
use Rattle.modeller_cmd.specs.declared.stop.Stop.TheVariants as stop
use Rattle.modeller_c.specs.Gathering.{Gathering, nothing_yet}
use Rattle.modeller_c.specs.Rooms.{IsHandedOver}
use Rattle.modeller_c.specs.Words.{words_in}
use Rattle.modeller_c.specs.declared.ran.Ran.{Ran}

-- how many bytes a source gives a call
abbrev pub piece : ℕ
piece = 65536

-- a source that has this input
abbrev pub source_of : List ℕ → SureSourceView
source_of input = record { rest = input; taken = 0; chunk = piece }

-- The run of the words of a line over an input, that leaves this. Its source never fails, and its sinks
-- report all that they took.
abbrev pub run_on : List ℕ → List ℕ → SureSourceView → Gathering → Gathering → Counts → Status
    → Run SureSourceView Gathering Gathering
run_on line input source written noted last status =
    run_of (λ s. Some s.rest) (λ s. s.taken) (λ _. 0) (λ s. Some s.held) (λ s. s.faults)
    (λ s. Some s.held) (λ s. s.faults) (words_in line) (source_of input) source nothing_yet written
    nothing_yet noted no_counts last status

-- The call was a run, which keeps what each run promises. Its sinks were refused no memory, and all
-- that it wrote and noted was handed over.
pub record WasRun (line input out out_after note note_after : List ℕ) (ran : Ran) : Type 0 where
  pub source : SureSourceView
  pub written : Gathering
  pub noted : Gathering
  pub last : Counts
  pub status : Status
  pub run : IsRun (run_on line input source written noted last status)
  pub laws : Laws (words_in line) input
  pub unfailing : (written.faults ≡ 0) × (noted.faults ≡ 0)
  pub number : ran.status ≡ number_of status
  pub output : IsHandedOver written.held out out_after ran.out
  pub line_noted : IsHandedOver noted.held note note_after ran.note

-- Memory for the words, the input, the output or the note was refused: nothing of an output was handed
-- over, and the line that says so was.
pub record WasRefusedMemory (out out_after note note_after : List ℕ) (ran : Ran) : Type 0 where
  pub status : ran.status ≡ number_of NoMemory
  pub unwritten : (out_after ≡ out) × (ran.out ≡ 0)
  pub line_noted : IsHandedOver (line_of stop.NoMemory) note note_after ran.note

-- what a call leaves
abbrev pub IsCall : List ℕ → List ℕ → List ℕ → List ℕ → List ℕ → List ℕ → Ran → Type 0
IsCall line input out out_after note note_after ran =
    WasRun line input out out_after note note_after ran
    ⊎ WasRefusedMemory out out_after note note_after ran
