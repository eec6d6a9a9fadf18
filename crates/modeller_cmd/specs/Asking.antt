-- What the words of a run ask for.
use Rattle.std.specs.Prelude.{◌≢◌, ℕ, List, [], Bool, true, false, Option, Some, Result, Ok, Err, if◌then◌else◌}
use Rattle.view_settings.specs.Verbs.{reads}
use Rattle.view_settings.specs.Words.{job_of}
use Rattle.view_settings.specs.declared.job.Job.{Job}
use Rattle.view_settings.specs.declared.job.Job.TheVariants.{Replay}
use Rattle.view_settings.specs.declared.word_fault.WordFault.{WordFault}
use Rattle.view_settings.specs.declared.reads.Reads.{Reads}
use Rattle.view_settings.specs.declared.reads.Reads.TheVariants as reading
use Rattle.modeller_cmd.specs.declared.refusal.Refusal.{Refusal}
use Rattle.modeller_cmd.specs.declared.refusal.Refusal.TheVariants.{Words}

-- the job that the words ask for, or why they are refused
abbrev pub asked : List (List ℕ) → Result Job Refusal
asked words = by (job_of words)
  where
    by : Result Job WordFault → Result Job Refusal
    by (Ok job) = Ok job
    by (Err fault) = Err (Words fault)

-- the words ask for no script, of which each part is written before the next one is made: all work
-- is done, and all memory is taken, before the first byte is written
abbrev pub WritesAtOnce : List (List ℕ) → Type 0
WritesAtOnce words = asked words ≢ Ok Replay

-- a job that makes its own solid, and has no input
abbrev pub reads_nothing : Job → Bool
reads_nothing job = by (reads job)
  where
    by : Reads → Bool
    by reading.Nothing = true
    by reading.Model = false
    by reading.Script = false
    by reading.Solid = false
    by reading.Mesh = false

-- the words ask for nothing of the source
abbrev pub asks_nothing : List (List ℕ) → Bool
asks_nothing words = by (asked words)
  where
    by : Result Job Refusal → Bool
    by (Ok job) = reads_nothing job
    by (Err refusal) = false

-- the input, where it is known: the empty one where nothing is asked of the source, and else what
-- the source tells
abbrev pub input_told : {S : Type 0} → (S → Option (List ℕ)) → S → Bool → Option (List ℕ)
input_told rest source nothing = if nothing then Some [] else rest source
