-- What `run` promises: by the status that it answers, and whatever the status is.
use Rattle.std.specs.Prelude.{◌≡◌, ◌≢◌, ◌↔◌, ◌+◌, ◌<◌, true, false, Ok, Err, IsErr}
use Rattle.model_frames.specs.Work.{CountsWithin, CountsWork, PointsRiseAtMost}
use Rattle.modeller_io.specs.Count.{last_count, RoseAtMost, RoseBy, Stands}
use Rattle.modeller_io.specs.Held.{Gains, GainsProperPrefix, Grew}
use Rattle.modeller_io.specs.Took.{LosesAtMost}
use Rattle.view_settings.specs.declared.job.Job.TheVariants.{Replay}
use Rattle.modeller_cmd.specs.Asking.{WritesAtOnce, asked, asks_nothing}
use Rattle.modeller_cmd.specs.Endings.{CountsForSome, IsRefusal}
use Rattle.modeller_cmd.specs.Halting.{HaltsScript}
use Rattle.modeller_cmd.specs.Notes.{line_of, refusal_line}
use Rattle.modeller_cmd.specs.Output.{input_limit, outcome}
use Rattle.modeller_cmd.specs.Parts.{bytes_of_parts, work_of_parts}
use Rattle.modeller_cmd.specs.Runs.{InputIsRead, IsNoted, OfInput, OfOutput, Run}
use Rattle.modeller_cmd.specs.Statuses.{status_of}
use Rattle.modeller_cmd.specs.declared.refusal.Refusal.{Refusal}
use Rattle.modeller_cmd.specs.declared.refusal.Refusal.TheVariants as refusal
use Rattle.modeller_cmd.specs.declared.status.Status.TheVariants.{Done, Usage, BadScript, TooLong, ReadFault, WriteFault, NoMemory}
use Rattle.modeller_cmd.specs.declared.stop.Stop.TheVariants as stop

-- Done: all of the output was written, its work is counted, the input was read, and nothing is noted.
pub record IsDone {S K N : Type 0} (run : Run S K N) : Type 0 where
  pub output : OfOutput run (λ output. (output.status ≡ Done)
      × Gains run.held run.out run.out_after (bytes_of_parts output.parts)
      × CountsWork run.first run.last (work_of_parts output.parts))
  pub read : InputIsRead run
  pub silent : run.notes_after ≡ run.notes

-- what a refusal leaves of the source: as it was where the words are refused, one byte more than the
-- limit lost where the input is too long, and else read
abbrev pub SourceAfter : {S K N : Type 0} → Run S K N → Refusal → Type 0
SourceAfter run (refusal.Words fault) = run.source_after ≡ run.source
SourceAfter run refusal.TooLong =
    RoseBy run.taken run.source run.source_after (input_limit + 1)
SourceAfter run other = InputIsRead run

-- The words, the text or the script are refused, or the input is too long: nothing is written or
-- counted, and the notes took the line that says why.
pub record IsRefused {S K N : Type 0} (run : Run S K N) : Type 0 where
  pub why : Refusal
  pub status : run.status ≡ status_of why
  pub outcome : OfInput run (λ input. outcome run.words input ≡ Err why)
  pub words : run.status ≡ Usage → asked run.words ≡ Err why
  pub script : run.status ≡ BadScript → asked run.words ≡ Ok Replay
  pub source : SourceAfter run why
  pub unwritten : run.out_after ≡ run.out
  pub uncounted : run.last ≡ run.first
  pub line : IsNoted run (refusal_line why)

-- The source failed once, where the words ask for its bytes: nothing is written or counted.
pub record IsReadFault {S K N : Type 0} (run : Run S K N) : Type 0 where
  pub asked : asks_nothing run.words ≡ false
  pub fault : RoseBy run.read_faults run.source run.source_after 1
  pub unwritten : run.out_after ≡ run.out
  pub uncounted : run.last ≡ run.first
  pub line : IsNoted run (line_of stop.ReadFault)

-- The sink failed once, and took a proper prefix of an output that is done. All of its work was
-- counted before the first byte, but that of a script up to the command at which it halts.
pub record IsWriteFault {S K N : Type 0} (run : Run S K N) : Type 0 where
  pub fault : RoseBy run.write_faults run.out run.out_after 1
  pub read : InputIsRead run
  pub output : OfOutput run (λ output. (output.status ≡ Done)
      × GainsProperPrefix run.held run.out run.out_after (bytes_of_parts output.parts))
  pub counted : WritesAtOnce run.words
      → OfOutput run (λ output. CountsWork run.first run.last (work_of_parts output.parts))
  pub script : asked run.words ≡ Ok Replay → OfInput run (λ input. HaltsScript run.held
      run.write_faults run.out run.out_after run.first run.last input stop.WriteFault)
  pub line : IsNoted run (line_of stop.WriteFault)

-- Memory was refused: nothing is written, but by a script what its first commands write, up to the
-- one at which it halts.
pub record IsOutOfMemory {S K N : Type 0} (run : Run S K N) : Type 0 where
  pub unwritten : WritesAtOnce run.words → run.out_after ≡ run.out
  pub script : asked run.words ≡ Ok Replay → OfInput run (λ input. HaltsScript run.held
      run.write_faults run.out run.out_after run.first run.last input stop.NoMemory)
  pub line : IsNoted run (line_of stop.NoMemory)

-- Whatever the status: the words are refused exactly under Usage, no other fault rose, and no more
-- was read, noted or counted than this.
pub record Always {S K N : Type 0} (run : Run S K N) : Type 0 where
  pub usage : (run.status ≡ Usage) ↔ IsErr (asked run.words)
  pub too_long : run.taken run.source_after ≡ run.taken run.source + (input_limit + 1)
      → run.taken run.source_after < last_count → run.status ≡ TooLong
  pub no_read_fault : run.status ≢ ReadFault
      → Stands run.read_faults run.source run.source_after
  pub no_write_fault : run.status ≢ WriteFault → Stands run.write_faults run.out run.out_after
  pub unasked : asks_nothing run.words ≡ true → run.source_after ≡ run.source
  pub lost : LosesAtMost run.rest run.taken run.source run.source_after (input_limit + 1)
  pub notes : RoseAtMost run.note_faults run.notes run.notes_after 1
  pub at_most : OfOutput run (λ output.
      CountsWithin run.first run.last (work_of_parts output.parts))
  pub plain : OfOutput run (λ output.
      PointsRiseAtMost run.first run.last (work_of_parts output.parts).plain)
  -- a courtesy where the source does not report its bytes, and nothing above speaks of the output
  pub grew : Grew run.held run.out run.out_after
  pub some : CountsForSome run.words run.first run.last

-- a run keeps all these promises
pub record IsRun {S K N : Type 0} (run : Run S K N) : Type 0 where
  pub done : run.status ≡ Done → IsDone run
  pub refused : IsRefusal run.status → IsRefused run
  pub read_fault : run.status ≡ ReadFault → IsReadFault run
  pub write_fault : run.status ≡ WriteFault → IsWriteFault run
  pub out_of_memory : run.status ≡ NoMemory → IsOutOfMemory run
  pub always : Always run
