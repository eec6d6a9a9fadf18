-- How far parts were written, and what the tally counted: whole, or up to a halt.
use Rattle.std.specs.Prelude.{◌≡◌, ◌≢◌, ℕ, ◌<◌, List, ◌++◌, length, take, Option}
use Rattle.model_frames.specs.Work.{CountsWithin, CountsWork, PointsRiseAtMost, Work}
use Rattle.fixed_ops.specs.Counts.{Counts}
use Rattle.modeller_io.specs.Count.{RoseBy, Stands}
use Rattle.modeller_io.specs.Held.{Gains, GainsProperPrefix, Grew}
use Rattle.model_frames.specs.Frames.{Part}
use Rattle.modeller_cmd.specs.Parts.{bytes_of_parts, work_of_parts}
use Rattle.modeller_cmd.specs.declared.stop.Stop.{Stop}
use Rattle.modeller_cmd.specs.declared.stop.Stop.TheVariants.{WriteFault}

-- this work was done, and counted
pub record Worked (first last : Counts) (work : Work) : Type 0 where
  pub counted : CountsWork first last work
  pub at_most : CountsWithin first last work
  pub plain : PointsRiseAtMost first last work.plain

-- the parts were written whole, and their work was done and counted
pub record Written {K : Type 0} (held : K → Option (List ℕ)) (faults : K → ℕ)
    (before after : K) (first last : Counts) (parts : List Part) : Type 0 where
  pub gained : Gains held before after (bytes_of_parts parts)
  pub no_fault : Stands faults before after
  pub counted : CountsWork first last (work_of_parts parts)
  pub at_most : CountsWithin first last (work_of_parts parts)
  pub plain : PointsRiseAtMost first last (work_of_parts parts).plain

-- a sink failed once when it was sent these bytes, and took a proper prefix of them
pub record FailsToSend {K : Type 0} (held : K → Option (List ℕ)) (faults : K → ℕ)
    (before after : K) (bytes : List ℕ) : Type 0 where
  pub gained : GainsProperPrefix held before after bytes
  pub fault : RoseBy faults before after 1

-- a sink that reports what it holds grew by all of some bytes, and a proper prefix of others behind
-- them
pub record GainsBeyond {K : Type 0} (held : K → Option (List ℕ)) (before after : K)
    (bytes next : List ℕ) : Type 0 where
  pub count : ℕ
  pub within : count < length next
  pub gained : Gains held before after (bytes ++ take count next)

-- Something halted that. A fault of the sink leaves it with a proper prefix of the bytes. No more than
-- the work of the parts was counted.
pub record Halted {K : Type 0} (held : K → Option (List ℕ)) (faults : K → ℕ)
    (before after : K) (first last : Counts) (parts : List Part) (stop : Stop) : Type 0 where
  pub failed : stop ≡ WriteFault → FailsToSend held faults before after (bytes_of_parts parts)
  pub no_fault : stop ≢ WriteFault → Stands faults before after
  pub at_most : CountsWithin first last (work_of_parts parts)
  pub plain : PointsRiseAtMost first last (work_of_parts parts).plain
  pub grew : Grew held before after
