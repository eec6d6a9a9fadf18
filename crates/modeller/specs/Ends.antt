-- What the program ends with.
use Rattle.std.specs.Prelude.{ℕ}
use Rattle.std.specs.declared.io.ErrorKind.TheVariants.{OutOfMemory}
use Rattle.modeller_cmd.specs.Statuses.{number_of}
use Rattle.modeller_cmd.specs.declared.status.Status.{Status}
use Rattle.modeller_cmd.specs.declared.status.Status.TheVariants.{NoMemory}
use Rattle.modeller.specs.declared.end.End.{End}
use Rattle.modeller.specs.declared.end.End.TheVariants.{Ran, Wordless}

-- The number that the program ends with: that of a run's status, or, where it has not run, that of
-- want of memory where its words need more than there is, and else 1, which no status has.
abbrev pub number_of_end : End → ℕ
number_of_end (Ran status) = number_of status
number_of_end (Wordless OutOfMemory) = number_of NoMemory
number_of_end (Wordless _) = 1

-- the program has run, and this holds of the run's status
abbrev pub HasRun : End → (Status → Type 0) → Type 0
HasRun (Ran status) P = P status
HasRun (Wordless kind) P = ⊥
