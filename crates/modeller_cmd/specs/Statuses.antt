-- How a run ends: the numbers of the statuses, and the status of a refusal.
use Rattle.std.specs.Prelude.{ℕ}
use Rattle.modeller_cmd.specs.declared.refusal.Refusal.{Refusal}
use Rattle.modeller_cmd.specs.declared.refusal.Refusal.TheVariants as refusal
use Rattle.modeller_cmd.specs.declared.status.Status.{Status}
use Rattle.modeller_cmd.specs.declared.status.Status.TheVariants.{Done, Usage, BadModel, BadScript, TooLong, ReadFault, WriteFault, NoMemory}

-- the number that the program ends with
abbrev pub number_of : Status → ℕ
number_of Done = 0
number_of Usage = 2
number_of BadModel = 3
number_of BadScript = 4
number_of TooLong = 5
number_of ReadFault = 6
number_of WriteFault = 7
number_of NoMemory = 8

-- the status that a refusal ends a run with
abbrev pub status_of : Refusal → Status
status_of (refusal.Words fault) = Usage
status_of refusal.TooLong = TooLong
status_of (refusal.Text bad) = BadModel
status_of (refusal.Script fault) = BadScript
