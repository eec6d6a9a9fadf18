-- Why a clause of a name does not go last.
use Rattle.std.specs.Prelude.{ℕ, nat_le, List, length, Option, Some, None, is_some, if◌then◌else◌}
use Rattle.solid_model.specs.declared.clause.Clause.{Clause}
use Rattle.solid_model.specs.declared.push_fault.PushFault.{PushFault}
use Rattle.solid_model.specs.declared.push_fault.PushFault.TheVariants.{DoubleName, Full}
use Rattle.solid_model.specs.Clauses.{place_of}

-- the first fault of a clause of this name after these clauses, if it has one: the name stands
-- already, or there are 65,535 clauses
abbrev pub push_fault : List Clause → List ℕ → Option PushFault
push_fault clauses name =
    if is_some (place_of clauses name) then Some DoubleName
    else if nat_le 65535 (length clauses) then Some Full
    else None
