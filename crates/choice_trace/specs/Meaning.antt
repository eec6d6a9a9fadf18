-- What elements of a domain stand for, where `stands_for` says which numbers an element stands for.
use Rattle.std.specs.Prelude.{ℤ}
use Rattle.fixed_ops.specs.Operations.{op_result}
use Rattle.fixed_ops.specs.Points.{Point}
use Rattle.fixed_ops.specs.declared.operation.Op.{Op}
use Rattle.choice_trace.specs.declared.inputs.Inputs.{Inputs}

-- an element stands for an operation's results on all numbers that two elements stand for
abbrev pub StandsForResults : {D : Type 0} → (D → ℤ → Type 0) → Op → D → D → D → Type 0
StandsForResults stands_for op a b result =
    (u v : ℤ) → stands_for a u → stands_for b v → stands_for result (op_result op u v)

-- the inputs stand for a point: each of them stands for its coordinate
pub record StandForPoint {D : Type 0} (stands_for : D → ℤ → Type 0)
    (inputs : Inputs D) (p : Point) : Type 0 where
  pub x : stands_for inputs.x p.x
  pub y : stands_for inputs.y p.y
  pub z : stands_for inputs.z p.z
