-- How the result of an operation runs with its operands.
use Rattle.fixed_ops.specs.declared.operation.Op.{Op}
use Rattle.fixed_ops.specs.declared.operation.Op.TheVariants.{Square, Sqrt, Abs, Floor, Add, Min, Max}

-- an operation whose result rises with each operand
abbrev pub IsRising : Op → Type 0
IsRising Sqrt = Unit {0}
IsRising Floor = Unit {0}
IsRising Add = Unit {0}
IsRising Min = Unit {0}
IsRising Max = Unit {0}
IsRising op = ⊥

-- an operation that is as great on either side of 0, rises away from it, and is 0 there
abbrev pub IsEven : Op → Type 0
IsEven Square = Unit {0}
IsEven Abs = Unit {0}
IsEven op = ⊥
