-- How many operands an operation has.
use Rattle.std.specs.Prelude.{ℕ}
use Rattle.fixed_ops.specs.declared.operation.Op.{Op}
use Rattle.fixed_ops.specs.declared.operation.Op.TheVariants.{X, Y, Z, Const, Neg, Square, Sqrt, Abs, Floor, Add, Sub, Mul, Div, Min, Max}

-- the operands that are clauses, so a constant has none
abbrev pub arity_of : Op → ℕ
arity_of X = 0
arity_of Y = 0
arity_of Z = 0
arity_of Const = 0
arity_of Neg = 1
arity_of Square = 1
arity_of Sqrt = 1
arity_of Abs = 1
arity_of Floor = 1
arity_of Add = 2
arity_of Sub = 2
arity_of Mul = 2
arity_of Div = 2
arity_of Min = 2
arity_of Max = 2
