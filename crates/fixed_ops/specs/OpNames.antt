-- How operations are written.
use Rattle.std.specs.Prelude.{ℕ, List, codes}
use Rattle.fixed_ops.specs.declared.operation.Op.{Op}
use Rattle.fixed_ops.specs.declared.operation.Op.TheVariants.{X, Y, Z, Const, Neg, Square, Sqrt, Abs, Floor, Add, Sub, Mul, Div, Min, Max}

-- the bytes that name an operation
abbrev pub name_of : Op → List ℕ
name_of X = codes "var-x"
name_of Y = codes "var-y"
name_of Z = codes "var-z"
name_of Const = codes "const"
name_of Neg = codes "neg"
name_of Square = codes "square"
name_of Sqrt = codes "sqrt"
name_of Abs = codes "abs"
name_of Floor = codes "floor"
name_of Add = codes "add"
name_of Sub = codes "sub"
name_of Mul = codes "mul"
name_of Div = codes "div"
name_of Min = codes "min"
name_of Max = codes "max"
