-- What the operations give: the exact result, floored to a whole raw number, then clamped.
use Rattle.std.specs.Prelude.{◌*◌, ◌^◌, ℤ, pos, negsuc, ◌+ℤ◌, ◌-ℤ◌, ◌*ℤ◌}
use Rattle.std.specs.Int.{int_max, int_min}
use lib.IntN.{neg_ℤ}
use Rattle.fixed_ops.specs.Quotient.{quotient_of}
use Rattle.fixed_ops.specs.Raw.{clamp, floor_div}
use Rattle.fixed_ops.specs.Root.{floor_root}
use Rattle.fixed_ops.specs.declared.operation.Op.{Op}
use Rattle.fixed_ops.specs.declared.operation.Op.TheVariants.{X, Y, Z, Const, Neg, Square, Sqrt, Abs, Floor, Add, Sub, Mul, Div, Min, Max}

-- the exact product of raw numbers, rounded down and clamped
abbrev pub product_of : ℤ → ℤ → ℤ
product_of a b = clamp (floor_div (a *ℤ b) (2 ^ 32))

-- the greatest whole number that is not above a raw number, clamped
abbrev pub whole_of : ℤ → ℤ
whole_of a = clamp (floor_div a (2 ^ 32) *ℤ pos (2 ^ 32))

-- the square root of a raw number, rounded down, and 0 below 0
abbrev pub square_root_of : ℤ → ℤ
square_root_of (pos n) = pos (floor_root (n * 2 ^ 32))
square_root_of (negsuc n) = pos 0

-- The result of an operation on raw numbers. A coordinate and a constant are handed on as the first of them.
abbrev pub op_result : Op → ℤ → ℤ → ℤ
op_result X a b = a
op_result Y a b = a
op_result Z a b = a
op_result Const a b = a
op_result Neg a b = neg_ℤ a
op_result Square a b = product_of a a
op_result Sqrt a b = square_root_of a
op_result Abs a b = int_max a (neg_ℤ a)
op_result Floor a b = whole_of a
op_result Add a b = clamp (a +ℤ b)
op_result Sub a b = clamp (a -ℤ b)
op_result Mul a b = product_of a b
op_result Div a b = quotient_of a b
op_result Min a b = int_min a b
op_result Max a b = int_max a b
