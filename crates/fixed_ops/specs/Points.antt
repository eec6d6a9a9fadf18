-- Points, and what one step of an evaluation gives there.
use Rattle.std.specs.Prelude.{ℤ}
use Rattle.fixed_ops.specs.declared.operation.Op.{Op}
use Rattle.fixed_ops.specs.declared.operation.Op.TheVariants.{X, Y, Z, Const}
use Rattle.fixed_ops.specs.Operations.{op_result}
use Rattle.fixed_ops.specs.Raw.{IsRaw}

-- a point, as three whole numbers
pub record Point : Type 0 where
  pub x : ℤ
  pub y : ℤ
  pub z : ℤ

-- a point whose coordinates are raw numbers
pub record IsRawPoint (p : Point) : Type 0 where
  pub x : IsRaw p.x
  pub y : IsRaw p.y
  pub z : IsRaw p.z

-- What an operation gives at a point from a constant and the values of its operands: the coordinate,
-- the constant, or its result on the two values.
abbrev pub step_value : Op → Point → ℤ → ℤ → ℤ → ℤ
step_value X p constant a b = p.x
step_value Y p constant a b = p.y
step_value Z p constant a b = p.z
step_value Const p constant a b = constant
step_value op p constant a b = op_result op a b
