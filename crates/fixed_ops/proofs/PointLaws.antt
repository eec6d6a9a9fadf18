-- What a step makes of its operands: it reads only those that it has, and gives raw numbers from raw numbers.
use Rattle.std.proofs.Common.{◌≡◌, ◌<◌, ℤ, refl, arith}
use Rattle.fixed_ops.specs.declared.operation.Op.{Op}
use Rattle.fixed_ops.specs.declared.operation.Op.TheVariants.{X, Y, Z, Const, Neg, Square, Sqrt, Abs, Floor, Add, Sub, Mul, Div, Min, Max}
use Rattle.fixed_ops.specs.Arity.{arity_of}
use Rattle.fixed_ops.specs.Points.{Point, IsRawPoint, step_value}
use Rattle.fixed_ops.specs.Raw.{IsRaw}
use Rattle.fixed_ops.proofs.ResultLaws.{IsRaw-op_result}

-- an operation reads only the operands that it has
pub step_value-same : (op : Op) (p : Point) (value a b x y : ℤ) → (0 < arity_of op → a ≡ x)
    → (1 < arity_of op → b ≡ y)
    → step_value op p value a b ≡ step_value op p value x y
step_value-same X p value a b x y first second = refl
step_value-same Y p value a b x y first second = refl
step_value-same Z p value a b x y first second = refl
step_value-same Const p value a b x y first second = refl
step_value-same Neg p value a b x y first second = let one = first (omega arith) in (cc)
step_value-same Square p value a b x y first second = let one = first (omega arith) in (cc)
step_value-same Sqrt p value a b x y first second = let one = first (omega arith) in (cc)
step_value-same Abs p value a b x y first second = let one = first (omega arith) in (cc)
step_value-same Floor p value a b x y first second = let one = first (omega arith) in (cc)
step_value-same Add p value a b x y first second =
    let one = first (omega arith) in let two = second (omega arith) in (cc)
step_value-same Sub p value a b x y first second =
    let one = first (omega arith) in let two = second (omega arith) in (cc)
step_value-same Mul p value a b x y first second =
    let one = first (omega arith) in let two = second (omega arith) in (cc)
step_value-same Div p value a b x y first second =
    let one = first (omega arith) in let two = second (omega arith) in (cc)
step_value-same Min p value a b x y first second =
    let one = first (omega arith) in let two = second (omega arith) in (cc)
step_value-same Max p value a b x y first second =
    let one = first (omega arith) in let two = second (omega arith) in (cc)

-- one step gives a raw number from raw numbers
pub IsRaw-step_value : (op : Op) (p : Point) (constant a b : ℤ) → IsRawPoint p → IsRaw constant
    → IsRaw a → IsRaw b
    → IsRaw (step_value op p constant a b)
IsRaw-step_value X p constant a b at raw left right = at.x
IsRaw-step_value Y p constant a b at raw left right = at.y
IsRaw-step_value Z p constant a b at raw left right = at.z
IsRaw-step_value Const p constant a b at raw left right = raw
IsRaw-step_value op p constant a b at raw left right = IsRaw-op_result op a b left right
