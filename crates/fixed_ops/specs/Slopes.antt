-- Slopes: how fast a value changes along each axis, reckoned by the rules for sums, products and the
-- rest, with the operations' own rounding and clamping.
use Rattle.std.specs.Prelude.{◌*◌, ◌/◌, ◌+◌, ◌^◌, ◌==◌, ℕ, ℤ, pos, int_le, int_lt, if◌then◌else◌, unsigned_abs}
use Rattle.fixed_ops.specs.declared.operation.Op.{Op}
use Rattle.fixed_ops.specs.declared.operation.Op.TheVariants.{X, Y, Z, Const, Neg, Square, Sqrt, Abs, Add, Sub, Mul, Div, Min, Max}
use Rattle.fixed_ops.specs.Operations.{op_result}
use Rattle.fixed_ops.specs.Points.{Point, step_value}

-- the raw number of 1
abbrev pub one : ℤ
one = pos (2 ^ 32)

-- and of 2
abbrev pub two : ℤ
two = pos (2 ^ 33)

-- a value with its slopes along the three axes
pub record Sloped : Type 0 where
  pub value : ℤ
  pub dx : ℤ
  pub dy : ℤ
  pub dz : ℤ

-- 0, which is the same everywhere
abbrev pub flat : Sloped
flat = record { value = pos 0; dx = pos 0; dy = pos 0; dz = pos 0 }

-- The slope of an operation's result r along an axis, from the values a and b of its operands and their
-- slopes da and db. At a kink it is one side's slope: that of a minimum or a maximum of equal values is
-- the left operand's, and a distance from 0 rises with its operand at 0. Where the rule would divide by
-- 0 the slope is 0, and so is that of a floor.
abbrev pub slope_result : Op → ℤ → ℤ → ℤ → ℤ → ℤ → ℤ
slope_result Neg a b r da db = op_result Neg da da
slope_result Square a b r da db = op_result Mul (op_result Mul two a) da
slope_result Sqrt a b r da db =
    if int_lt (pos 0) r then op_result Div da (op_result Mul two r) else pos 0
slope_result Abs a b r da db = if int_le (pos 0) a then da else op_result Neg da da
slope_result Add a b r da db = op_result Add da db
slope_result Sub a b r da db = op_result Sub da db
slope_result Mul a b r da db = op_result Add (op_result Mul a db) (op_result Mul b da)
slope_result Div a b r da db =
    if unsigned_abs b == 0 then pos 0
    else op_result Div (op_result Sub da (op_result Mul r db)) b
slope_result Min a b r da db = if int_le a b then da else db
slope_result Max a b r da db = if int_le b a then da else db
slope_result op a b r da db = pos 0

-- a result r with its slopes, from operands with theirs
abbrev pub with_slopes : Op → Sloped → Sloped → ℤ → Sloped
with_slopes op a b r = record {
  value = r;
  dx = slope_result op a.value b.value r a.dx b.dx;
  dy = slope_result op a.value b.value r a.dy b.dy;
  dz = slope_result op a.value b.value r a.dz b.dz;
}

-- What an operation gives at a point from a constant and its operands with their slopes. A coordinate
-- rises by one along its own axis and stands still along the others.
abbrev pub step_sloped : Op → Point → ℤ → Sloped → Sloped → Sloped
step_sloped X p constant a b = record { value = p.x; dx = one; dy = pos 0; dz = pos 0 }
step_sloped Y p constant a b = record { value = p.y; dx = pos 0; dy = one; dz = pos 0 }
step_sloped Z p constant a b = record { value = p.z; dx = pos 0; dy = pos 0; dz = one }
step_sloped op p constant a b = with_slopes op a b (step_value op p constant a.value b.value)

-- The light on a surface with these slopes, seen from straight above: the share of the slope along z in
-- all three, from 1 to 255, and 255 where there is no slope.
abbrev pub light_of : ℤ → ℤ → ℤ → ℕ
light_of dx dy dz =
    let total = unsigned_abs dx + unsigned_abs dy + unsigned_abs dz in
    if total == 0 then 255 else 1 + 254 * unsigned_abs dz / total
