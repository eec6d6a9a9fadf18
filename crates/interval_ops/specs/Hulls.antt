-- What an operation makes of two spans.
use Rattle.std.specs.Prelude.{◌≡◌, ℤ, pos, int_lt, not, ◌&&◌, if◌then◌else◌}
use Rattle.std.specs.Int.{int_max, int_min}
use lib.IntN.{neg_ℤ}
use Rattle.fixed_ops.specs.Operations.{op_result}
use Rattle.fixed_ops.specs.Raw.{is_inside}
use Rattle.fixed_ops.specs.declared.operation.Op.{Op}
use Rattle.fixed_ops.specs.declared.operation.Op.TheVariants.{X, Y, Z, Const, Neg, Square, Sqrt, Abs, Floor, Add, Sub, Mul, Div, Min, Max}
use Rattle.interval_ops.specs.Spans.{Interval, Holds, all_numbers}

-- a number is the result on some value of each span
pub record IsResult (op : Op) (a b : Interval) (r : ℤ) : Type 0 where
  pub left : ℤ
  pub right : ℤ
  pub in_a : Holds a left
  pub in_b : Holds b right
  pub is : r ≡ op_result op left right

-- both ends are results, and every result lies between them
pub record IsLeastAndGreatest (op : Op) (a b h : Interval) : Type 0 where
  pub least : IsResult op a b h.lo
  pub greatest : IsResult op a b h.hi
  pub all : (u v : ℤ) → Holds a u → Holds b v → Holds h (op_result op u v)

-- quotients are all numbers where the divisor may be 0
pub record IsQuotientHull (a b h : Interval) : Type 0 where
  pub by_zero : Holds b (pos 0) → h ≡ all_numbers
  pub free : (Holds b (pos 0) → ⊥) → IsLeastAndGreatest Div a b h

-- h is the hull of the results on the values of two spans, each value by itself. A coordinate and
-- a constant hand their span on.
abbrev pub IsHull : Op → Interval → Interval → Interval → Type 0
IsHull X a b h = h ≡ a
IsHull Y a b h = h ≡ a
IsHull Z a b h = h ≡ a
IsHull Const a b h = h ≡ a
IsHull Div a b h = IsQuotientHull a b h
IsHull op a b h = IsLeastAndGreatest op a b h

-- from one number to another
abbrev pub between : ℤ → ℤ → Interval
between lo hi = record { lo = lo; hi = hi }

-- the least and the greatest of four numbers
abbrev pub hull_of_four : ℤ → ℤ → ℤ → ℤ → Interval
hull_of_four p q r s =
    between (int_min (int_min p q) (int_min r s)) (int_max (int_max p q) (int_max r s))

-- the hull of what is as great on either side of 0, rises away from it and is 0 there, from its
-- values p and q at the ends of a span
abbrev pub hull_of_even : Interval → ℤ → ℤ → Interval
hull_of_even a p q =
    between (if is_inside a.lo && not (is_inside a.hi) then pos 0 else int_min p q) (int_max p q)

-- the quotients by divisors above 0, and by divisors below it
abbrev pub hull_above : Interval → Interval → Interval
hull_above a b = between
    (op_result Div a.lo (if is_inside a.lo then b.lo else b.hi))
    (op_result Div a.hi (if is_inside a.hi then b.hi else b.lo))

abbrev pub hull_below : Interval → Interval → Interval
hull_below a b = between
    (op_result Div a.hi (if is_inside a.hi then b.lo else b.hi))
    (op_result Div a.lo (if is_inside a.lo then b.hi else b.lo))

-- the same hull by its ends, each of them the result at ends of the spans. The laws of hulls tie
-- it to IsHull.
abbrev pub hull_of : Op → Interval → Interval → Interval
hull_of X a b = a
hull_of Y a b = a
hull_of Z a b = a
hull_of Const a b = a
hull_of Neg a b = between (neg_ℤ a.hi) (neg_ℤ a.lo)
hull_of Square a b = hull_of_even a (op_result Square a.lo a.lo) (op_result Square a.hi a.hi)
hull_of Sqrt a b = between (op_result Sqrt a.lo a.lo) (op_result Sqrt a.hi a.hi)
hull_of Abs a b = hull_of_even a (op_result Abs a.lo a.lo) (op_result Abs a.hi a.hi)
hull_of Floor a b = between (op_result Floor a.lo a.lo) (op_result Floor a.hi a.hi)
hull_of Add a b = between (op_result Add a.lo b.lo) (op_result Add a.hi b.hi)
hull_of Sub a b = between (op_result Sub a.lo b.hi) (op_result Sub a.hi b.lo)
hull_of Mul a b = hull_of_four
    (op_result Mul a.lo b.lo)
    (op_result Mul a.lo b.hi)
    (op_result Mul a.hi b.lo)
    (op_result Mul a.hi b.hi)
hull_of Div a b =
    if is_inside b.hi then hull_below a b
    else (if int_lt (pos 0) b.lo then hull_above a b else all_numbers)
hull_of Min a b = between (op_result Min a.lo b.lo) (op_result Min a.hi b.hi)
hull_of Max a b = between (op_result Max a.lo b.lo) (op_result Max a.hi b.hi)
