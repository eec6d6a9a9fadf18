-- Operands, results, steps, slopes, light, counts of work, numbers, cuts, numerals and roots, worked out by hand.
use Rattle.std.proofs.Common.{◌≡◌, ◌≤◌, ℕ, ℤ, pos, negsuc, true, false, Some, None, [], ◌∷◌, refl, ap, arith, inl, inr}
use Rattle.std.specs.Prelude.{codes}
use Rattle.std.proofs.lemmas.Int.{ints}
use Rattle.fixed_ops.proofs.DigitLaws.{digits_from_test}
use Rattle.fixed_ops.specs.Arity.{arity_of}
use Rattle.fixed_ops.specs.Counts.{Counts, IsAtMost, RisesAtMost, RisesWithin, corners_of, joined, no_counts, plus, points_of, risen, spans_of, times}
use Rattle.fixed_ops.specs.Cut.{cut_of}
use Rattle.fixed_ops.specs.Laws.{IsClamped, IsOverZero}
use Rattle.fixed_ops.specs.Numerals.{cut_magnitude, digits_read, is_unsigned_numeral, nearest_raw, numeral, unsigned_raw}
use Rattle.fixed_ops.specs.OpNames.{name_of}
use Rattle.fixed_ops.specs.Operations.{op_result}
use Rattle.fixed_ops.specs.Points.{IsRawPoint, Point, step_value}
use Rattle.fixed_ops.specs.Raw.{IsInside, IsRaw, greatest}
use Rattle.fixed_ops.specs.Root.{IsRawRoot, IsRoot}
use Rattle.fixed_ops.specs.Slopes.{Sloped, flat, light_of, one, slope_result, step_sloped, two}
use Rattle.fixed_ops.specs.Spelling.{IsDot, IsSign, IsSpelling, Spelling, spelled, spelling_value}
use Rattle.fixed_ops.specs.declared.operation.Op.{Op}
use Rattle.fixed_ops.specs.declared.operation.Op.TheVariants.{X, Y, Z, Const, Neg, Square, Sqrt, Abs, Floor, Add, Sub, Mul, Div, Min, Max}

abbrev here : Point
here = record { x = pos 1; y = pos 2; z = pos 3 }

abbrev step : Op → ℤ
step op = step_value op here (pos 7) (pos 8) (pos 9)

-- a step takes its coordinate, its constant, or its operands in their order
steps : step X ∷ step Y ∷ step Z ∷ step Const ∷ step Sub ∷ [] ≡
    pos 1 ∷ pos 2 ∷ pos 3 ∷ pos 7 ∷ negsuc 0 ∷ []
steps = refl

-- the word that each operation is written as
words_of_operations : name_of X ∷ name_of Y ∷ name_of Z ∷ name_of Const ∷ name_of Neg ∷ name_of Square ∷ name_of Sqrt
    ∷ name_of Abs ∷ name_of Floor ∷ name_of Add ∷ name_of Sub ∷ name_of Mul ∷ name_of Div ∷ name_of Min ∷ name_of Max
    ∷ [] ≡
    codes "var-x" ∷ codes "var-y" ∷ codes "var-z" ∷ codes "const" ∷ codes "neg" ∷ codes "square" ∷ codes "sqrt"
    ∷ codes "abs" ∷ codes "floor" ∷ codes "add" ∷ codes "sub" ∷ codes "mul" ∷ codes "div" ∷ codes "min" ∷ codes "max"
    ∷ []
words_of_operations = refl

-- how many operands each operation has, in the same order
operands_of_operations : arity_of X ∷ arity_of Y ∷ arity_of Z ∷ arity_of Const ∷ arity_of Neg ∷ arity_of Square
    ∷ arity_of Sqrt ∷ arity_of Abs ∷ arity_of Floor ∷ arity_of Add ∷ arity_of Sub ∷ arity_of Mul ∷ arity_of Div
    ∷ arity_of Min ∷ arity_of Max ∷ [] ≡
    0 ∷ 0 ∷ 0 ∷ 0 ∷ 1 ∷ 1 ∷ 1 ∷ 1 ∷ 1 ∷ 2 ∷ 2 ∷ 2 ∷ 2 ∷ 2 ∷ 2 ∷ []
operands_of_operations = refl

-- -2.5 and 1.5, and what each operation gives on them
abbrev result : Op → ℤ
result op = op_result op (negsuc 10737418239) (pos 6442450944)

handed_on : result X ∷ result Y ∷ result Z ∷ result Const ∷ [] ≡
    negsuc 10737418239 ∷ negsuc 10737418239 ∷ negsuc 10737418239 ∷ negsuc 10737418239 ∷ []
handed_on = refl

-- 2.5, 6.25, no root, 2.5 and -3
results_of_one : result Neg ∷ result Square ∷ result Sqrt ∷ result Abs ∷ result Floor ∷ [] ≡
    pos 10737418240 ∷ pos 26843545600 ∷ pos 0 ∷ pos 10737418240 ∷ negsuc 12884901887 ∷ []
results_of_one = refl

-- -1, -4, -3.75 and -5/3, rounded down
results_of_two : result Add ∷ result Sub ∷ result Mul ∷ result Div ∷ [] ≡
    negsuc 4294967295 ∷ negsuc 17179869183 ∷ negsuc 16106127359 ∷ negsuc 7158278826 ∷ []
results_of_two = refl

lesser_and_greater : result Min ∷ result Max ∷ [] ≡ negsuc 10737418239 ∷ pos 6442450944 ∷ []
lesser_and_greater = refl

-- each coordinate of a raw point is raw
raw_coordinates : (p : Point) → IsRawPoint p → IsRaw p.x × IsRaw p.y × IsRaw p.z
raw_coordinates p raw = (raw.x, raw.y, raw.z)

-- ---- slopes

abbrev sloped : ℤ → ℤ → ℤ → ℤ → Sloped
sloped value dx dy dz = record { value = value; dx = dx; dy = dy; dz = dz }

abbrev step_with_slopes : Op → Sloped
step_with_slopes op =
    step_sloped op here (pos 7) (sloped (pos 8) (pos 20) (pos 30) (pos 40)) (sloped (pos 9) (pos 1) (pos 2) (pos 3))

-- a coordinate rises along its own axis, a constant stands still, and a difference has the difference of the
-- slopes along each axis
steps_with_slopes : step_with_slopes X ∷ step_with_slopes Y ∷ step_with_slopes Z ∷ step_with_slopes Const
    ∷ step_with_slopes Sub ∷ [] ≡
    sloped (pos 1) one (pos 0) (pos 0) ∷ sloped (pos 2) (pos 0) one (pos 0) ∷ sloped (pos 3) (pos 0) (pos 0) one
    ∷ record flat { value = pos 7 } ∷ sloped (negsuc 0) (pos 19) (pos 28) (pos 37) ∷ []
steps_with_slopes = refl

one_and_two : one ∷ two ∷ [] ≡ pos 4294967296 ∷ pos 8589934592 ∷ []
one_and_two = refl

-- values that are the same along the axis, whatever their operands
still_slopes : slope_result X (pos 8) (pos 9) (pos 8) (pos 5) (pos 6)
    ∷ slope_result Const (pos 8) (pos 9) (pos 8) (pos 5) (pos 6)
    ∷ slope_result Floor (pos 8) (pos 9) (pos 0) (pos 5) (pos 6) ∷ [] ≡ pos 0 ∷ pos 0 ∷ pos 0 ∷ []
still_slopes = refl

-- the opposite, the sum and the difference of two slopes
linear_slopes : slope_result Neg (pos 8) (pos 9) (negsuc 7) (pos 5) (pos 6)
    ∷ slope_result Add (pos 8) (pos 9) (pos 17) (pos 5) (pos 6)
    ∷ slope_result Sub (pos 8) (pos 9) (negsuc 0) (pos 5) (pos 6) ∷ [] ≡ negsuc 4 ∷ pos 11 ∷ negsuc 0 ∷ []
linear_slopes = refl

-- the square of 3 rises by 6, the product of 2 and 3 by 5, and 6 divided by 3 by a third less than nothing,
-- rounded down
curved_slopes : slope_result Square (pos 12884901888) (pos 0) (pos 38654705664) one (pos 0)
    ∷ slope_result Mul (pos 8589934592) (pos 12884901888) (pos 25769803776) one one
    ∷ slope_result Div (pos 25769803776) (pos 12884901888) (pos 8589934592) one one ∷ [] ≡
    pos 25769803776 ∷ pos 21474836480 ∷ negsuc 1431655765 ∷ []
curved_slopes = refl

-- the root of 4 rises by a quarter; a root that is 0, of 0 or of less, has no slope
root_slopes : slope_result Sqrt (pos 17179869184) (pos 0) (pos 8589934592) one (pos 0)
    ∷ slope_result Sqrt (pos 0) (pos 0) (pos 0) one (pos 0)
    ∷ slope_result Sqrt (negsuc 8) (pos 0) (pos 0) one (pos 0) ∷ [] ≡ pos 1073741824 ∷ pos 0 ∷ pos 0 ∷ []
root_slopes = refl

-- a distance from 0 rises with its operand at 0 and above, and against it below
distance_slopes : slope_result Abs (pos 0) (pos 0) (pos 0) (pos 5) (pos 0)
    ∷ slope_result Abs (pos 1) (pos 0) (pos 1) (pos 5) (pos 0)
    ∷ slope_result Abs (negsuc 0) (pos 0) (pos 1) (pos 5) (pos 0) ∷ [] ≡ pos 5 ∷ pos 5 ∷ negsuc 4 ∷ []
distance_slopes = refl

-- divided by 0, nothing has a slope
no_quotient_slope : slope_result Div (pos 5) (pos 0) greatest one one ≡ pos 0
no_quotient_slope = refl

-- the slope of the operand that is less, of two equal ones the left one's
least_slopes : slope_result Min (pos 8) (pos 9) (pos 8) (pos 5) (pos 6)
    ∷ slope_result Min (pos 8) (pos 8) (pos 8) (pos 5) (pos 6)
    ∷ slope_result Min (pos 9) (pos 8) (pos 8) (pos 5) (pos 6) ∷ [] ≡ pos 5 ∷ pos 5 ∷ pos 6 ∷ []
least_slopes = refl

-- and of the one that is greater
greatest_slopes : slope_result Max (pos 9) (pos 8) (pos 9) (pos 5) (pos 6)
    ∷ slope_result Max (pos 8) (pos 8) (pos 8) (pos 5) (pos 6)
    ∷ slope_result Max (pos 8) (pos 9) (pos 9) (pos 5) (pos 6) ∷ [] ≡ pos 5 ∷ pos 5 ∷ pos 6 ∷ []
greatest_slopes = refl

-- 10^9 times a slope of 10^9, and 10^9 times one of 2 * 10^9, both stop at the greatest number
steep_slopes :
    slope_result Mul (negsuc 4294967295999999999) (pos 4294967296000000000) (negsuc 4611686018427387902)
    (pos 4294967296000000000) (pos 0)
    ∷ slope_result Mul (negsuc 4294967295999999999) (pos 4294967296000000000) (negsuc 4611686018427387902)
    (pos 4611686018427387903) (pos 0) ∷ [] ≡ greatest ∷ greatest ∷ []
steep_slopes = refl

-- ---- light

-- the share of the slope along z, whatever the signs; without any slope the surface is light
lights : light_of one one (pos 0) ∷ light_of (pos 0) one (negsuc 4294967295)
    ∷ light_of greatest greatest greatest ∷ light_of (pos 0) (pos 0) (pos 0) ∷ light_of (pos 0) (pos 0) one ∷ [] ≡
    1 ∷ 128 ∷ 85 ∷ 255 ∷ 255 ∷ []
lights = refl

-- ---- counts of work

abbrev counts : ℕ → ℕ → ℕ → Counts
counts points spans corners = record { points = points; spans = spans; corners = corners }

abbrev work : Counts
work = counts 1 2 5

-- each count by itself
work_twice_and_once : plus (times 2 work) work ≡ counts 3 6 15
work_twice_and_once = refl

-- work is made of its evaluations, hulls and corners, and no work comes before it
work_by_kinds : plus (plus (points_of 1) (spans_of 2)) (corners_of 5) ≡ work
work_by_kinds = refl

work_alone : joined no_counts work ≡ work
work_alone = refl

-- a count that is full stands still, and the others rise
points_are_full : joined (counts 18446744073709551615 4 7) work ≡ counts 18446744073709551615 6 12
points_are_full = refl

others_are_full : joined (counts 8 18446744073709551614 18446744073709551611) work
    ≡ counts 9 18446744073709551615 18446744073709551615
others_are_full = refl

-- each count is at most as much, and none is more
as_much : IsAtMost work work
as_much = record { points = omega arith; spans = omega arith; corners = omega arith }

no_more : (points spans corners : ℕ) → IsAtMost (counts points spans corners) work
    → (points ≤ 1) × (spans ≤ 2) × (corners ≤ 5)
no_more points spans corners most = (most.points, most.spans, most.corners)

-- a tally rises by less than so much work, and not by one corner more
rises : RisesAtMost (counts 10 20 30) (counts 11 21 34) work
rises = record {
  by = counts 1 1 4;
  within = record { points = omega arith; spans = omega arith; corners = omega arith };
  rises = refl;
}

six_corners : RisesAtMost no_counts (counts 1 2 6) work → ⊥
six_corners rise =
    let risen_by : 6 ≡ risen 0 rise.by.corners = ap (λ c. c.corners) rise.rises in
    omega (arith, rise.within.corners, risen_by)

-- a tally rises by more than the least and by less than the most, and also by just the one or the other
rises_between : RisesWithin (counts 10 20 30) (counts 12 23 36) (counts 1 2 5) (counts 3 4 8)
rises_between = record {
  by = counts 2 3 6;
  enough = record { points = omega arith; spans = omega arith; corners = omega arith };
  within = record { points = omega arith; spans = omega arith; corners = omega arith };
  rises = refl;
}

rises_by_the_ends : RisesWithin (counts 10 20 30) (counts 11 22 35) work work
rises_by_the_ends = record { by = work; enough = as_much; within = as_much; rises = refl }

-- but neither by one corner less than the least nor by one more than the most
four_corners : RisesWithin no_counts (counts 1 2 4) work (counts 3 4 8) → ⊥
four_corners rise =
    let risen_by : 4 ≡ risen 0 rise.by.corners = ap (λ c. c.corners) rise.rises in
    omega (arith, rise.enough.corners, risen_by)

nine_corners : RisesWithin no_counts (counts 1 2 9) work (counts 3 4 8) → ⊥
nine_corners rise =
    let risen_by : 9 ≡ risen 0 rise.by.corners = ap (λ c. c.corners) rise.rises in
    omega (arith, rise.within.corners, risen_by)

-- ---- numbers

-- the first number below 0 is inside, and 0 is not
inside_below_zero : IsInside (negsuc 0)
inside_below_zero = refl

outside_at_zero : IsInside (pos 0) → ⊥
outside_at_zero inside = let same : false ≡ true = inside in (cc)

-- a number in range stays, and one beyond either end is brought back to it
in_range : (r : ℤ) → IsClamped (negsuc 4) r → r ≡ negsuc 4
in_range r is = is.within (omega (arith, ints), omega (arith, ints))

above_range : (r : ℤ) → IsClamped (pos 4611686018427387904) r → r ≡ pos 4611686018427387903
above_range r is = is.above (omega (arith, ints))

below_range : (r : ℤ) → IsClamped (negsuc 4611686018427387903) r → r ≡ negsuc 4611686018427387902
below_range r is = is.below (omega (arith, ints))

-- divided by 0, the numbers next to 0 give the ends
one_over_zero : (r : ℤ) → IsOverZero (pos 1) r → r ≡ pos 4611686018427387903
one_over_zero r is = is.positive (omega (arith, ints))

minus_one_over_zero : (r : ℤ) → IsOverZero (negsuc 0) r → r ≡ negsuc 4611686018427387902
minus_one_over_zero r is = is.negative (omega (arith, ints))

-- ---- cuts

-- two below 0 and one above: the cut lies at 43690.67 parts, and the part is left out
cut_rounds_down : cut_of (negsuc 1) (pos 1) ≡ 43690
cut_rounds_down = refl

-- ---- digits

-- one to three digits are a number, as any of them may be 0; none, four, or another byte among them are none
digits : digits_read 3 (codes "7") ∷ digits_read 3 (codes "907") ∷ digits_read 3 (codes "050") ∷ digits_read 3 []
    ∷ digits_read 3 (codes "1000") ∷ digits_read 3 (codes "1+2") ∷ [] ≡
    Some 7 ∷ Some 907 ∷ Some 50 ∷ None ∷ None ∷ None ∷ []
digits = refl

-- ---- numerals

-- Half a raw number is 1.16415321826934814453125e-10. The 28th place after the point tells on which side of it a
-- numeral lies, and the 29th place does not.
below_half : numeral (codes "1164153218269348144.9e-28") ≡ Some (pos 0)
unfolding cut_magnitude is_unsigned_numeral nearest_raw unsigned_raw
below_half = refl

above_half : numeral (codes "1164153218269348145e-28") ≡ Some (pos 1)
unfolding cut_magnitude is_unsigned_numeral nearest_raw unsigned_raw
above_half = refl

abbrev parts : Spelling
parts = record { sign = codes "-"; whole = codes "12"; point = codes "."; fraction = codes "5"; exponent = codes "e-1" }

parts_in_turn : spelled parts ≡ codes "-12.5e-1"
parts_in_turn = refl

value_of_parts : spelling_value parts ≡ negsuc 5368709119
unfolding cut_magnitude nearest_raw
value_of_parts = refl

-- digits may stand on one side of the point alone
no_whole_digits : IsSpelling (record parts { whole = [] })
no_whole_digits = record {
  sign = inr (inr refl);
  whole = digits_from_test [] refl;
  point = inr refl;
  fraction = digits_from_test (codes "5") refl;
  digit = omega arith;
  exponent = refl;
}

-- either sign or none, and a point or none
signs : IsSign [] × IsSign (codes "+") × IsSign (codes "-")
signs = (inl refl, inr (inl refl), inr (inr refl))

points : IsDot [] [] × IsDot (codes ".") (codes "5")
points = (inl (refl, refl), inr refl)

-- ---- roots

three_of_fifteen : IsRoot 15 3
three_of_fifteen = (omega arith, omega arith)

three_of_sixteen : IsRoot 16 3 → ⊥
three_of_sixteen root = omega (arith, root.1)

four_of_fifteen : IsRoot 15 4 → ⊥
four_of_fifteen root = omega (arith, root.0)

-- the root of the raw number 1 is the raw number 2^16, and below 0 each root is 0
root_of_one : IsRawRoot (pos 1) (pos 65536)
root_of_one = (65536, refl, (omega arith, omega arith))

each_root_of_one : (r : ℤ) → IsRawRoot (pos 1) r → (k : ℕ) × (r ≡ pos k) × IsRoot 4294967296 k
each_root_of_one r root = root

root_below_zero : (r : ℤ) → IsRawRoot (negsuc 0) r → r ≡ pos 0
root_below_zero r root = root
