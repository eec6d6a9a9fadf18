-- The laws of spans hold.
use Rattle.std.proofs.Common.{◌≡◌, ◌∙◌, ℤ, pos, refl, sym, arith, Bool, true, false, cond, subst, ap}
use Rattle.std.specs.Prelude.{◌<ℤ◌, ◌≤ℤ◌, int_le, int_lt}
use Rattle.std.proofs.lemmas.Int.{ints, clamps, by_lt_z}
use Rattle.fixed_ops.specs.Operations.{op_result}
use Rattle.fixed_ops.specs.declared.operation.Op.{Op}
use Rattle.fixed_ops.specs.declared.operation.Op.TheVariants.{X, Y, Z, Const, Div, Min, Max}
use Rattle.interval_ops.specs.Hulls.{IsHull, IsQuotientHull, IsResult}
use Rattle.interval_ops.specs.Spans.{Interval, IsSpan, Holds, IsWithin, all_numbers}
use Rattle.interval_ops.specs.declared.choice.Choice.TheVariants.{Left, Right, Both}
use Rattle.interval_laws.specs.Laws.{InclusionHolds, HullsShrink, Attains, KeepsChoice, Wins, ChosenWins}
use Rattle.fixed_ops.proofs.ResultLaws.{IsRaw-op_result}
use Rattle.interval_ops.proofs.HullLaws.{holds_lo, holds_hi, IsRaw-held}

-- the results of a division lie in its hull
quotient_included : (a b h : Interval) (u v : ℤ) → IsSpan a → IsSpan b
    → IsQuotientHull a b h → Holds a u → Holds b v → Holds h (op_result Div u v)
quotient_included a b h u v i j hull k l =
    by_lt_z b.hi (pos 0)
    (λ lt. (hull.free (λ z. omega (arith, ints, lt, z.1))).all u v k l)
    (λ high. by_lt_z (pos 0) b.lo
    (λ lt. (hull.free (λ z. omega (arith, ints, lt, z.0))).all u v k l)
    (λ low. subst (λ (s : Interval). Holds s (op_result Div u v)) (sym (hull.by_zero (low, high)))
    (IsRaw-op_result Div u v (IsRaw-held a u i k) (IsRaw-held b v j l))))

pub included : InclusionHolds
included X a b u v i j h e k l = subst (λ (s : Interval). Holds s u) (sym e) k
included Y a b u v i j h e k l = subst (λ (s : Interval). Holds s u) (sym e) k
included Z a b u v i j h e k l = subst (λ (s : Interval). Holds s u) (sym e) k
included Const a b u v i j h e k l = subst (λ (s : Interval). Holds s u) (sym e) k
included Div a b u v i j h hull k l = quotient_included a b h u v i j hull k l
included op a b u v i j h hull k l = hull.all u v k l

-- the ends of a span that is handed on
handed_on : (op : Op) (a b h : Interval) → ((u v : ℤ) → op_result op u v ≡ u) → IsSpan a → IsSpan b
    → h ≡ a → IsResult op a b h.lo × IsResult op a b h.hi
handed_on op a b h same i j e = (
  record {
    left = a.lo;
    right = b.lo;
    in_a = holds_lo a i;
    in_b = holds_lo b j;
    is = ap (λ (s : Interval). s.lo) e ∙ sym (same a.lo b.lo);
  },
  record {
    left = a.hi;
    right = b.lo;
    in_a = holds_hi a i;
    in_b = holds_lo b j;
    is = ap (λ (s : Interval). s.hi) e ∙ sym (same a.hi b.lo);
  },
)

pub ends_attained : (op : Op) (a b : Interval) → IsSpan a → IsSpan b → Attains op a b
ends_attained X a b i j h e free = handed_on X a b h (λ u v. refl) i j e
ends_attained Y a b i j h e free = handed_on Y a b h (λ u v. refl) i j e
ends_attained Z a b i j h e free = handed_on Z a b h (λ u v. refl) i j e
ends_attained Const a b i j h e free = handed_on Const a b h (λ u v. refl) i j e
ends_attained Div a b i j h hull free =
    let extremes = hull.free (λ z. free (refl, z)) in (extremes.least, extremes.greatest)
ends_attained op a b i j h hull free = (hull.least, hull.greatest)

-- what lies in a narrower span lies in the span
Holds-wider : (part whole : Interval) (v : ℤ) → IsWithin part whole → Holds part v → Holds whole v
Holds-wider part whole v w h = (omega (arith, ints, w.0, h.0), omega (arith, ints, w.1, h.1))

-- a result on values of narrower spans lies in the hull
result_included : (op : Op) (a b c d h : Interval) (r : ℤ) → IsSpan a → IsSpan b
    → IsHull op a b h → IsWithin c a → IsWithin d b → IsResult op c d r → Holds h r
result_included op a b c d h r i j hull p q result =
    subst (λ (x : ℤ). Holds h x) (sym result.is)
    (included op a b result.left result.right i j h hull
    (Holds-wider c a result.left p result.in_a) (Holds-wider d b result.right q result.in_b))

-- so the hull holds both of them
ends_included : (op : Op) (a b c d h k : Interval) → IsSpan a → IsSpan b
    → IsHull op a b h → IsWithin c a → IsWithin d b → IsResult op c d k.lo × IsResult op c d k.hi → IsWithin k h
ends_included op a b c d h k i j hull p q ends = (
  (result_included op a b c d h k.lo i j hull p q ends.0).0,
  (result_included op a b c d h k.hi i j hull p q ends.1).1,
)

-- a division by spans that both hold 0
zero_shrinks : (a b c d h k : Interval) → IsQuotientHull a b h → IsQuotientHull c d k → IsWithin d b
    → Holds d (pos 0) → IsWithin k h
zero_shrinks a b c d h k hull inner q z =
    subst (λ (s : Interval). IsWithin k s) (sym (hull.by_zero (Holds-wider d b (pos 0) q z)))
    (subst (λ (s : Interval). IsWithin s all_numbers) (sym (inner.by_zero z))
    (omega (arith, ints), omega (arith, ints)))

quotient_shrinks : (a b c d h k : Interval) → IsSpan a → IsSpan b → IsSpan c
    → IsSpan d → IsQuotientHull a b h → IsQuotientHull c d k → IsWithin c a → IsWithin d b → IsWithin k h
quotient_shrinks a b c d h k i j m n hull inner p q =
    by_lt_z d.hi (pos 0)
    (λ lt. ends_included Div a b c d h k i j hull p q
    (ends_attained Div c d m n k inner (λ z. omega (arith, ints, lt, z.1.1))))
    (λ high. by_lt_z (pos 0) d.lo
    (λ lt. ends_included Div a b c d h k i j hull p q
    (ends_attained Div c d m n k inner (λ z. omega (arith, ints, lt, z.1.0))))
    (λ low. zero_shrinks a b c d h k hull inner q (low, high)))

pub shrinks : HullsShrink
shrinks Div a b c d i j m n h k hull inner p q = quotient_shrinks a b c d h k i j m n hull inner p q
shrinks X a b c d i j m n h k hull inner p q =
    ends_included X a b c d h k i j hull p q (ends_attained X c d m n k inner (λ z. cc))
shrinks Y a b c d i j m n h k hull inner p q =
    ends_included Y a b c d h k i j hull p q (ends_attained Y c d m n k inner (λ z. cc))
shrinks Z a b c d i j m n h k hull inner p q =
    ends_included Z a b c d h k i j hull p q (ends_attained Z c d m n k inner (λ z. cc))
shrinks Const a b c d i j m n h k hull inner p q =
    ends_included Const a b c d h k i j hull p q (ends_attained Const c d m n k inner (λ z. cc))
shrinks op a b c d i j m n h k hull inner p q =
    ends_included op a b c d h k i j hull p q (inner.least, inner.greatest)

-- what a choice between two tests answers
left_by : (s t : Bool) → cond s Left (cond t Right Both) ≡ Left → s ≡ true
left_by true t e = refl
left_by false true e = cc
left_by false false e = cc

right_by : (s t : Bool) → cond s Left (cond t Right Both) ≡ Right → t ≡ true
right_by true t e = cc
right_by false true e = refl
right_by false false e = cc

pub choice_keeps : (op : Op) (a b : Interval) (u v : ℤ) → KeepsChoice op a b u v
choice_keeps Min a b u v = record {
  left = λ e h k.
      let test = left_by (int_le a.hi b.lo) (int_lt b.hi a.lo) e in
      let le : a.hi ≤ℤ b.lo = grind (arith, ints) in
      omega (arith, ints, clamps, le, h.1, k.0);
  right = λ e h k.
      let test = right_by (int_le a.hi b.lo) (int_lt b.hi a.lo) e in
      let lt : b.hi <ℤ a.lo = grind (arith, ints) in
      omega (arith, ints, clamps, lt, h.0, k.1);
}
choice_keeps Max a b u v = record {
  left = λ e h k.
      let test = left_by (int_le b.hi a.lo) (int_lt a.hi b.lo) e in
      let le : b.hi ≤ℤ a.lo = grind (arith, ints) in
      omega (arith, ints, clamps, le, h.0, k.1);
  right = λ e h k.
      let test = right_by (int_le b.hi a.lo) (int_lt a.hi b.lo) e in
      let lt : a.hi <ℤ b.lo = grind (arith, ints) in
      omega (arith, ints, clamps, lt, h.1, k.0);
}
choice_keeps op a b u v = record { left = λ e h k. cc; right = λ e h k. cc }

-- which operand wins, by the two tests of a choice
min_wins : (a b : Interval) (u v : ℤ) (s t : Bool) → s ≡ int_le a.hi b.lo → t ≡ int_lt b.hi a.lo
    → Holds a u → Holds b v → Wins Min (cond s Left (cond t Right Both)) u v
min_wins a b u v true t d e h k =
    let le : a.hi ≤ℤ b.lo = grind (arith, ints) in omega (arith, ints, le, h.1, k.0)
min_wins a b u v false true d e h k =
    let lt : b.hi <ℤ a.lo = grind (arith, ints) in omega (arith, ints, lt, h.0, k.1)
min_wins a b u v false false d e h k = tt

max_wins : (a b : Interval) (u v : ℤ) (s t : Bool) → s ≡ int_le b.hi a.lo → t ≡ int_lt a.hi b.lo
    → Holds a u → Holds b v → Wins Max (cond s Left (cond t Right Both)) u v
max_wins a b u v true t d e h k =
    let le : b.hi ≤ℤ a.lo = grind (arith, ints) in omega (arith, ints, le, h.0, k.1)
max_wins a b u v false true d e h k =
    let lt : a.hi <ℤ b.lo = grind (arith, ints) in omega (arith, ints, lt, h.1, k.0)
max_wins a b u v false false d e h k = tt

pub chosen_wins : (op : Op) (a b : Interval) (u v : ℤ) → ChosenWins op a b u v
chosen_wins Min a b u v h k =
    min_wins a b u v (int_le a.hi b.lo) (int_lt b.hi a.lo) refl refl h k
chosen_wins Max a b u v h k =
    max_wins a b u v (int_le b.hi a.lo) (int_lt a.hi b.lo) refl refl h k
chosen_wins op a b u v h k = tt
