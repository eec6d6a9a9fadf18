-- The hull by its ends is the hull, and nothing else is.
use Rattle.std.proofs.Common.{◌≡◌, ◌^◌, ℤ, pos, ◌*ℤ◌, refl, sym, ap, ◌∙◌, arith, Bool, true, false, cond, ◌⊎◌, inl, inr, subst}
use Rattle.std.specs.Prelude.{◌<ℤ◌, ◌≤ℤ◌, int_lt, not, ◌&&◌, if◌then◌else◌}
use Rattle.std.specs.Int.{int_max, int_min}
use Rattle.std.proofs.lemmas.Int.{ints, clamps, by_lt_z}
use Rattle.std.proofs.Math.IntN.{*ℤ_comm}
use Rattle.fixed_ops.specs.Operations.{op_result, product_of}
use Rattle.fixed_ops.specs.Raw.{IsRaw, clamp, floor_div, is_inside}
use Rattle.fixed_ops.specs.declared.operation.Op.{Op}
use Rattle.fixed_ops.specs.declared.operation.Op.TheVariants.{X, Y, Z, Const, Neg, Square, Sqrt, Abs, Floor, Add, Sub, Mul, Div, Min, Max}
use Rattle.interval_ops.specs.Hulls.{IsResult, IsLeastAndGreatest, IsQuotientHull, IsHull, between, hull_of, hull_of_four, hull_of_even, hull_above, hull_below}
use Rattle.interval_ops.proofs.Monotone.{rises, opposite_falls, difference_rises, times_rises, times_falls, rounded_le, even_alone, even_rises, even_falls, even_zero, even_above}
use Rattle.interval_ops.proofs.QuotientOrder.{Holds-hull_above, Holds-hull_below}
use Rattle.interval_ops.specs.Laws.{HullHolds, HullsAreSpans}
use Rattle.interval_ops.specs.Shapes.{IsRising, IsEven}
use Rattle.interval_ops.specs.Spans.{Interval, IsSpan, Holds, all_numbers}
use Rattle.fixed_ops.proofs.ResultLaws.{IsRaw-op_result}

-- a span holds its ends
pub holds_lo : (s : Interval) → IsSpan s → Holds s s.lo
holds_lo s h = (omega (arith, ints), h.order)

pub holds_hi : (s : Interval) → IsSpan s → Holds s s.hi
holds_hi s h = (h.order, omega (arith, ints))

-- the result on two values
result_on : (op : Op) (a b : Interval) (u v : ℤ) → Holds a u → Holds b v
    → IsResult op a b (op_result op u v)
result_on op a b u v h k = record { left = u; right = v; in_a = h; in_b = k; is = refl }

-- one of two results
result_if : (op : Op) (a b : Interval) (t : Bool) (r s : ℤ) → IsResult op a b r → IsResult op a b s
    → IsResult op a b (cond t r s)
result_if op a b true r s h k = h
result_if op a b false r s h k = k

-- the result on one value and one of two others
result_by : (op : Op) (a b : Interval) (t : Bool) (u v w : ℤ) → Holds a u → Holds b v → Holds b w
    → IsResult op a b (op_result op u (cond t v w))
result_by op a b true u v w h k l = result_on op a b u v h k
result_by op a b false u v w h k l = result_on op a b u w h l

rising_is_hull : (op : Op) (a b : Interval) → IsRising op → IsSpan a → IsSpan b
    → IsLeastAndGreatest op a b (between (op_result op a.lo b.lo) (op_result op a.hi b.hi))
rising_is_hull op a b is h k = record {
  least = result_on op a b a.lo b.lo (holds_lo a h) (holds_lo b k);
  greatest = result_on op a b a.hi b.hi (holds_hi a h) (holds_hi b k);
  all = λ u v i j. (rises op a.lo b.lo u v is i.0 j.0, rises op u v a.hi b.hi is i.1 j.1);
}

opposite_is_hull : (a b : Interval) → IsSpan a → IsSpan b
    → IsLeastAndGreatest Neg a b (hull_of Neg a b)
opposite_is_hull a b h k = record {
  least = result_on Neg a b a.hi b.lo (holds_hi a h) (holds_lo b k);
  greatest = result_on Neg a b a.lo b.lo (holds_lo a h) (holds_lo b k);
  all = λ u v i j. (opposite_falls u a.hi i.1, opposite_falls a.lo u i.0);
}

difference_is_hull : (a b : Interval) → IsSpan a → IsSpan b
    → IsLeastAndGreatest Sub a b (hull_of Sub a b)
difference_is_hull a b h k = record {
  least = result_on Sub a b a.lo b.hi (holds_lo a h) (holds_hi b k);
  greatest = result_on Sub a b a.hi b.lo (holds_hi a h) (holds_lo b k);
  all = λ u v i j. (difference_rises a.lo b.hi u v i.0 j.1, difference_rises u v a.hi b.lo i.1 j.0);
}

-- the lesser and the greater of two results
result_min : (op : Op) (a b : Interval) (r s : ℤ) → IsResult op a b r → IsResult op a b s
    → IsResult op a b (int_min r s)
result_min op a b r s h k = result_if op a b (int_lt s r) s r k h

result_max : (op : Op) (a b : Interval) (r s : ℤ) → IsResult op a b r → IsResult op a b s
    → IsResult op a b (int_max r s)
result_max op a b r s h k = result_if op a b (int_lt s r) r s h k

-- what lies between two numbers, in either order
between_both : (p q r : ℤ) → ((p ≤ℤ r) × (r ≤ℤ q)) ⊎ ((q ≤ℤ r) × (r ≤ℤ p))
    → Holds (between (int_min p q) (int_max p q)) r
between_both p q r (inl h) = (omega (arith, ints, clamps, h.0), omega (arith, ints, clamps, h.1))
between_both p q r (inr h) = (omega (arith, ints, clamps, h.0), omega (arith, ints, clamps, h.1))

-- the result of what is even on one end
even_result : (op : Op) (a b : Interval) (u : ℤ) → IsEven op → IsSpan b → Holds a u
    → IsResult op a b (op_result op u u)
even_result op a b u is k h =
    record { left = u; right = b.lo; in_a = h; in_b = holds_lo b k; is = even_alone op u u b.lo is }

-- what is even is at most the greater of its values at the ends
even_below : (op : Op) (a : Interval) (u v p q : ℤ) → p ≡ op_result op a.lo a.lo
    → q ≡ op_result op a.hi a.hi → IsEven op → Holds a u → op_result op u v ≤ℤ int_max p q
even_below op a u v p q d e is h =
    by_lt_z u (pos 0)
    (λ lt. let le = even_falls op a.lo a.lo u v is (omega (arith, ints, lt)) h.0 in let least = rw
    (← d) at le in omega (arith, ints, clamps, least))
    (λ ge. let le = even_rises op u v a.hi a.hi is ge h.1 in let greatest = rw (← e) at le in omega
    (arith, ints, clamps, greatest))

-- the hull of what is even, by the signs of the ends of the span
even_parts : (op : Op) (a b : Interval) (s t : Bool) (p q : ℤ) → s ≡ is_inside a.lo
    → t ≡ is_inside a.hi → p ≡ op_result op a.lo a.lo → q ≡ op_result op a.hi a.hi → IsEven op
    → IsSpan a → IsSpan b → IsResult op a b p → IsResult op a b q
    → IsLeastAndGreatest op a b (between (if s && not t then pos 0 else int_min p q) (int_max p q))
even_parts op a b true true p q d e f g is h k i j = record {
  least = result_min op a b p q i j;
  greatest = result_max op a b p q i j;
  all = λ u v m n. between_both p q (op_result op u v) (inr (
    rw g (even_falls op u v a.hi a.hi is (grind (arith, ints)) m.1),
    rw f (even_falls op a.lo a.lo u v is (grind (arith, ints)) m.0),
  ));
}
even_parts op a b true false p q d e f g is h k i j =
    let below : a.lo ≤ℤ pos 0 = grind (arith, ints) in
    let above : pos 0 ≤ℤ a.hi = grind (arith, ints) in
    record {
      least = record {
        left = pos 0;
        right = b.lo;
        in_a = (below, above);
        in_b = holds_lo b k;
        is = sym (even_zero op b.lo is);
      };
      greatest = result_max op a b p q i j;
      all = λ u v m n. (even_above op u v is, even_below op a u v p q f g is m);
    }
even_parts op a b false t p q d e f g is h k i j =
    let above : pos 0 ≤ℤ a.lo = grind (arith, ints) in
    record {
      least = result_min op a b p q i j;
      greatest = result_max op a b p q i j;
      all = λ u v m n. between_both p q (op_result op u v)
          (inl (
            rw f (even_rises op a.lo a.lo u v is above m.0),
            rw g (even_rises op u v a.hi a.hi is (omega (arith, ints, above, m.0)) m.1),
          ));
    }

even_is_hull : (op : Op) (a b : Interval) → IsEven op → IsSpan a → IsSpan b
    → IsLeastAndGreatest op a b (hull_of_even a (op_result op a.lo a.lo) (op_result op a.hi a.hi))
even_is_hull op a b is h k =
    even_parts op a b (is_inside a.lo) (is_inside a.hi) (op_result op a.lo a.lo)
    (op_result op a.hi a.hi) refl refl refl refl is h k
    (even_result op a b a.lo is k (holds_lo a h))
    (even_result op a b a.hi is k (holds_hi a h))

-- a product with a value lies between those with the ends
product_between : (u lo hi v : ℤ) → lo ≤ℤ v → v ≤ℤ hi → Holds
    (between (int_min (product_of lo u) (product_of hi u))
    (int_max (product_of lo u) (product_of hi u))) (product_of v u)
product_between u lo hi v h k =
    by_lt_z u (pos 0)
    (λ lt. let low : u ≤ℤ pos 0 = omega (arith, ints, lt) in
    between_both (product_of lo u) (product_of hi u) (product_of v u)
    (inr (
      rounded_le (hi *ℤ u) (v *ℤ u) (times_falls v hi u low k),
      rounded_le (v *ℤ u) (lo *ℤ u) (times_falls lo v u low h),
    )))
    (λ ge. between_both (product_of lo u) (product_of hi u) (product_of v u)
    (inl (
      rounded_le (lo *ℤ u) (v *ℤ u) (times_rises lo v u ge h),
      rounded_le (v *ℤ u) (hi *ℤ u) (times_rises v hi u ge k),
    )))

product_comm : (u v : ℤ) → product_of u v ≡ product_of v u
product_comm u v = ap (λ (t : ℤ). clamp (floor_div t (2 ^ 32))) (*ℤ_comm u v)

-- the same with the value as the second factor
product_beside : (u lo hi v : ℤ) → lo ≤ℤ v → v ≤ℤ hi → Holds
    (between (int_min (product_of u lo) (product_of u hi))
    (int_max (product_of u lo) (product_of u hi))) (product_of u v)
product_beside u lo hi v h k =
    rw (product_comm u lo, product_comm u hi, product_comm u v) (product_between u lo hi v h k)

-- what lies between numbers that lie between two each
between_four : (p q r s x y w : ℤ) → Holds (between (int_min p q) (int_max p q)) x
    → Holds (between (int_min r s) (int_max r s)) y → Holds (between (int_min x y) (int_max x y)) w
    → Holds (hull_of_four p q r s) w
between_four p q r s x y w h k l =
    (omega (arith, ints, clamps, h.0, k.0, l.0), omega (arith, ints, clamps, h.1, k.1, l.1))

product_is_hull : (a b : Interval) → IsSpan a → IsSpan b
    → IsLeastAndGreatest Mul a b (hull_of Mul a b)
product_is_hull a b h k =
    let p = result_on Mul a b a.lo b.lo (holds_lo a h) (holds_lo b k) in
    let q = result_on Mul a b a.lo b.hi (holds_lo a h) (holds_hi b k) in
    let r = result_on Mul a b a.hi b.lo (holds_hi a h) (holds_lo b k) in
    let s = result_on Mul a b a.hi b.hi (holds_hi a h) (holds_hi b k) in
    record {
      least = result_min Mul a b _ _ (result_min Mul a b _ _ p q) (result_min Mul a b _ _ r s);
      greatest = result_max Mul a b _ _ (result_max Mul a b _ _ p q) (result_max Mul a b _ _ r s);
      all = λ u v i j. between_four (product_of a.lo b.lo) (product_of a.lo b.hi)
          (product_of a.hi b.lo) (product_of a.hi b.hi) (product_of a.lo v) (product_of a.hi v)
          (product_of u v) (product_beside a.lo b.lo b.hi v j.0 j.1)
          (product_beside a.hi b.lo b.hi v j.0 j.1) (product_between v a.lo a.hi u i.0 i.1);
    }

-- quotients by divisors below 0, and by divisors above it
below_is_hull : (a b : Interval) → IsSpan a → IsSpan b → b.hi <ℤ pos 0
    → IsLeastAndGreatest Div a b (hull_below a b)
below_is_hull a b h k p = record {
  least = result_by Div a b (is_inside a.hi) a.hi b.lo b.hi (holds_hi a h) (holds_lo b k)
      (holds_hi b k);
  greatest = result_by Div a b (is_inside a.lo) a.lo b.hi b.lo (holds_lo a h) (holds_hi b k)
      (holds_lo b k);
  all = λ u v i j. Holds-hull_below a b u v p i j;
}

above_is_hull : (a b : Interval) → IsSpan a → IsSpan b → pos 0 <ℤ b.lo
    → IsLeastAndGreatest Div a b (hull_above a b)
above_is_hull a b h k p = record {
  least = result_by Div a b (is_inside a.lo) a.lo b.lo b.hi (holds_lo a h) (holds_lo b k)
      (holds_hi b k);
  greatest = result_by Div a b (is_inside a.hi) a.hi b.hi b.lo (holds_hi a h) (holds_hi b k)
      (holds_lo b k);
  all = λ u v i j. Holds-hull_above a b u v p i j;
}

quotient_parts : (a b : Interval) (s t : Bool) → s ≡ is_inside b.hi → t ≡ int_lt (pos 0) b.lo
    → IsSpan a → IsSpan b → IsQuotientHull a b (cond s (hull_below a b)
    (cond t (hull_above a b) all_numbers))
quotient_parts a b true t d e h k =
    let below : b.hi <ℤ pos 0 = grind (arith, ints) in
    record {
      by_zero = λ z. absurd (omega (arith, ints, below, z.1));
      free = λ no. below_is_hull a b h k below;
    }
quotient_parts a b false true d e h k =
    let above : pos 0 <ℤ b.lo = grind (arith, ints) in
    record {
      by_zero = λ z. absurd (omega (arith, ints, above, z.0));
      free = λ no. above_is_hull a b h k above;
    }
quotient_parts a b false false d e h k =
    let low : b.lo ≤ℤ pos 0 = grind (arith, ints) in
    let high : pos 0 ≤ℤ b.hi = grind (arith, ints) in
    record { by_zero = λ z. refl; free = λ no. absurd (no (low, high)) }

quotient_is_hull : (a b : Interval) → IsSpan a → IsSpan b → IsQuotientHull a b (hull_of Div a b)
quotient_is_hull a b h k = quotient_parts a b (is_inside b.hi) (int_lt (pos 0) b.lo) refl refl h k

pub hull_of_is_hull : HullHolds
hull_of_is_hull X a b h k = refl
hull_of_is_hull Y a b h k = refl
hull_of_is_hull Z a b h k = refl
hull_of_is_hull Const a b h k = refl
hull_of_is_hull Neg a b h k = opposite_is_hull a b h k
hull_of_is_hull Square a b h k = even_is_hull Square a b tt h k
hull_of_is_hull Sqrt a b h k = rising_is_hull Sqrt a b tt h k
hull_of_is_hull Abs a b h k = even_is_hull Abs a b tt h k
hull_of_is_hull Floor a b h k = rising_is_hull Floor a b tt h k
hull_of_is_hull Add a b h k = rising_is_hull Add a b tt h k
hull_of_is_hull Sub a b h k = difference_is_hull a b h k
hull_of_is_hull Mul a b h k = product_is_hull a b h k
hull_of_is_hull Div a b h k = quotient_is_hull a b h k
hull_of_is_hull Min a b h k = rising_is_hull Min a b tt h k
hull_of_is_hull Max a b h k = rising_is_hull Max a b tt h k

pub hull_is : (op : Op) (a b h : Interval) → IsSpan a → IsSpan b → h ≡ hull_of op a b
    → IsHull op a b h
hull_is op a b h i j e =
    subst (λ (x : Interval). IsHull op a b x) (sym e) (hull_of_is_hull op a b i j)

-- spans are equal where their ends are
same_ends : (h k : Interval) → h.lo ≡ k.lo → h.hi ≡ k.hi → h ≡ k
same_ends h k p q = ap (λ (x : ℤ). between x h.hi) p ∙ ap (λ (x : ℤ). between k.lo x) q

-- a result lies in a hull
result_in : (op : Op) (a b h : Interval) (r : ℤ) → IsLeastAndGreatest op a b h → IsResult op a b r
    → Holds h r
result_in op a b h r hull result = subst (λ (x : ℤ). Holds h x) (sym result.is)
    (hull.all result.left result.right result.in_a result.in_b)

-- there is one least and one greatest result
extremes_once : (op : Op) (a b h k : Interval) → IsLeastAndGreatest op a b h
    → IsLeastAndGreatest op a b k → h ≡ k
extremes_once op a b h k i j =
    let hl = result_in op a b k h.lo j i.least in
    let hh = result_in op a b k h.hi j i.greatest in
    let kl = result_in op a b h k.lo i j.least in
    let kh = result_in op a b h k.hi i j.greatest in
    same_ends h k (omega (arith, ints, hl.0, kl.0)) (omega (arith, ints, hh.1, kh.1))

-- a divisor may be 0, or it is below or above 0
quotient_once : (a b h k : Interval) → IsQuotientHull a b h → IsQuotientHull a b k → h ≡ k
quotient_once a b h k i j =
    by_lt_z b.hi (pos 0)
    (λ lt. let free : Holds b (pos 0) → ⊥ = λ z. omega (
      arith,
      ints,
      lt,
      z.1,
    ) in extremes_once Div a b h k (i.free free) (j.free free))
    (λ high. by_lt_z (pos 0) b.lo
    (λ lt. let free : Holds b (pos 0) → ⊥ = λ z. omega (
      arith,
      ints,
      lt,
      z.0,
    ) in extremes_once Div a b h k (i.free free) (j.free free))
    (λ low. i.by_zero (low, high) ∙ sym (j.by_zero (low, high))))

pub hull_once : (op : Op) (a b h k : Interval) → IsHull op a b h → IsHull op a b k → h ≡ k
hull_once X a b h k i j = i ∙ sym j
hull_once Y a b h k i j = i ∙ sym j
hull_once Z a b h k i j = i ∙ sym j
hull_once Const a b h k i j = i ∙ sym j
hull_once Div a b h k i j = quotient_once a b h k i j
hull_once op a b h k i j = extremes_once op a b h k i j

-- what a span holds is a raw number
pub IsRaw-held : (s : Interval) (v : ℤ) → IsSpan s → Holds s v → IsRaw v
IsRaw-held s v h k = (omega (arith, ints, h.lo.0, k.0), omega (arith, ints, h.hi.1, k.1))

-- results on values of spans are raw numbers
IsRaw-result : (op : Op) (a b : Interval) (r : ℤ) → IsSpan a → IsSpan b
    → IsResult op a b r → IsRaw r
IsRaw-result op a b r h k result =
    subst IsRaw (sym result.is)
    (IsRaw-op_result op result.left result.right
    (IsRaw-held a result.left h result.in_a) (IsRaw-held b result.right k result.in_b))

-- a hull is a span
extremes_span : (op : Op) (a b h : Interval) → IsSpan a → IsSpan b
    → IsLeastAndGreatest op a b h → IsSpan h
extremes_span op a b h i j hull = record {
  lo = IsRaw-result op a b h.lo i j hull.least;
  hi = IsRaw-result op a b h.hi i j hull.greatest;
  order = (result_in op a b h h.lo hull hull.least).1;
}

quotient_span : (a b h : Interval) → IsSpan a → IsSpan b → IsQuotientHull a b h
    → IsSpan h
quotient_span a b h i j hull =
    by_lt_z b.hi (pos 0)
    (λ lt. extremes_span Div a b h i j (hull.free (λ z. omega (arith, ints, lt, z.1))))
    (λ high. by_lt_z (pos 0) b.lo
    (λ lt. extremes_span Div a b h i j (hull.free (λ z. omega (arith, ints, lt, z.0))))
    (λ low. subst IsSpan (sym (hull.by_zero (low, high)))
    (record {
      lo = (omega (arith, ints), omega (arith, ints));
      hi = (omega (arith, ints), omega (arith, ints));
      order = omega (arith, ints);
    })))

pub IsSpan-hull : HullsAreSpans
IsSpan-hull X a b h i j e = subst IsSpan (sym e) i
IsSpan-hull Y a b h i j e = subst IsSpan (sym e) i
IsSpan-hull Z a b h i j e = subst IsSpan (sym e) i
IsSpan-hull Const a b h i j e = subst IsSpan (sym e) i
IsSpan-hull Div a b h i j hull = quotient_span a b h i j hull
IsSpan-hull op a b h i j hull = extremes_span op a b h i j hull
