-- How quotients rise and fall with their operands.
use Rattle.std.proofs.Common.{◌≡◌, ◌^◌, ◌≤◌, ℕ, zero, suc, ℤ, pos, neg_ℤ, ◌*ℤ◌, refl, arith, Bool, true, false, cond}
use Rattle.std.specs.Prelude.{negsuc, ◌<ℤ◌, ◌≤ℤ◌}
use Rattle.std.proofs.lemmas.Int.{ints}
use Rattle.std.proofs.Math.Nat.{div-le_self}
use Rattle.fixed_ops.specs.Quotient.{quotient_of}
use Rattle.fixed_ops.specs.Raw.{floor_div, is_inside}
use Rattle.interval_ops.specs.Hulls.{hull_above, hull_below}
use Rattle.interval_ops.proofs.Monotone.{clamp_le, div_ge, floor_div_le}
use Rattle.interval_ops.specs.Spans.{Interval, Holds}
use Rattle.fixed_ops.proofs.RoundingLaws.{product_le}

-- a greater divisor takes a dividend from 0 up towards 0
floor_falls : (t : ℤ) (d e : ℕ) → pos 0 ≤ℤ t → d ≤ e → floor_div t (suc e) ≤ℤ floor_div t (suc d)
floor_falls (pos n) d e h k = omega (arith, ints, div_ge n d e k)
floor_falls (negsuc n) d e h k = absurd (omega (arith, ints, h))

-- and one up to 0 as well
floor_rises : (t : ℤ) (d e : ℕ) → t ≤ℤ pos 0 → d ≤ e → floor_div t (suc d) ≤ℤ floor_div t (suc e)
floor_rises (pos zero) d e h k = omega (arith, ints, div-le_self 0 (suc d), div-le_self 0 (suc e))
floor_rises (pos (suc n)) d e h k = absurd (omega (arith, ints, h))
floor_rises (negsuc n) d e h k = omega (arith, ints, div_ge n d e k)

-- quotients by a divisor above 0 keep the order of the dividends
above_rises : (u x v : ℤ) → pos 0 <ℤ v → u ≤ℤ x → quotient_of u v ≤ℤ quotient_of x v
above_rises u x (pos zero) h k = absurd (omega (arith, ints, h))
above_rises u x (pos (suc d)) h k =
    clamp_le _ _ (floor_div_le (u *ℤ pos (2 ^ 32)) (x *ℤ pos (2 ^ 32)) d (product_le u x (2 ^ 32) k))
above_rises u x (negsuc d) h k = absurd (omega (arith, ints, h))

-- those by a divisor below 0 turn it
below_falls : (u x v : ℤ) → v <ℤ pos 0 → u ≤ℤ x → quotient_of x v ≤ℤ quotient_of u v
below_falls u x (pos n) h k = absurd (omega (arith, ints, h))
below_falls u x (negsuc d) h k =
    above_rises (neg_ℤ x) (neg_ℤ u) (pos (suc d)) (omega (arith, ints)) (omega (arith, ints))

-- quotients of a dividend from 0 up fall with the divisor
positive_falls : (x d e : ℤ) → pos 0 ≤ℤ x → pos 0 <ℤ d → d ≤ℤ e → quotient_of x e ≤ℤ quotient_of x d
positive_falls x (pos (suc d)) (pos (suc e)) h k le =
    clamp_le _ _ (floor_falls (x *ℤ pos (2 ^ 32)) d e (omega (arith, ints)) (omega (arith, ints)))
positive_falls x (pos zero) e h k le = absurd (omega (arith, ints, k))
positive_falls x (negsuc d) e h k le = absurd (omega (arith, ints, k))
positive_falls x (pos (suc d)) (pos zero) h k le = absurd (omega (arith, ints, le))
positive_falls x (pos (suc d)) (negsuc e) h k le = absurd (omega (arith, ints, le))

-- those of one up to 0 rise
negative_rises : (x d e : ℤ) → x ≤ℤ pos 0 → pos 0 <ℤ d → d ≤ℤ e → quotient_of x d ≤ℤ quotient_of x e
negative_rises x (pos (suc d)) (pos (suc e)) h k le =
    clamp_le _ _ (floor_rises (x *ℤ pos (2 ^ 32)) d e (omega (arith, ints)) (omega (arith, ints)))
negative_rises x (pos zero) e h k le = absurd (omega (arith, ints, k))
negative_rises x (negsuc d) e h k le = absurd (omega (arith, ints, k))
negative_rises x (pos (suc d)) (pos zero) h k le = absurd (omega (arith, ints, le))
negative_rises x (pos (suc d)) (negsuc e) h k le = absurd (omega (arith, ints, le))

-- the quotient by a divisor below 0 is that of the opposites
opposites : (x d : ℤ) → d <ℤ pos 0 → quotient_of x d ≡ quotient_of (neg_ℤ x) (neg_ℤ d)
opposites x (pos n) h = absurd (omega (arith, ints, h))
opposites x (negsuc d) h = refl

-- among divisors below 0 the same holds
positive_falls_below : (x d e : ℤ) → pos 0 ≤ℤ x → e <ℤ pos 0 → d ≤ℤ e
    → quotient_of x e ≤ℤ quotient_of x d
positive_falls_below x d e h k le =
    rw (opposites x e k, opposites x d (omega (arith, ints)))
    (negative_rises (neg_ℤ x) (neg_ℤ e) (neg_ℤ d)
    (omega (arith, ints)) (omega (arith, ints)) (omega (arith, ints)))

negative_rises_below : (x d e : ℤ) → x ≤ℤ pos 0 → e <ℤ pos 0 → d ≤ℤ e
    → quotient_of x d ≤ℤ quotient_of x e
negative_rises_below x d e h k le =
    rw (opposites x e k, opposites x d (omega (arith, ints)))
    (positive_falls (neg_ℤ x) (neg_ℤ e) (neg_ℤ d)
    (omega (arith, ints)) (omega (arith, ints)) (omega (arith, ints)))

-- the divisor that gives the least quotient, by the sign of the dividend
least_divisor : (x lo hi v : ℤ) (below : Bool) → below ≡ is_inside x → pos 0 <ℤ lo → lo ≤ℤ v
    → v ≤ℤ hi → quotient_of x (cond below lo hi) ≤ℤ quotient_of x v
least_divisor x lo hi v true e p h k = negative_rises x lo v (grind (arith, ints)) p h
least_divisor x lo hi v false e p h k =
    positive_falls x v hi (grind (arith, ints)) (omega (arith, ints)) k

-- and the one that gives the greatest
greatest_divisor : (x lo hi v : ℤ) (below : Bool) → below ≡ is_inside x → pos 0 <ℤ lo → lo ≤ℤ v
    → v ≤ℤ hi → quotient_of x v ≤ℤ quotient_of x (cond below hi lo)
greatest_divisor x lo hi v true e p h k =
    negative_rises x v hi (grind (arith, ints)) (omega (arith, ints)) k
greatest_divisor x lo hi v false e p h k = positive_falls x lo v (grind (arith, ints)) p h

-- the same among divisors below 0
least_divisor_below : (x lo hi v : ℤ) (below : Bool) → below ≡ is_inside x → hi <ℤ pos 0 → lo ≤ℤ v
    → v ≤ℤ hi → quotient_of x (cond below lo hi) ≤ℤ quotient_of x v
least_divisor_below x lo hi v true e p h k =
    negative_rises_below x lo v (grind (arith, ints)) (omega (arith, ints)) h
least_divisor_below x lo hi v false e p h k = positive_falls_below x v hi (grind (arith, ints)) p k

greatest_divisor_below : (x lo hi v : ℤ) (below : Bool) → below ≡ is_inside x → hi <ℤ pos 0
    → lo ≤ℤ v → v ≤ℤ hi → quotient_of x v ≤ℤ quotient_of x (cond below hi lo)
greatest_divisor_below x lo hi v true e p h k =
    negative_rises_below x v hi (grind (arith, ints)) p k
greatest_divisor_below x lo hi v false e p h k =
    positive_falls_below x lo v (grind (arith, ints)) (omega (arith, ints)) h

-- quotients lie between those at the ends
pub Holds-hull_above : (a b : Interval) (u v : ℤ) → pos 0 <ℤ b.lo → Holds a u → Holds b v
    → Holds (hull_above a b) (quotient_of u v)
Holds-hull_above a b u v p h k =
    let above : pos 0 <ℤ v = omega (arith, ints) in
    let least = least_divisor a.lo b.lo b.hi v (is_inside a.lo) refl p k.0 k.1 in
    let greatest = greatest_divisor a.hi b.lo b.hi v (is_inside a.hi) refl p k.0 k.1 in
    let low = above_rises a.lo u v above h.0 in
    let high = above_rises u a.hi v above h.1 in
    (omega (arith, ints), omega (arith, ints))

pub Holds-hull_below : (a b : Interval) (u v : ℤ) → b.hi <ℤ pos 0 → Holds a u → Holds b v
    → Holds (hull_below a b) (quotient_of u v)
Holds-hull_below a b u v p h k =
    let below : v <ℤ pos 0 = omega (arith, ints) in
    let least = least_divisor_below a.hi b.lo b.hi v (is_inside a.hi) refl p k.0 k.1 in
    let greatest = greatest_divisor_below a.lo b.lo b.hi v (is_inside a.lo) refl p k.0 k.1 in
    let low = below_falls u a.hi v below h.1 in
    let high = below_falls a.lo u v below h.0 in
    (omega (arith, ints), omega (arith, ints))

-- so these hulls have their ends in order
pub above_ordered : (a b : Interval) → a.lo ≤ℤ a.hi → b.lo ≤ℤ b.hi → pos 0 <ℤ b.lo
    → (hull_above a b).lo ≤ℤ (hull_above a b).hi
above_ordered a b h k p =
    let holds = Holds-hull_above a b a.lo b.lo p (omega (arith, ints), h) (omega (arith, ints), k) in
    omega (arith, ints, holds.0, holds.1)

pub below_ordered : (a b : Interval) → a.lo ≤ℤ a.hi → b.lo ≤ℤ b.hi → b.hi <ℤ pos 0
    → (hull_below a b).lo ≤ℤ (hull_below a b).hi
below_ordered a b h k p =
    let holds = Holds-hull_below a b a.lo b.lo p (omega (arith, ints), h) (omega (arith, ints), k) in
    omega (arith, ints, holds.0, holds.1)
