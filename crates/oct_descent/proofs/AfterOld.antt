-- Boxes of cells that the mesh before had as well, and boxes that are new.
use Rattle.std.proofs.Common.{◌≡◌, ◌≢◌, ℕ, zero, suc, ◌<◌, ◌≤◌, Bool, true, false, cond, List, [], ◌∷◌, ◌⊎◌, inl, inr, refl, sym, ap, subst, arith}
use Rattle.std.specs.Prelude.{Option, Some, None, ◌&&◌, ◌||◌, ◌==◌, unwrap_or}
use Rattle.std.specs.List.{All, Contains, last_or}
use Rattle.std.proofs.lemmas.Bool.{and_from, and_parts, eq-eqb, eqb-true}
use Rattle.live_clauses.specs.Equality.{same_list}
use Rattle.view_places.specs.Boxes.{Indices, IsBox}
use Rattle.box_chains.specs.Chains.{Visit, half_with, handed_on, next_visit, sides, visit}
use Rattle.box_chains.specs.Laws.{Lawful}
use Rattle.box_chains.specs.Parts.{IsPart}
use Rattle.box_chains.specs.Redrawn.{IsNew, is_old, same_box, same_visit}
use Rattle.box_chains.specs.Sums.{LiesIn, Sample}
use Rattle.oct_descent.specs.After.{handed_before, received_half, ways_before}
use Rattle.oct_descent.specs.Ways.{CellDescent, is_cut, way, way_end, way_within}
use Rattle.oct_descent.proofs.Members.{head_or_tail, not_in_none}
use Rattle.oct_descent.proofs.WayLaws.{box-has_sides, cut-is_long, way-ends, way-goes_on}

either : (x y : Bool) → y ≡ true → x || y ≡ true
either true y h = refl
either false y h = h

-- a test that would tell something false is false
refuted : (t : Bool) → (t ≡ true → ⊥) → t ≡ false
refuted true h = absurd (h refl)
refuted false h = refl

-- both ends of a side, and what stands behind them
ends-are : (a b c d : ℕ) (rest : Bool) → (a == b && (c == d && rest)) ≡ true
    → (a ≡ b) × ((c ≡ d) × (rest ≡ true))
ends-are a b c d rest h =
    let one = and_parts (a == b) (c == d && rest) h in
    let two = and_parts (c == d) rest one.1 in
    (eqb-true a b one.0, (eqb-true c d two.0, two.1))

same_sides : (a b : Indices) → same_box a b ≡ true → sides a ≡ sides b
same_sides a b h =
    let z : Bool = a.z0 == b.z0 && a.z1 == b.z1 in
    let x = ends-are a.x0 b.x0 a.x1 b.x1 (a.y0 == b.y0 && (a.y1 == b.y1 && z)) h in
    let y = ends-are a.y0 b.y0 a.y1 b.y1 z x.1.1 in
    let parts = and_parts (a.z0 == b.z0) (a.z1 == b.z1) y.1.1 in
    let low : a.z0 ≡ b.z0 = eqb-true a.z0 b.z0 parts.0 in
    let high : a.z1 ≡ b.z1 = eqb-true a.z1 b.z1 parts.1 in
    omega (arith, x.0, x.1.0, y.0, y.1.0, low, high)

itself : (b : Indices) → same_box b b ≡ true
itself b =
    and_from _ _ (eq-eqb b.x0 b.x0 refl) (and_from _ _ (eq-eqb b.x1 b.x1 refl)
    (and_from _ _ (eq-eqb b.y0 b.y0 refl) (and_from _ _ (eq-eqb b.y1 b.y1 refl)
    (and_from _ _ (eq-eqb b.z0 b.z0 refl) (eq-eqb b.z1 b.z1 refl)))))

same_itself : (laws : Lawful) (v : Visit) → same_visit v v ≡ true
same_itself laws v =
    and_from (same_box v.box v.box) (same_list v.list v.list) (itself v.box)
    ((laws.layers.equal v.list v.list).1 refl)

same_box-of : (v w : Visit) → same_visit v w ≡ true → same_box v.box w.box ≡ true
same_box-of v w h = (and_parts (same_box v.box w.box) (same_list v.list w.list) h).0

-- boxes with other sides are others
other_sides : (v w : Visit) → sides v.box < sides w.box → same_visit v w ≡ false
other_sides v w less =
    refuted (same_visit v w)
    (λ h. absurd (omega (arith, same_sides v.box w.box (same_box-of v w h), less)))

longer_sides : (v w : Visit) → sides w.box < sides v.box → same_visit v w ≡ false
longer_sides v w less =
    refuted (same_visit v w)
    (λ h. absurd (omega (arith, same_sides v.box w.box (same_box-of v w h), less)))

-- and so are those with other lists
other_list : (laws : Lawful) (v w : Visit) → w.list ≢ v.list → same_visit v w ≡ false
other_list laws v w differs =
    refuted (same_visit v w)
    (λ h. differs (sym ((laws.layers.equal v.list w.list).0
    ((and_parts (same_box v.box w.box) (same_list v.list w.list) h).1))))

-- a box that stands among others is old
pub stands-old : (laws : Lawful) (visits : List Visit) (w : Visit) → Contains visits w
    → is_old visits w ≡ true
stands-old laws [] w inside = absurd (not_in_none w inside)
stands-old laws (v ∷ vs) w inside = by (head_or_tail v vs w inside) (stands-old laws vs w)
  where
    by : (v ≡ w) ⊎ Contains vs w → (Contains vs w → is_old vs w ≡ true)
        → same_visit w v || is_old vs w ≡ true
    by (inl here) later =
        let one = subst (λ x. same_visit w x ≡ true) (sym here) (same_itself laws w) in
        rw one refl
    by (inr there) later = either (same_visit w v) (is_old vs w) (later there)

-- one with longer sides than all others is not
longer-new : (visits : List Visit) (v : Visit) → All (λ w. sides w.box < sides v.box) visits
    → is_old visits v ≡ false
longer-new [] v shorter = refl
longer-new (w ∷ ws) v shorter =
    let first = longer_sides v w (shorter zero w (omega arith)) in
    let rest = longer-new ws v (λ k d h. shorter (suc k) d (omega (arith, h))) in
    rw first rest

-- the boxes on a way have no longer sides than its first
way-sides : (laws : Lawful) (n : ℕ) (d : CellDescent) (v : Visit) (s : Sample) → 0 < d.boxes.leaf
    → IsBox v.box → LiesIn v.box s
    → All (λ w. sides w.box ≤ sides v.box) (way_within n d v s)
unfolding way_within
way-sides laws zero d v s some is lies = λ k e h. absurd (omega (arith, h))
way-sides laws (suc n) d v s some is lies =
    by (is_cut d v) refl
    (λ part inside. way-sides laws n d (next_visit d.boxes v s) s some
    (laws.parts.box d.boxes.leaf v.box (half_with d.boxes.leaf v.box s) part) inside)
  where
    by : (t : Bool) → is_cut d v ≡ t
        → (IsPart d.boxes.leaf v.box (half_with d.boxes.leaf v.box s)
        → LiesIn (half_with d.boxes.leaf v.box s) s
        → All (λ w. sides w.box ≤ sides (half_with d.boxes.leaf v.box s))
        (way_within n d (next_visit d.boxes v s) s))
        → All (λ w. sides w.box ≤ sides v.box) (v ∷ cond t (way_within n d (next_visit d.boxes v s) s) [])
    by t e below zero x h = omega arith
    by false e below (suc k) x h = absurd (omega (arith, h))
    by true e below (suc k) x h =
        let half = laws.parts.part d.boxes.leaf v.box s some is lies in
        omega (
          arith,
          below half.0 half.1 k x (omega (arith, h)),
          laws.parts.shorter d.boxes.leaf v.box (half_with d.boxes.leaf v.box s) (cut-is_long d v e) half.0,
        )

-- and behind that shorter ones
pub next-shorter : (laws : Lawful) (d : CellDescent) (v : Visit) (s : Sample) → 0 < d.boxes.leaf → IsBox v.box
    → LiesIn v.box s → is_cut d v ≡ true
    → All (λ w. sides w.box < sides v.box) (way d (next_visit d.boxes v s) s)
next-shorter laws d v s some is lies e k x h =
    let half = laws.parts.part d.boxes.leaf v.box s some is lies in
    omega (
      arith,
      way-sides laws (sides (half_with d.boxes.leaf v.box s)) d (next_visit d.boxes v s) s some
          (laws.parts.box d.boxes.leaf v.box (half_with d.boxes.leaf v.box s) half.0) half.1 k x h,
      laws.parts.shorter d.boxes.leaf v.box (half_with d.boxes.leaf v.box s) (cut-is_long d v e) half.0,
    )

-- the last box on a way stands on it
last-stands : (first : Visit) (rest : List Visit) (other : Visit)
    → Contains (first ∷ rest) (unwrap_or (last_or (Some first) rest) other)
last-stands first [] other = (zero, omega arith, refl)
last-stands first (x ∷ rest) other =
    let later = last-stands x rest other in (suc later.0, omega (arith, later.1), later.2)

pub end-stands : (d : CellDescent) (v : Visit) (s : Sample) → IsBox v.box
    → Contains (way d v s) (way_end d v s)
unfolding way_within
end-stands d v s is = by (sides v.box) (box-has_sides v.box is)
  where
    by : (n : ℕ) → 0 < n → Contains (way_within n d v s) (unwrap_or (last_or None (way_within n d v s)) v)
    by zero h = absurd (omega (arith, h))
    by (suc n) h = last-stands v (cond (is_cut d v) (way_within n d (next_visit d.boxes v s) s) []) v

-- a box that is new is not old
pub new-is_new : (laws : Lawful) (d : CellDescent) (before : Option Visit) (v : Visit) (s : Sample)
    → 0 < d.boxes.leaf → IsBox v.box → LiesIn v.box s → IsNew before v
    → is_old (ways_before d before s) v ≡ false
new-is_new laws d None v s some is lies new = refl
new-is_new laws d (Some u) v s some is lies new = by (is_cut d u) refl
  where
    apart : (u.box ≡ v.box) × (u.list ≢ v.list)
    apart = new u refl

    first : same_visit v u ≡ false
    first = other_list laws v u apart.1

    box : IsBox u.box
    box = subst IsBox (sym apart.0) is

    inside : LiesIn u.box s
    inside = subst (λ b. LiesIn b s) (sym apart.0) lies

    by : (t : Bool) → is_cut d u ≡ t → is_old (way d u s) v ≡ false
    by false e = rw (way-ends d u s box e) (rw first refl)
    by true e =
        let below = subst (λ b. All (λ w. sides w.box < sides b) (way d (next_visit d.boxes u s) s)) apart.0
        (next-shorter laws d u s some box inside e) in
        rw (way-goes_on laws d u s some box inside e)
        (rw first (longer-new (way d (next_visit d.boxes u s) s) v below))

-- a box with shorter sides is old where it is so from the half on
pub below-same : (laws : Lawful) (d : CellDescent) (before : Option Visit) (v w : Visit) (s : Sample)
    → 0 < d.boxes.leaf → IsBox v.box → LiesIn v.box s → IsNew before v → sides w.box < sides v.box
    → is_old (ways_before d before s) w
    ≡ is_old (ways_before d (received_half (handed_before d before) (half_with d.boxes.leaf v.box s)) s) w
below-same laws d None v w s some is lies new less = refl
below-same laws d (Some u) v w s some is lies new less = by (is_cut d u) refl
  where
    apart : (u.box ≡ v.box) × (u.list ≢ v.list)
    apart = new u refl

    box : IsBox u.box
    box = subst IsBox (sym apart.0) is

    inside : LiesIn u.box s
    inside = subst (λ b. LiesIn b s) (sym apart.0) lies

    first : same_visit w u ≡ false
    first = other_sides w u (subst (λ b. sides w.box < sides b) (sym apart.0) less)

    next : next_visit d.boxes u s ≡ visit (half_with d.boxes.leaf v.box s) (handed_on d.boxes u)
    next = ap (λ b. visit (half_with d.boxes.leaf b s) (handed_on d.boxes u)) apart.0

    by : (t : Bool) → is_cut d u ≡ t → is_old (way d u s) w
        ≡ is_old (ways_before d (received_half (cond t (Some (handed_on d.boxes u)) None)
        (half_with d.boxes.leaf v.box s)) s) w
    by false e = rw (way-ends d u s box e) (rw first refl)
    by true e = rw (way-goes_on laws d u s some box inside e) (rw first (ap (λ x. is_old (way d x s) w) next))
