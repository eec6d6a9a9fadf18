-- Different vertices have different raw places and different lines.
use Rattle.std.proofs.Common.{◌≡◌, ℕ, zero, suc, ◌+◌, ◌-◌, ◌*◌, ◌/◌, ◌<◌, ◌≤◌, ℤ, pos, negsuc, ◌+ℤ◌, List, refl, arith, ap, sym, subst, inl, inr}
use Rattle.std.specs.Prelude.{◌⊎◌, ◌-ℤ◌, ◌≤ℤ◌, ◌<ℤ◌, get_or}
use Rattle.std.proofs.lemmas.Bool.{and_parts, cases_order, leb-true}
use Rattle.std.proofs.lemmas.Int.{ints}
use Rattle.std.proofs.lemmas.Nat.{div_below, le-div}
use Rattle.std.proofs.Math.Nat.{mul-le-mul_left}
use Rattle.fixed_ops.specs.Raw.{IsRaw}
use Rattle.kuhn_cells.specs.declared.edge_key.EdgeKey.{EdgeKey}
use Rattle.kuhn_cells.specs.Corners.{along_x, along_y, along_z}
use Rattle.kuhn_cells.specs.Grids.{Grid}
use Rattle.kuhn_cells.specs.Laws.{IsVertex}
use Rattle.kuhn_cells.specs.Vectors.{Vector}
use Rattle.mesh_laws.specs.Places.{AreApart, AreAllApart, RawPlaces, place_between, raw_along, raw_place, share}
use Rattle.mesh_laws.proofs.Lines.{IsRawPlace}
use Rattle.mesh_laws.proofs.Lattice.{IsSameStart, IsShare, few_steps, same_start, share_is_share}

-- ---- between two places that lie 65536 apart at least

-- the part of a distance
part_low : (m t : ℕ) → 65536 ≤ m → 1 ≤ t → 1 ≤ m * t / 65536
part_low m t h k = le-div 1 (m * t) 65536 (omega arith) (let e : m * 1 ≤ m * t = mul-le-mul_left m k in omega (arith, e, h))

part_high : (m t : ℕ) → 65536 ≤ m → t ≤ 65535 → m * t / 65536 < m
part_high m t h k = div_below (m * t) 65536 m (omega arith) (let e : m * t ≤ m * 65535 = mul-le-mul_left m k in omega (arith, e, h))

distance : (p q : ℤ) → (p +ℤ pos 65536) ≤ℤ q → (m : ℕ) × (q -ℤ p ≡ pos m) × (65536 ≤ m)
distance p q h = by (q -ℤ p) refl
  where
    by : (d : ℤ) → q -ℤ p ≡ d → (m : ℕ) × (q -ℤ p ≡ pos m) × (65536 ≤ m)
    by (pos m) e = (m, e, omega (arith, ints, h, e))
    by (negsuc m) e = absurd (omega (arith, ints, h, e))

record LiesBetween (p r q : ℤ) : Type 0 where
  low : p <ℤ r
  high : r <ℤ q

lies_between : (p q : ℤ) (t : ℕ) → IsShare t → (p +ℤ pos 65536) ≤ℤ q → LiesBetween p (place_between p q t) q
lies_between p q t s h =
    let d = distance p q h in
    let e : place_between p q t ≡ p +ℤ pos (d.0 * t / 65536) = rw d.1 refl in
    let low = part_low d.0 t d.2 s.some in
    let high = part_high d.0 t d.2 s.few in
    let at = d.1 in
    record {
      low = rw e (omega (arith, ints, low));
      high = rw e (omega (arith, ints, high, at));
    }

-- ---- along one axis

abbrev at : List ℤ → ℕ → ℤ
at xs k = get_or xs k (pos 0)

rises_to : (count : ℕ) (xs : List ℤ) → AreApart count xs → (a k : ℕ) → a + k ≤ count → at xs a ≤ℤ at xs (a + k)
rises_to count xs apart a zero h = let e : a + 0 ≡ a = omega arith in rw e (omega (arith, ints))
rises_to count xs apart a (suc k) h =
    let e : a + suc k ≡ (a + k) + 1 = omega arith in
    let less = rises_to count xs apart a k (omega (arith, h)) in
    let rise = apart.rise (a + k) (omega (arith, h)) in
    rw e (omega (arith, ints, less, rise))

rises : (count : ℕ) (xs : List ℤ) → AreApart count xs → (a b : ℕ) → a ≤ b → b ≤ count → at xs a ≤ℤ at xs b
rises count xs apart a b less most =
    let e : a + (b - a) ≡ b = omega (arith, less) in
    subst (λ (k : ℕ). at xs a ≤ℤ at xs k) e (rises_to count xs apart a (b - a) (omega (arith, less, most)))

raw_at : (count : ℕ) (xs : List ℤ) → AreApart count xs → (k : ℕ) → k ≤ count → IsRaw (at xs k)
raw_at count xs apart k few = let n = apart.points in apart.raw k (pos 0) (omega (arith, n, few))

-- where a vertex lies along an axis: its edge starts at an index, with so many steps
record LiesAlong (count : ℕ) (xs : List ℤ) (a d : ℕ) (v : ℤ) : Type 0 where
  low : at xs a ≤ℤ v
  exact : d ≡ 0 → v ≡ at xs a
  above : d ≡ 1 → at xs a <ℤ v
  below : a < count → v <ℤ at xs (a + 1)
  raw : IsRaw v

lies_along : (count : ℕ) (xs : List ℤ) → AreApart count xs → (a d t : ℕ) → d ≤ 1 → a + d ≤ count → IsShare t → LiesAlong count xs a d (raw_along xs a d t)
lies_along count xs apart a zero t one few s =
    record {
      low = omega (arith, ints);
      exact = λ e. refl;
      above = λ e. absurd (omega (arith, e));
      below = λ less. let rise = apart.rise a less in omega (arith, ints, rise);
      raw = raw_at count xs apart a (omega (arith, few));
    }
lies_along count xs apart a (suc zero) t one few s =
    let less : a < count = omega (arith, few) in
    let here = lies_between (at xs a) (at xs (a + 1)) t s (apart.rise a less) in
    let low = here.low in
    let high = here.high in
    let first = raw_at count xs apart a (omega (arith, few)) in
    let last = raw_at count xs apart (a + 1) (omega (arith, few)) in
    record {
      low = omega (arith, ints, low);
      exact = λ e. absurd (omega (arith, e));
      above = λ e. low;
      below = λ less. high;
      raw = (omega (arith, ints, low, first.0), omega (arith, ints, high, last.1));
    }
lies_along count xs apart a (suc (suc d)) t one few s = absurd (omega (arith, one))

-- an edge that starts further on has its vertex further on
further_on : (count : ℕ) (xs : List ℤ) → AreApart count xs → (a b d c : ℕ) (v w : ℤ) → a < b → b ≤ count → LiesAlong count xs a d v → LiesAlong count xs b c w → v ≡ w → ⊥
further_on count xs apart a b d c v w less most p q same =
    let high = p.below (omega (arith, less, most)) in
    let place_between = rises count xs apart (a + 1) b (omega (arith, less)) most in
    let low = q.low in
    omega (arith, ints, high, place_between, low, same)

same_steps : (count : ℕ) (xs : List ℤ) (a d c : ℕ) (v w : ℤ) → d ≤ 1 → c ≤ 1 → LiesAlong count xs a d v → LiesAlong count xs a c w → v ≡ w → d ≡ c
same_steps count xs a zero zero v w fd fc p q same = refl
same_steps count xs a zero (suc zero) v w fd fc p q same = let e = p.exact refl in let less = q.above refl in absurd (omega (arith, ints, e, less, same))
same_steps count xs a (suc zero) zero v w fd fc p q same = let e = q.exact refl in let less = p.above refl in absurd (omega (arith, ints, e, less, same))
same_steps count xs a (suc zero) (suc zero) v w fd fc p q same = refl
same_steps count xs a (suc (suc d)) c v w fd fc p q same = absurd (omega (arith, fd))
same_steps count xs a d (suc (suc c)) v w fd fc p q same = absurd (omega (arith, fc))

axis_tells : (count : ℕ) (xs : List ℤ) → AreApart count xs → (a b d c : ℕ) (v w : ℤ) → d ≤ 1 → c ≤ 1 → a ≤ count → b ≤ count → LiesAlong count xs a d v → LiesAlong count xs b c w → v ≡ w → IsSameStart a b d c
axis_tells count xs apart a b d c v w fd fc fa fb p q same = by (cases_order a b)
  where
    by : (a ≡ b) ⊎ ((a < b) ⊎ (b < a)) → IsSameStart a b d c
    by (inl e) = record { start = e; steps = same_steps count xs a d c v w fd fc p (subst (λ (k : ℕ). LiesAlong count xs k c w) (sym e) q) same }
    by (inr (inl less)) = absurd (further_on count xs apart a b d c v w less fb p q same)
    by (inr (inr more)) = absurd (further_on count xs apart b a c d w v more fa q p (sym same))

-- ---- raw places

record IsInside (g : Grid) (e : EdgeKey) : Type 0 where
  x : e.x + along_x e.dir ≤ g.x
  y : e.y + along_y e.dir ≤ g.y
  z : e.z + along_z e.dir ≤ g.z

is_inside : (g : Grid) (e : EdgeKey) → IsVertex g e → IsInside g e
is_inside g e v =
    let x = and_parts _ _ v.within in
    let y = and_parts _ _ x.1 in
    record { x = leb-true _ _ x.0; y = leb-true _ _ y.0; z = leb-true _ _ y.1 }

record IsPlaced (places : RawPlaces) (g : Grid) (e : EdgeKey) : Type 0 where
  x : LiesAlong g.x places.along_x e.x (along_x e.dir) (raw_place places g e).x
  y : LiesAlong g.y places.along_y e.y (along_y e.dir) (raw_place places g e).y
  z : LiesAlong g.z places.along_z e.z (along_z e.dir) (raw_place places g e).z

is_placed : (places : RawPlaces) (g : Grid) (e : EdgeKey) → AreAllApart g places → IsVertex g e → IsPlaced places g e
is_placed places g e apart v =
    let t = share_is_share g e in
    let in_grid = is_inside g e v in
    record {
      x = lies_along g.x places.along_x apart.x e.x (along_x e.dir) (share g e) (few_steps e.dir) in_grid.x t;
      y = lies_along g.y places.along_y apart.y e.y (along_y e.dir) (share g e) (few_steps (e.dir / 2)) in_grid.y t;
      z = lies_along g.z places.along_z apart.z e.z (along_z e.dir) (share g e) (few_steps (e.dir / 4)) in_grid.z t;
    }

pub raw_tells : (places : RawPlaces) (g : Grid) (e f : EdgeKey) → AreAllApart g places → IsVertex g e → IsVertex g f → raw_place places g e ≡ raw_place places g f → e ≡ f
raw_tells places g e f apart v w same =
    let p = is_placed places g e apart v in
    let q = is_placed places g f apart w in
    let i = is_inside g e v in
    let j = is_inside g f w in
    let ix = i.x in let iy = i.y in let iz = i.z in
    let jx = j.x in let jy = j.y in let jz = j.z in
    same_start e f v.direction w.direction
    (axis_tells g.x places.along_x apart.x e.x f.x _ _ _ _ (few_steps e.dir) (few_steps f.dir) (omega (arith, ix)) (omega (arith, jx)) p.x q.x (ap (λ (r : Vector). r.x) same))
    (axis_tells g.y places.along_y apart.y e.y f.y _ _ _ _ (few_steps (e.dir / 2)) (few_steps (f.dir / 2)) (omega (arith, iy)) (omega (arith, jy)) p.y q.y (ap (λ (r : Vector). r.y) same))
    (axis_tells g.z places.along_z apart.z e.z f.z _ _ _ _ (few_steps (e.dir / 4)) (few_steps (f.dir / 4)) (omega (arith, iz)) (omega (arith, jz)) p.z q.z (ap (λ (r : Vector). r.z) same))

pub is_raw_place : (places : RawPlaces) (g : Grid) (e : EdgeKey) → AreAllApart g places → IsVertex g e → IsRawPlace (raw_place places g e)
is_raw_place places g e apart v = let p = is_placed places g e apart v in record { x = p.x.raw; y = p.y.raw; z = p.z.raw }
