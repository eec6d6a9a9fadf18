-- Places rise or fall along an axis.
use Rattle.std.proofs.Common.{◌≡◌, ℕ, zero, suc, ◌-◌, ◌*◌, ◌/◌, ◌≤◌, ℤ, pos, Bool, true, false, cond, arith}
use Rattle.std.specs.Prelude.{negsuc, ◌-ℤ◌, ◌≤ℤ◌, ◌==◌}
use Rattle.std.proofs.lemmas.Int.{ints, clamps}
use Rattle.std.proofs.lemmas.Nat.{le-div}
use Rattle.std.proofs.Math.Nat.{mul-le-mul_left, mul-div_cancel, div-mul-le_self}
use Rattle.fixed_ops.specs.Raw.{IsRaw}
use Rattle.view_places.specs.declared.lattice.Axis.{Axis}
use Rattle.view_places.specs.declared.lattice.Axis.TheVariants as axes
use Rattle.view_places.specs.declared.lattice.Lattice.{Lattice}
use Rattle.view_places.specs.declared.lattice.Lattice.TheVariants.{Raster, Height, Grid}
use Rattle.view_places.specs.Laws.{RangesAreSpans, RangesHold}
use Rattle.view_places.specs.Places.{sample_place, steps_of}
use Rattle.view_places.specs.Samples.{place_up, place_down, distance_of}
use Rattle.view_places.specs.Spans.{IsRange, last_of, range_along}
use Rattle.view_places.specs.Window.{Window, AreEnds, IsWindow}

either : (b : Bool) (x y : ℕ) → x ≤ y → cond b (pos 0) (pos x) ≤ℤ cond b (pos 0) (pos y)
either true x y le = omega (arith, ints)
either false x y le = omega (arith, ints, le)

-- the way grows
way_grows : (whole : ℤ) (steps i j : ℕ) → pos 0 ≤ℤ whole → i ≤ j → distance_of whole steps i ≤ℤ distance_of whole steps j
way_grows (pos n) zero i j h le = omega (arith, ints)
way_grows (pos n) (suc d) i j h le =
    let products : n * i ≤ n * j = mul-le-mul_left n le in
    let quotients = le-div (n * i / suc d) (n * j) (suc d) (omega arith) (omega (arith, products, div-mul-le_self (n * i) (suc d))) in
    either (suc d == 0) (n * i / suc d) (n * j / suc d) quotients
way_grows (negsuc n) steps i j h le = absurd (omega (arith, ints, h))

rises : (low high : ℤ) (steps i j : ℕ) → AreEnds low high → i ≤ j → place_up low high steps i ≤ℤ place_up low high steps j
rises low high steps i j ends le = omega (arith, ints, way_grows (high -ℤ low) steps i j (omega (arith, ints, ends.ordered)) le)

falls : (low high : ℤ) (steps i j : ℕ) → AreEnds low high → i ≤ j → place_down low high steps j ≤ℤ place_down low high steps i
falls low high steps i j ends le = omega (arith, ints, way_grows (high -ℤ low) steps i j (omega (arith, ints, ends.ordered)) le)

-- places that rise have their range from the first to the last
rising : (v : Window) (lattice : Lattice) (axis : Axis) (low high : ℕ) → low ≤ last_of lattice high
    → ((i j : ℕ) → i ≤ j → sample_place v lattice axis i ≤ℤ sample_place v lattice axis j)
    → IsRange v lattice axis low (last_of lattice high) (range_along v lattice axis low high)
rising v lattice axis low high le rise =
    let last = last_of lattice high in
    let whole = rise low last le in
    record {
      holds = λ i above below. let front = rise low i above in let back = rise i last below in (omega (arith, ints, clamps, front, back), omega (arith, ints, clamps, front, back));
      least = record { index = low; above = omega arith; below = le; is = omega (arith, ints, clamps, whole) };
      greatest = record { index = last; above = le; below = omega arith; is = omega (arith, ints, clamps, whole) };
    }

-- and those that fall from the last to the first
falling : (v : Window) (lattice : Lattice) (axis : Axis) (low high : ℕ) → low ≤ last_of lattice high
    → ((i j : ℕ) → i ≤ j → sample_place v lattice axis j ≤ℤ sample_place v lattice axis i)
    → IsRange v lattice axis low (last_of lattice high) (range_along v lattice axis low high)
falling v lattice axis low high le fall =
    let last = last_of lattice high in
    let whole = fall low last le in
    record {
      holds = λ i above below. let front = fall low i above in let back = fall i last below in (omega (arith, ints, clamps, front, back), omega (arith, ints, clamps, front, back));
      least = record { index = last; above = le; below = omega arith; is = omega (arith, ints, clamps, whole) };
      greatest = record { index = low; above = omega arith; below = le; is = omega (arith, ints, clamps, whole) };
    }

pub ranges : RangesHold
ranges v Raster axes.X low high is le = rising v Raster axes.X low high le (λ i j. rises v.x0 v.x1 (v.w - 1) i j is.x)
ranges v Raster axes.Y low high is le = falling v Raster axes.Y low high le (λ i j. falls v.y0 v.y1 (v.h - 1) i j is.y)
ranges v Raster axes.Z low high is le = rising v Raster axes.Z low high le (λ i j le. omega (arith, ints))
ranges v Height axes.X low high is le = rising v Height axes.X low high le (λ i j. rises v.x0 v.x1 (v.w - 1) i j is.x)
ranges v Height axes.Y low high is le = falling v Height axes.Y low high le (λ i j. falls v.y0 v.y1 (v.h - 1) i j is.y)
ranges v Height axes.Z low high is le = rising v Height axes.Z low high le (λ i j. rises v.z0 v.z1 (v.d - 1) i j is.z_ends)
ranges v Grid axes.X low high is le = rising v Grid axes.X low high le (λ i j. rises v.x0 v.x1 v.nx i j is.x)
ranges v Grid axes.Y low high is le = rising v Grid axes.Y low high le (λ i j. rises v.y0 v.y1 v.ny i j is.y)
ranges v Grid axes.Z low high is le = rising v Grid axes.Z low high le (λ i j. rises v.z0 v.z1 v.nz i j is.z_ends)

-- the way is no longer than the whole
way_short : (n steps i : ℕ) → i ≤ steps → distance_of (pos n) steps i ≤ℤ pos n
way_short n zero i le = omega (arith, ints)
way_short n (suc d) i le =
    let products : n * i ≤ n * suc d = mul-le-mul_left n le in
    let quotients = le-div (n * i / suc d) (n * suc d) (suc d) (omega arith) (omega (arith, products, div-mul-le_self (n * i) (suc d))) in
    let whole : n * suc d / suc d ≡ n = mul-div_cancel n (omega arith) in
    by (suc d == 0) (omega (arith, quotients, whole))
  where
    by : (b : Bool) → n * i / suc d ≤ n → cond b (pos 0) (pos (n * i / suc d)) ≤ℤ pos n
    by true h = omega (arith, ints)
    by false h = omega (arith, ints, h)

way_ahead : (n steps i : ℕ) → pos 0 ≤ℤ distance_of (pos n) steps i
way_ahead n zero i = omega (arith, ints)
way_ahead n (suc d) i = by (suc d == 0)
  where
    by : (b : Bool) → pos 0 ≤ℤ cond b (pos 0) (pos (n * i / suc d))
    by true = omega (arith, ints)
    by false = omega (arith, ints)

-- places lie between the ends of the axis
way_within : (low high : ℤ) (steps i : ℕ) → AreEnds low high → i ≤ steps → (pos 0 ≤ℤ distance_of (high -ℤ low) steps i) × (distance_of (high -ℤ low) steps i ≤ℤ (high -ℤ low))
way_within low high steps i ends le = by (high -ℤ low) (omega (arith, ints, ends.ordered))
  where
    by : (whole : ℤ) → pos 0 ≤ℤ whole → (pos 0 ≤ℤ distance_of whole steps i) × (distance_of whole steps i ≤ℤ whole)
    by (pos n) h = (way_ahead n steps i, way_short n steps i le)
    by (negsuc n) h = absurd (omega (arith, ints, h))

raw_up : (low high : ℤ) (steps i : ℕ) → AreEnds low high → i ≤ steps → IsRaw (place_up low high steps i)
raw_up low high steps i ends le =
    let w = way_within low high steps i ends le in
    (omega (arith, ints, w.0, ends.low_raw), omega (arith, ints, w.1, ends.high_raw))

raw_down : (low high : ℤ) (steps i : ℕ) → AreEnds low high → i ≤ steps → IsRaw (place_down low high steps i)
raw_down low high steps i ends le =
    let w = way_within low high steps i ends le in
    (omega (arith, ints, w.1, ends.low_raw), omega (arith, ints, w.0, ends.high_raw))

raw_place_of : (v : Window) (lattice : Lattice) (axis : Axis) (i : ℕ) → IsWindow v → i ≤ steps_of v lattice axis → IsRaw (sample_place v lattice axis i)
raw_place_of v Raster axes.X i is le = raw_up v.x0 v.x1 (v.w - 1) i is.x le
raw_place_of v Raster axes.Y i is le = raw_down v.y0 v.y1 (v.h - 1) i is.y le
raw_place_of v Raster axes.Z i is le = is.z
raw_place_of v Height axes.X i is le = raw_up v.x0 v.x1 (v.w - 1) i is.x le
raw_place_of v Height axes.Y i is le = raw_down v.y0 v.y1 (v.h - 1) i is.y le
raw_place_of v Height axes.Z i is le = raw_up v.z0 v.z1 (v.d - 1) i is.z_ends le
raw_place_of v Grid axes.X i is le = raw_up v.x0 v.x1 v.nx i is.x le
raw_place_of v Grid axes.Y i is le = raw_up v.y0 v.y1 v.ny i is.y le
raw_place_of v Grid axes.Z i is le = raw_up v.z0 v.z1 v.nz i is.z_ends le

pub spans : RangesAreSpans
spans v lattice axis low high is few last =
    let first = raw_place_of v lattice axis low is few in
    let end = raw_place_of v lattice axis (last_of lattice high) is last in
    record {
      lo = (omega (arith, ints, clamps, first.0, end.0), omega (arith, ints, clamps, first.1, end.1));
      hi = (omega (arith, ints, clamps, first.0, end.0), omega (arith, ints, clamps, first.1, end.1));
      order = omega (arith, ints, clamps);
    }
