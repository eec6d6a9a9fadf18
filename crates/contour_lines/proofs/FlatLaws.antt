-- Views that lie flat.
use Rattle.std.proofs.Common.{◌≡◌, ℕ, ℤ, pos, ◌≤ℤ◌, ◌+ℤ◌, ◌-ℤ◌, ◌*ℤ◌, ap, ◌∙◌, arith}
use Rattle.std.proofs.lemmas.Int.{ints}
use Rattle.fixed_ops.specs.Raw.{floor_div}
use Rattle.view_places.specs.Places.{sample_place}
use Rattle.view_places.specs.Samples.{place_up}
use Rattle.view_places.specs.declared.lattice.Axis.TheVariants.{X, Y}
use Rattle.view_places.specs.declared.lattice.Lattice.TheVariants.{Grid}
use Rattle.contour_lines.specs.Laws.{FlatViewsArePlanes, FlatViewsAreViews}

-- between two ends that are one place each sample lies there
nothing : (z : ℤ) → (z -ℤ z) ≡ pos 0
nothing z = grind (arith, ints)

none_of : (k : ℕ) → (pos 0 *ℤ pos k) ≡ pos 0
none_of k = grind (arith, ints)

no_further : (z : ℤ) → (z +ℤ pos 0) ≡ z
no_further z = grind (arith, ints)

same_place : (z : ℤ) (k : ℕ) → place_up z z 1 k ≡ z
same_place z k =
    ap (λ w. z +ℤ floor_div (w *ℤ pos k) 1) (nothing z) ∙ ap (λ w. z +ℤ floor_div w 1) (none_of k) ∙ no_further z

pub flat_views_are_planes_is : FlatViewsArePlanes
flat_views_are_planes_is v i j k =
    ap (λ (z : ℤ). record { x = sample_place v Grid X i; y = sample_place v Grid Y j; z = z }) (same_place v.z k)

-- both ends are one place
flat_ends : (z : ℤ) → z ≤ℤ z
flat_ends z = grind (arith, ints)

pub flat_views_are_views_is : FlatViewsAreViews
flat_views_are_views_is view is = record {
  x = is.x;
  y = is.y;
  z_ends = record { low_raw = is.z; high_raw = is.z; ordered = flat_ends view.z };
  z = is.z;
  w = is.w;
  h = is.h;
  d = is.d;
  nx = is.nx;
  ny = is.ny;
  nz = record { some = omega arith; few = omega arith };
}
