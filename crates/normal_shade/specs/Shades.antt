-- Shaded height maps: the light on what lies nearest in each column of samples.
use Rattle.std.specs.Prelude.{ℕ, ◌+◌, ◌-◌, ◌==◌, Bool, List, map, if◌then◌else◌}
use Rattle.std.specs.List.{flat_map, range_with_len}
use Rattle.fixed_ops.specs.Points.{Point}
use Rattle.fixed_ops.specs.Slopes.{Sloped, light_of}
use Rattle.live_clauses.specs.Meanings.{sloped_at, tape_meaning}
use Rattle.live_clauses.specs.declared.step.Step.{Step}
use Rattle.view_places.specs.Places.{point_of}
use Rattle.view_places.specs.Window.{Window}
use Rattle.view_places.specs.declared.lattice.Lattice.TheVariants.{Height}
use Rattle.box_chains.specs.Sums.{Sample}
use Rattle.box_chains.specs.Tested.{spans_where}
use Rattle.height_map.specs.Bound.{layered, layers_root}
use Rattle.height_map.specs.Tops.{top_of}
use Rattle.normal_shade.specs.Lit.{lit_where}

-- a sample is the top one of its column: the top stands right above it
abbrev pub is_top : Window → List Step → Sample → Bool
is_top view list s = top_of view list s.i s.j == s.k + 1

-- the light on a surface with these slopes
abbrev pub lit : Sloped → ℕ
lit m = light_of m.dx m.dy m.dz

-- the light by the slopes of a list at a point
abbrev pub light_at : Point → List Step → ℕ
light_at p list = lit (tape_meaning (sloped_at p) list)

-- the light on the top sample of a column, which has this top, or 0 where the column has none
abbrev pub shade_of : Window → List Step → ℕ → ℕ → ℕ → ℕ
shade_of view list top i j =
    if top == 0 then 0 else light_at (point_of view Height i j (top - 1)) list

-- the pixels of row j
abbrev pub row : Window → List Step → ℕ → List ℕ
row view list j =
    map (λ i. shade_of view list (top_of view list i j) i j) (range_with_len 0 view.w)

-- the pixels of all rows, from the top of the map on
abbrev pub shades_of : Window → List Step → List ℕ
shades_of view list = flat_map (row view list) (range_with_len 0 view.h)

-- what a shaded height map takes: the evaluations of the value and the derivatives of the list that the
-- last box on the way to a top sample prunes, at each of these, and the steps that are traced over the
-- boxes on the ways to top samples
abbrev pub shade_points : Window → List Step → ℕ
shade_points view list = lit_where (is_top view list) (layered view) (layers_root view list)

abbrev pub shade_spans : Window → List Step → ℕ
shade_spans view list = spans_where (is_top view list) (layered view) (layers_root view list)
