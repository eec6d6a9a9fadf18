-- The shaded height map of a solid over a view: the light on what lies nearest in each column of samples,
-- row by row from the top of the map. The slopes are those of the whole solid.
use Rattle.std.specs.Prelude.{ℕ, ◌+◌, ◌-◌, ◌*◌, ◌==◌, List, map, if◌then◌else◌}
use Rattle.std.specs.List.{flat_map, range_with_len}
use Rattle.normal_shade.specs.Shades.{lit}
use Rattle.raster_pgm.specs.Pgm.{pgm_of}
use Rattle.solid_model.specs.Slopes.{solid_sloped}
use Rattle.solid_model.specs.declared.clause.Clause.{Clause}
use Rattle.view_places.specs.Places.{point_of}
use Rattle.view_places.specs.Window.{Window}
use Rattle.view_places.specs.declared.lattice.Lattice.TheVariants.{Height}
use Rattle.model_frames.specs.Heights.{top_at}

-- the light on the top sample of column i in row j, which has this top, or 0 where the column has none
abbrev pub shade_under : Window → List Clause → ℕ → ℕ → ℕ → ℕ
shade_under view clauses top i j =
    if top == 0 then 0 else lit (solid_sloped (point_of view Height i j (top - 1)) clauses)

-- the pixel in column i, counted from the left, and row j, counted from the top
abbrev pub shade_at : Window → List Clause → ℕ → ℕ → ℕ
shade_at view clauses i j = shade_under view clauses (top_at view clauses i j) i j

-- the pixels of row j
abbrev pub shade_row : Window → List Clause → ℕ → List ℕ
shade_row view clauses j = map (λ i. shade_at view clauses i j) (range_with_len 0 view.w)

-- the pixels of the rows, from the top on
abbrev pub solid_shades : Window → List Clause → List ℕ
solid_shades view clauses = flat_map (shade_row view clauses) (range_with_len 0 view.h)

-- the whole picture, as PGM text
abbrev pub shaded_of : Window → List Clause → List ℕ
shaded_of view clauses = pgm_of view.w view.h (solid_shades view clauses)

-- how many evaluations evaluating each of so many clauses once at each sample takes, and ten times more in
-- each column for the slopes
abbrev pub plain_shades : Window → ℕ → ℕ
plain_shades view clauses = view.w * view.h * (view.d + 10) * clauses
