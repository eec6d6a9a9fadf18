-- The height map of a solid over a view: the top of each column of samples, row by row from the top
-- of the map.
use Rattle.std.specs.Prelude.{ℕ, ◌+◌, ◌*◌, List, map, if◌then◌else◌}
use Rattle.std.specs.List.{flat_map, range_with_len}
use Rattle.fixed_ops.specs.Raw.{is_inside}
use Rattle.box_chains.specs.Sums.{maximum}
use Rattle.raster_pgm.specs.Samples.{samples_of}
use Rattle.solid_model.specs.Values.{solid_value}
use Rattle.solid_model.specs.declared.clause.Clause.{Clause}
use Rattle.view_places.specs.Places.{point_of}
use Rattle.view_places.specs.Window.{Window}
use Rattle.view_places.specs.declared.lattice.Lattice.TheVariants.{Height}

-- 1 plus the greatest index of a sample that is inside, in column i, counted from the left, of row
-- j, counted from the top, or 0 where none is
abbrev pub top_at : Window → List Clause → ℕ → ℕ → ℕ
top_at view clauses i j =
    maximum (map (λ k. if is_inside (solid_value (point_of view Height i j k) clauses) then k + 1 else 0)
    (range_with_len 0 view.d))

-- the tops of row j
abbrev pub tops_at : Window → List Clause → ℕ → List ℕ
tops_at view clauses j = map (λ i. top_at view clauses i j) (range_with_len 0 view.w)

-- the tops of the rows, from the top on
abbrev pub tops_of : Window → List Clause → List ℕ
tops_of view clauses = flat_map (tops_at view clauses) (range_with_len 0 view.h)

-- the whole height map, as PGM text
unfoldable pub heights_of : Window → List Clause → List ℕ
heights_of view clauses = samples_of view.w view.h view.d (tops_of view clauses)

-- how many evaluations evaluating each of so many clauses once at each sample takes
abbrev pub plain_depths : Window → ℕ → ℕ
plain_depths view clauses = view.w * view.h * view.d * clauses
