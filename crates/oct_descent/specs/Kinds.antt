-- Kinds of grids whose cells are looked into by boxes: those of meshes, and those of a plane.
use Rattle.std.specs.Prelude.{◌≡◌, ◌≤◌, ℕ, ℤ, pos, Bool, false, List, if◌then◌else◌}
use Rattle.std.specs.Int.{int_max}
use Rattle.box_chains.specs.Chains.{Visit}
use Rattle.box_chains.specs.Counts.{root_visit}
use Rattle.box_chains.specs.Sums.{LiesIn, Sample, maximum, sum_in}
use Rattle.kuhn_cells.specs.Grids.{is_border}
use Rattle.kuhn_cells.specs.Triangles.{GridPoint, point}
use Rattle.kuhn_cells.specs.declared.grid_size.GridSize.{GridSize}
use Rattle.live_clauses.specs.declared.step.Step.{Step}
use Rattle.view_places.specs.Boxes.{Indices}
use Rattle.view_places.specs.Window.{Window, size_of}
use Rattle.oct_descent.specs.Bound.{cell_spans_in, least, lengths_in, points_of_grid, working_lengths_in}
use Rattle.oct_descent.specs.GridValues.{value_on}
use Rattle.oct_descent.specs.Known.{Known}
use Rattle.oct_descent.specs.Tables.{PointValues, known_at}
use Rattle.oct_descent.specs.Ways.{CellDescent, Covers, cell_box, meets_border}
use Rattle.view_places.specs.declared.lattice.Lattice.TheVariants as lattices

-- What tells one kind from another: which boxes of cells cover a point of the border, which points lie
-- there, the box that covers the corners of a cell, and the box of all points.
pub record GridKind : Type 0 where
  pub meets : GridSize → Indices → Bool
  pub is_border : GridSize → GridPoint → Bool
  pub cell : Sample → Indices
  pub points : GridSize → Indices

-- A box of a grid that does not meet the border covers no point of it, and a box that holds a cell covers
-- the corners of the cell.
pub record BordersHold (k : GridKind) : Type 0 where
  pub apart : (n : GridSize) (b : Indices) (p : GridPoint) → b.x1 ≤ n.x → b.y1 ≤ n.y → b.z1 ≤ n.z
      → Covers b p → k.meets n b ≡ false → k.is_border n p ≡ false
  pub covered : (b : Indices) (s : Sample) (p : GridPoint) → LiesIn b s → Covers (k.cell s) p
      → Covers b p

-- the grids of meshes
abbrev pub mesh : GridKind
mesh = record {
  meets = meets_border;
  is_border = is_border;
  cell = cell_box;
  points = points_of_grid;
}

-- what is known of the points of a mesh's grid
abbrev pub known_of : PointValues → Known
known_of t = record { n = t.n; points = points_of_grid t.n; at = known_at t }

-- how the cells of a grid over a view are looked into: a box is halved until it is one cell
abbrev pub descent_of : GridKind → Window → CellDescent
descent_of k view = record {
  boxes = record { view = view; lattice = lattices.Grid; leaf = 1 };
  meets = k.meets (size_of view);
  cell = k.cell;
}

-- the box of all cells, with the whole list
abbrev pub root_of : GridKind → Window → List Step → Visit
root_of k view list = root_visit (descent_of k view).boxes list

-- the value of a list as it counts at a point of the grid over a view: on the border no point is inside
abbrev pub value_in : GridKind → Window → List Step → GridPoint → ℤ
value_in k view list p =
    if k.is_border (size_of view) p then int_max (value_on view list p) (pos 0) else value_on view list p

-- the cell at the lower end of a box
abbrev pub low_cell : Indices → Sample
low_cell b = record { i = b.x0; j = b.y0; k = b.z0 }

-- What the points of a grid take at most: each one the length of the longest list that a working cell
-- receives that has it as a corner.
abbrev pub most_at : GridKind → Window → List Step → GridPoint → ℕ
most_at k view list p = maximum (lengths_in (size_of view) (descent_of k view) (root_of k view list) p)

abbrev pub most_points : GridKind → Window → List Step → ℕ
most_points k view list =
    sum_in (k.points (size_of view)) (λ s. most_at k view list (point s.i s.j s.k))

-- what they take at least: each corner of a working cell the length of the shortest such list
abbrev pub least_at : GridKind → Window → List Step → GridPoint → ℕ
least_at k view list p =
    least (working_lengths_in (size_of view) (descent_of k view) (root_of k view list) p)

abbrev pub least_points : GridKind → Window → List Step → ℕ
least_points k view list =
    sum_in (k.points (size_of view)) (λ s. least_at k view list (point s.i s.j s.k))

-- what the boxes of a grid take at most: each the length of the list that it receives
abbrev pub most_spans : GridKind → Window → List Step → ℕ
most_spans k view list = cell_spans_in (descent_of k view) (root_of k view list)
