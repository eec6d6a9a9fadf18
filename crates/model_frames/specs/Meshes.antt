-- The mesh of a solid over a view, as PLY text.
use Rattle.std.specs.Prelude.{ℕ, ◌+◌, ◌*◌, ℤ, List, [], Option, Some, None, if◌then◌else◌}
use Rattle.fixed_ops.specs.Points.{Point}
use Rattle.grid_text.specs.Texts.{text_of}
use Rattle.kuhn_cells.specs.Grids.{Grid, bordered, grid_over}
use Rattle.kuhn_cells.specs.Triangles.{GridPoint}
use Rattle.live_clauses.specs.declared.step.Step.{Step}
use Rattle.oct_descent.specs.Trees.{Gridding}
use Rattle.ply_writer.specs.Ply.{ply_of}
use Rattle.solid_model.specs.Values.{solid_value}
use Rattle.solid_model.specs.declared.clause.Clause.{Clause}
use Rattle.tetra_mesh.specs.Cuts.{mesh_of}
use Rattle.view_places.specs.Places.{point_of}
use Rattle.view_places.specs.Window.{Window, same_view, size_of}
use Rattle.view_places.specs.declared.lattice.Lattice.TheVariants as lattices

-- The value of a point of a view's grid, where each place has a value of its own: that of its
-- place, or, on the outermost layer, the greater of that and 0. So no point of the outermost layer
-- is inside.
abbrev pub grid_value : Window → (Point → ℤ) → GridPoint → ℤ
grid_value view value p = bordered (size_of view) p (value (point_of view lattices.Grid p.x p.y p.z))

-- the grid of a view with the values of its points, by z, then by y, then by x
unfoldable pub grid_of : Window → (Point → ℤ) → Grid
grid_of view value = grid_over (size_of view) (grid_value view value)

-- the whole mesh of a solid over a view, as PLY text
unfoldable pub mesh_text : Window → List Clause → List ℕ
mesh_text view clauses =
    let mesh = mesh_of (grid_of view (λ p. solid_value p clauses)) in
    ply_of view mesh.vertices mesh.faces

-- the text of the mesh of the grid of a list, where one stands
abbrev pub meshed_text : Option Gridding → List ℕ
meshed_text None = []
meshed_text (Some grid) = text_of grid.view grid.list

-- the list of the mesh before, where there was one of this very view
abbrev pub grid_before : Option Gridding → Window → Option (List Step)
grid_before None view = None
grid_before (Some grid) view = if same_view grid.view view then Some grid.list else None

-- how many evaluations evaluating each of so many clauses once at each point of the grid takes
abbrev pub plain_grid : Window → ℕ → ℕ
plain_grid view clauses =
    let n = size_of view in (n.x + 1) * ((n.y + 1) * ((n.z + 1) * clauses))
