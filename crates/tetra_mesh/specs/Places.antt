-- Where the vertices of a mesh lie.
use Rattle.std.specs.Prelude.{ℕ, ◌+◌, ◌*◌, ◌==◌, ◌≤◌, ℤ, if◌then◌else◌}
use Rattle.kuhn_cells.specs.Corners.{along_x, along_y, along_z}
use Rattle.kuhn_cells.specs.Grids.{lower, upper}
use Rattle.kuhn_cells.specs.Laws.{IsDirection}
use Rattle.kuhn_cells.specs.Triangles.{GridPoint}
use Rattle.mesh_laws.specs.Places.{place_between}
use Rattle.view_places.specs.declared.lattice.Axis.{Axis}
use Rattle.view_places.specs.declared.lattice.Axis.TheVariants.{X, Y, Z}
use Rattle.view_places.specs.declared.lattice.Lattice.TheVariants.{Grid}
use Rattle.view_places.specs.Places.{sample_place}
use Rattle.view_places.specs.Window.{Window, size_of}
use Rattle.tetra_mesh.specs.declared.vertex.Vertex.{Vertex}

-- the index of a point along an axis
abbrev pub index_along : Axis → GridPoint → ℕ
index_along X p = p.x
index_along Y p = p.y
index_along Z p = p.z

-- the steps that a direction has along an axis: 1 or 0
abbrev pub steps_along : Axis → ℕ → ℕ
steps_along X dir = along_x dir
steps_along Y dir = along_y dir
steps_along Z dir = along_z dir

-- the lattice place of a vertex along an axis, in parts of 65536 of a cell
abbrev pub lattice_place_along : Vertex → Axis → ℕ
lattice_place_along v axis =
    65536 * index_along axis (lower v.key) + (if steps_along axis v.key.dir == 1 then v.t else 0)

-- the raw place of a vertex along an axis
abbrev pub vertex_place : Window → Vertex → Axis → ℤ
vertex_place w v axis =
    let at = sample_place w Grid axis in
    if steps_along axis v.key.dir == 1
    then place_between (at (index_along axis (lower v.key))) (at (index_along axis (upper v.key))) v.t
    else at (index_along axis (lower v.key))

-- a point of the grid of a view: along each axis the points are one more than the cells
pub record IsGridPoint (w : Window) (p : GridPoint) : Type 0 where
  pub x : p.x ≤ (size_of w).x
  pub y : p.y ≤ (size_of w).y
  pub z : p.z ≤ (size_of w).z

-- a vertex that lies in the grid of a view: between the ends of an edge that are both points of the
-- grid, where the upper one is so only if the lower one is
pub record IsPlaced (w : Window) (v : Vertex) : Type 0 where
  pub direction : IsDirection v.key.dir
  pub upper_end : IsGridPoint w (upper v.key)
  pub some : 1 ≤ v.t
  pub few : v.t ≤ 65535
