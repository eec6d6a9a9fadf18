-- What holds of the mesh of each grid whose outermost layer is outside.
use Rattle.std.specs.Prelude.{◌≢◌, pos, List, length, map, AllPairs}
use Rattle.kuhn_cells.specs.Grids.{Grid}
use Rattle.kuhn_cells.specs.Vectors.{Vector}
use Rattle.mesh_laws.specs.Closed.{IsClosed}
use Rattle.mesh_laws.specs.Manifold.{IsManifold}
use Rattle.mesh_laws.specs.Places.{place_line}
use Rattle.mesh_laws.specs.Separating.{IsSeparating}
use Rattle.view_places.specs.declared.lattice.Axis.TheVariants.{X, Y, Z}
use Rattle.view_places.specs.Window.{Window}
use Rattle.tetra_mesh.specs.declared.vertex.Vertex.{Vertex}
use Rattle.tetra_mesh.specs.Meshes.{Triangulation}
use Rattle.tetra_mesh.specs.Places.{lattice_place_along, vertex_place}

-- the lattice place of a vertex, and its raw place over a view
abbrev pub lattice_of : Vertex → Vector
lattice_of v =
    record {
      x = pos (lattice_place_along v X);
      y = pos (lattice_place_along v Y);
      z = pos (lattice_place_along v Z);
    }

abbrev pub raw_of : Window → Vertex → Vector
raw_of w v = record { x = vertex_place w v X; y = vertex_place w v Y; z = vertex_place w v Z }

-- A mesh is closed, a manifold, and separates the inside points of a grid from the outside ones; no
-- two of its vertices have one lattice place.
pub record IsSound (g : Grid) (mesh : Triangulation) : Type 0 where
  pub closed : IsClosed mesh.faces
  pub manifold : IsManifold (length mesh.vertices) mesh.faces
  pub separating : IsSeparating g (map (λ v. v.key) mesh.vertices) mesh.faces
  pub apart : AllPairs (λ u v. lattice_of u ≢ lattice_of v) mesh.vertices

-- no two vertices have one raw place over a view, or one line
pub record LieApart (w : Window) (vertices : List Vertex) : Type 0 where
  pub raw : AllPairs (λ u v. raw_of w u ≢ raw_of w v) vertices
  pub lines : AllPairs (λ u v. place_line (raw_of w u) ≢ place_line (raw_of w v)) vertices
