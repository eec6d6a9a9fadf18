-- A mesh.
use Rattle.std.specs.Prelude.{List}
use Rattle.kuhn_cells.specs.Faces.{Face}
use Rattle.tetra_mesh.specs.declared.vertex.Vertex.{Vertex}

-- the vertices, each of whose numbers is its place, and the faces by these numbers
pub record Triangulation : Type 0 where
  pub vertices : List Vertex
  pub faces : List Face
