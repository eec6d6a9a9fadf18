-- Where the surface cuts the edges of a grid, and the whole mesh of a grid.
use Rattle.std.specs.Prelude.{map}
use Rattle.kuhn_cells.specs.declared.edge_key.EdgeKey.{EdgeKey}
use Rattle.kuhn_cells.specs.Faces.{faces}
use Rattle.kuhn_cells.specs.Grids.{Grid, lower, upper, value_at, vertices}
use Rattle.mesh_laws.specs.Places.{way_up}
use Rattle.tetra_mesh.specs.declared.vertex.Vertex.{Vertex}
use Rattle.tetra_mesh.specs.Meshes.{Triangulation}

-- the vertex on an edge of a grid
abbrev pub vertex_of : Grid → EdgeKey → Vertex
vertex_of g e = record { key = e; t = way_up (value_at g (lower e)) (value_at g (upper e)) }

-- the mesh of a grid
abbrev pub mesh_of : Grid → Triangulation
mesh_of g = record { vertices = map (vertex_of g) (vertices g); faces = faces g }
