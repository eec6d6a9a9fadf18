-- The law of the texts of meshes.
use Rattle.std.specs.Prelude.{◌<◌, ◌^◌, List, length, All}
use Rattle.kuhn_cells.specs.Faces.{Face}
use Rattle.ply_writer.specs.Ply.{ply_of}
use Rattle.tetra_mesh.specs.declared.vertex.Vertex.{Vertex}
use Rattle.view_places.specs.Window.{Window}
use Rattle.checked_meshes.specs.Readings.{HasCornersBelow, SaysMesh}

-- the text of each mesh whose faces lie on its vertices says that mesh, over every view
abbrev pub WrittenMeshesAreRead : Type 0
WrittenMeshesAreRead =
    (view : Window) (vertices : List Vertex) (faces : List Face)
    → length vertices < 2 ^ 31 → length faces < 2 ^ 31
    → All (HasCornersBelow (length vertices)) faces
    → SaysMesh (ply_of view vertices faces) (length vertices) faces
