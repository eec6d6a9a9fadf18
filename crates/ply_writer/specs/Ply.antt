-- Meshes in the ASCII form of PLY.
use Rattle.std.specs.Prelude.{ℕ, List, ◌++◌, codes, decimal, length}
use Rattle.std.specs.List.{flat_map}
use Rattle.fixed_ops.specs.NumberTexts.{number_text}
use Rattle.kuhn_cells.specs.Faces.{Face}
use Rattle.tetra_mesh.specs.declared.vertex.Vertex.{Vertex}
use Rattle.tetra_mesh.specs.Places.{vertex_place}
use Rattle.view_places.specs.declared.lattice.Axis.TheVariants.{X, Y, Z}
use Rattle.view_places.specs.Window.{Window}

-- what stands before the vertices: the form, how many vertices and faces there are, and what a line
-- of each has
abbrev pub ply_header : ℕ → ℕ → List ℕ
ply_header vertices faces =
    codes "ply\nformat ascii 1.0\nelement vertex " ++ decimal vertices
    ++ codes "\nproperty double x\nproperty double y\nproperty double z\nelement face "
    ++ decimal faces
    ++ codes "\nproperty list uchar int vertex_indices\nend_header\n"

-- the line of a vertex: the number texts of its raw places along x, y and z
abbrev pub vertex_line : Window → Vertex → List ℕ
vertex_line w v =
    number_text (vertex_place w v X)
    ++ codes " " ++ number_text (vertex_place w v Y)
    ++ codes " " ++ number_text (vertex_place w v Z) ++ codes "\n"

-- the line of a face: 3, and the numbers of its vertices
abbrev pub face_line : Face → List ℕ
face_line f = codes "3 " ++ decimal f.a ++ codes " " ++ decimal f.b ++ codes " " ++ decimal f.c ++ codes "\n"

-- the whole text: the header, a line for each vertex, and a line for each face
abbrev pub ply_of : Window → List Vertex → List Face → List ℕ
ply_of w vertices faces =
    ply_header (length vertices) (length faces)
    ++ flat_map (vertex_line w) vertices ++ flat_map face_line faces
