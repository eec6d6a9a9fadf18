-- Contours as path data, in the form of SVG.
use Rattle.std.specs.Prelude.{ℕ, List, [], ◌∷◌, ◌++◌, codes, get_or, map}
use Rattle.std.specs.List.{flat_map}
use Rattle.fixed_ops.specs.NumberTexts.{number_text}
use Rattle.plane_loops.specs.Contours.{Contour}
pub use Rattle.plane_loops.specs.Contours.{loops_of, pieces_from}
use Rattle.plane_loops.specs.declared.plane_vertex.PlaneVertex.{PlaneVertex}
use Rattle.tetra_mesh.specs.declared.vertex.Vertex.{Vertex}
use Rattle.tetra_mesh.specs.Places.{vertex_place}
use Rattle.view_places.specs.declared.lattice.Axis.TheVariants.{X, Y}
use Rattle.view_places.specs.Window.{Window}

-- the vertex of a mesh that lies above a vertex of a contour, in the lowest layer
abbrev pub in_space : PlaneVertex → Vertex
in_space v = record { key = record { x = v.x; y = v.y; z = 0; dir = v.dir }; t = v.t }

-- the raw places of a vertex along x and y, as number texts
abbrev pub place_text : Window → PlaneVertex → List ℕ
place_text w v =
    number_text (vertex_place w (in_space v) X) ++ codes " " ++ number_text (vertex_place w (in_space v) Y)

-- a line on to a vertex
abbrev pub line_to : Window → PlaneVertex → List ℕ
line_to w v = codes " L " ++ place_text w v

-- the line of a loop along some vertices: a move to the first, lines on to the others, and the line
-- that closes it
abbrev pub path_line : Window → List PlaneVertex → List ℕ
path_line w [] = []
path_line w (v ∷ vs) = (codes "M " ++ place_text w v) ++ flat_map (line_to w) vs ++ codes " Z\n"

-- the vertex of a number
abbrev pub vertex_at : List PlaneVertex → ℕ → PlaneVertex
vertex_at vertices k = get_or vertices k (record { x = 0; y = 0; dir = 0; t = 0 })

-- the paths of a contour over a view: a line for each loop
abbrev pub path_of : Window → Contour → List ℕ
path_of w c = flat_map (λ loop. path_line w (map (vertex_at c.vertices) loop)) (loops_of c)
