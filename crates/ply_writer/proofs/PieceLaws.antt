-- Lines of texts: how long they are, and how they go together.
use Rattle.std.proofs.Common.{◌≡◌, ℕ, ◌<◌, ◌≤◌, List, [], ◌∷◌, ◌++◌, ◌∙◌, length, take, drop, ap, sym, arith, append_assoc, length-append}
use Rattle.std.specs.List.{flat_map}
use Rattle.std.specs.Prelude.{codes, decimal}
use Rattle.std.proofs.lemmas.Grind.{flat_map-append}
use Rattle.std.proofs.lemmas.List.{take-append-drop}
use Rattle.std.proofs.lemmas.List.Concat.{flat_map-cons}
use Rattle.fixed_ops.specs.NumberTexts.{number_text}
use Rattle.kuhn_cells.specs.Faces.{Face}
use Rattle.tetra_mesh.specs.declared.vertex.Vertex.{Vertex}
use Rattle.tetra_mesh.specs.Places.{vertex_place}
use Rattle.view_places.specs.declared.lattice.Axis.TheVariants.{X, Y, Z}
use Rattle.view_places.specs.Window.{Window}
use Rattle.ply_writer.specs.Ply.{face_line, vertex_line}

-- what ends in a line feed has a byte at least
ended : (text : List ℕ) → 0 < length (text ++ 10 ∷ [])
ended text = omega (arith, length-append text (10 ∷ []))

-- the line of a vertex has one
vertex_line_some : (w : Window) (v : Vertex) → 0 < length (vertex_line w v)
vertex_line_some w = (λ v. ended (number_text (vertex_place w v X) ++ codes " " ++ number_text (vertex_place w v Y) ++ codes " " ++ number_text (vertex_place w v Z)))

-- and so has that of a face
face_line_some : (f : Face) → 0 < length (face_line f)
face_line_some f = ended (codes "3 " ++ decimal f.a ++ codes " " ++ decimal f.b ++ codes " " ++ decimal f.c)

-- so there are at least as many bytes as things
lines_long : {X : Type 0} (line : X → List ℕ) → ((x : X) → 0 < length (line x)) → (xs : List X) → length xs ≤ length (flat_map line xs)
lines_long line some [] = omega arith
lines_long line some (x ∷ xs) = rw (flat_map-cons line x xs) (omega (arith, some x, length-append (line x) (flat_map line xs), lines_long line some xs))

pub vertex_lines_long : (w : Window) (vertices : List Vertex) → length vertices ≤ length (flat_map (vertex_line w) vertices)
vertex_lines_long w = lines_long (vertex_line w) (vertex_line_some w)

pub face_lines_long : (faces : List Face) → length faces ≤ length (flat_map face_line faces)
face_lines_long = lines_long face_line face_line_some

-- the lines of the first things, and then those of the others, are those of all
pub lines_batch : {X : Type 0} (line : X → List ℕ) (before : List ℕ) (n : ℕ) (xs : List X)
    → (before ++ flat_map line (take n xs)) ++ flat_map line (drop n xs) ≡ before ++ flat_map line xs
lines_batch line before n xs =
    append_assoc before (flat_map line (take n xs)) (flat_map line (drop n xs))
    ∙ ap (λ l. before ++ l) (sym (flat_map-append line (take n xs) (drop n xs)) ∙ ap (λ (all : List _). flat_map line all) (take-append-drop n xs))
