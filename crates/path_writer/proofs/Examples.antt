-- Paths written out by hand.
use Rattle.std.proofs.Common.{◌≡◌, ℕ, pos, negsuc, [], ◌∷◌, refl, arith}
use Rattle.std.specs.Prelude.{codes}
use Rattle.std.specs.Fmt.{digits}
use Rattle.fixed_ops.specs.NumberTexts.{size_text}
use Rattle.plane_loops.specs.Contours.{Contour}
use Rattle.plane_loops.specs.declared.plane_vertex.PlaneVertex.{PlaneVertex}
use Rattle.view_places.specs.Window.{Window}
use Rattle.path_writer.specs.Apart.{raw_of}
use Rattle.path_writer.specs.Paths.{in_space, path_of}
use Rattle.path_writer.specs.Written.{ArePiecesTo}

abbrev vertex : ℕ → ℕ → ℕ → ℕ → PlaneVertex
vertex x y dir t = record { x = x; y = y; dir = dir; t = t }

-- from -1 to 1 along each axis, with two cells
abbrev window : Window
window = record {
  x0 = negsuc 4294967295;
  x1 = pos 4294967296;
  y0 = negsuc 4294967295;
  y1 = pos 4294967296;
  z0 = negsuc 4294967295;
  z1 = pos 4294967296;
  z = pos 0;
  w = 512;
  h = 512;
  d = 255;
  nx = 2;
  ny = 2;
  nz = 2;
}

-- round the middle point, of which all around is outside: the vertices lie on its six edges
abbrev hexagon : Contour
hexagon = record {
  vertices = vertex 0 0 3 1 ∷ vertex 1 0 2 1 ∷ vertex 0 1 1 1 ∷ vertex 1 1 1 65535 ∷ vertex 1 1 2 65535 ∷ vertex 1 1 3 65535 ∷ [];
  order = 0 ∷ 1 ∷ 3 ∷ 5 ∷ 4 ∷ 2 ∷ [];
  ends = 6 ∷ [];
}

-- a vertex of a contour is that of the lowest layer of a mesh
in_lowest_layer : in_space (vertex 5 6 3 7) ≡ record { key = record { x = 5; y = 6; z = 0; dir = 3 }; t = 7 }
in_lowest_layer = refl

one_loop : path_of window hexagon ≡ codes "M -0.9999847412 -0.9999847412 L 0.0000000000 -0.9999847412 L 0.9999847412 0.0000000000 L 0.9999847412 0.9999847412 L 0.0000000000 0.9999847412 L -0.9999847412 0.0000000000 Z\n"
unfolding digits size_text
one_loop = refl

nothing : path_of window (record { vertices = []; order = []; ends = [] }) ≡ []
nothing = refl

-- y is that of the view, and not turned over; each loop has a line of its own
two_loops : path_of window (record {
  vertices = vertex 0 0 1 32768 ∷ vertex 1 0 2 32768 ∷ vertex 0 0 3 32768 ∷ [];
  order = 0 ∷ 1 ∷ 2 ∷ 1 ∷ [];
  ends = 3 ∷ 4 ∷ [];
}) ≡ codes "M -0.5000000000 -1.0000000000 L 0.0000000000 -0.5000000000 L -0.5000000000 -0.5000000000 Z\nM 0.0000000000 -0.5000000000 Z\n"
unfolding digits size_text
two_loops = refl

no_loop_is_empty : ArePiecesTo 0 3 (3 ∷ 3 ∷ []) → ⊥
no_loop_is_empty are = omega (arith, are.1.0)

no_number_is_left : ArePiecesTo 0 4 (3 ∷ []) → ⊥
no_number_is_left are = omega (arith, are.1)

-- where cells have less room than a contour asks for, two vertices may lie in one place
abbrev narrow : Window
narrow = record window { x0 = pos 0; x1 = pos 2; y0 = pos 0; y1 = pos 2 }

one_place : raw_of narrow (vertex 0 0 1 1) ≡ raw_of narrow (vertex 0 0 2 1)
one_place = refl

two_places : raw_of window (vertex 0 0 1 1) ≡ record { x = negsuc 4294901759; y = negsuc 4294967295 }
two_places = refl
