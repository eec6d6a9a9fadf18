-- Texts of small meshes, written and read by computation alone.
use Rattle.std.proofs.Common.{◌≡◌, ℕ, pos, negsuc, [], ◌∷◌, Ok, Err, refl}
use Rattle.std.specs.Fmt.{digits}
use Rattle.fixed_ops.specs.NumberTexts.{size_text}
use Rattle.ply_check.specs.Answers.{fault_at, ply_answer}
use Rattle.ply_check.specs.declared.ply_reason.PlyReason.TheVariants.{BadIndex}
use Rattle.ply_check.specs.PlyFiles.{ply_lines}
use Rattle.ply_writer.specs.Ply.{ply_of}
use Rattle.tetra_mesh.specs.declared.vertex.Vertex.{Vertex}
use Rattle.view_places.specs.Window.{Window}

-- one cell along each axis from -1 to 1
abbrev window : Window
window = record {
  x0 = negsuc 4294967295;
  x1 = pos 4294967296;
  y0 = negsuc 4294967295;
  y1 = pos 4294967296;
  z0 = negsuc 4294967295;
  z1 = pos 4294967296;
  z = pos 0;
  w = 1;
  h = 1;
  d = 1;
  nx = 1;
  ny = 1;
  nz = 1;
}

abbrev at : ℕ → ℕ → ℕ → ℕ → ℕ → Vertex
at x y z dir t = record { key = record { x = x; y = y; z = z; dir = dir }; t = t }

two_faces : ply_answer (ply_lines (ply_of window (at 0 0 0 1 16384 ∷ at 0 0 0 2 32768 ∷ at 0 0 0 4 8192 ∷ [])
    (record { a = 2; b = 0; c = 1 } ∷ record { a = 0; b = 2; c = 1 } ∷ []))) ≡ Ok (3, (2 ∷ 0 ∷ 1 ∷ []) ∷ (0 ∷ 2 ∷ 1 ∷ []) ∷ [])
unfolding digits size_text
two_faces = refl

no_face : ply_answer (ply_lines (ply_of window [] [])) ≡ Ok (0, [])
unfolding digits
no_face = refl

-- a face beside the vertices is written, but not read
face_of_none : ply_answer (ply_lines (ply_of window (at 0 0 0 1 16384 ∷ []) (record { a = 0; b = 1; c = 0 } ∷ []))) ≡ Err (fault_at 11 BadIndex)
unfolding digits size_text
face_of_none = refl
