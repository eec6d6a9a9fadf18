-- What is said of meshes and of files, written out by hand.
use Rattle.std.proofs.Common.{◌≡◌, [], ◌∷◌, Ok, Err, refl}
use Rattle.std.specs.Prelude.{codes}
use Rattle.std.specs.Fmt.{digits}
use Rattle.ply_check.specs.declared.finding.Finding.TheVariants.{Closed, Edge, Face, Vertex}
use Rattle.ply_check.specs.declared.ply_reason.PlyReason.TheVariants.{NotPly}
use Rattle.ply_check.specs.Answers.{fault_at}
use Rattle.ply_check.specs.Reports.{answer_line, finding_line, mesh_line, reported}

-- of ten vertices and sixteen faces
nothing_is_found : finding_line Closed 10 16 ≡ codes "closed manifold 10 16\n"
unfolding digits
nothing_is_found = refl

face_is_found : finding_line (Face 3) 10 16 ≡ codes "face 3\n"
unfolding digits
face_is_found = refl

edge_is_found : finding_line (Edge 9 2) 10 16 ≡ codes "edge 9 2\n"
unfolding digits
edge_is_found = refl

vertex_is_found : finding_line (Vertex 7) 10 16 ≡ codes "vertex 7\n"
unfolding digits
vertex_is_found = refl

-- a tetrahedron is closed, with the vertices before the faces
tetrahedron : mesh_line (4, (0 ∷ 2 ∷ 1 ∷ []) ∷ (0 ∷ 1 ∷ 3 ∷ []) ∷ (1 ∷ 2 ∷ 3 ∷ []) ∷ (2 ∷ 0 ∷ 3 ∷ []) ∷ [])
    ≡ codes "closed manifold 4 4\n"
unfolding digits
tetrahedron = refl

-- a fifth vertex has no face
vertex_without_a_face : mesh_line (5, (0 ∷ 2 ∷ 1 ∷ []) ∷ (0 ∷ 1 ∷ 3 ∷ []) ∷ (1 ∷ 2 ∷ 3 ∷ []) ∷ (2 ∷ 0 ∷ 3 ∷ []) ∷ [])
    ≡ codes "vertex 4\n"
unfolding digits
vertex_without_a_face = refl

-- the edge from 2 to 0 has no face on its other side, and the face begins with the edge from 0 to 1
lone_face : reported (codes "ply\nformat ascii 1.0\nelement vertex 3\nproperty int x\nelement face 1\nproperty list uchar int vertex_indices\nend_header\n0\n0\n0\n3 0 1 2\n")
    ≡ Ok (codes "edge 0 1\n")
unfolding digits
lone_face = refl

refused_file : reported (codes "stl\n") ≡ Err (fault_at 1 NotPly)
refused_file = refl

refusal_is_handed_on : answer_line (Err (fault_at 3 NotPly)) ≡ Err (fault_at 3 NotPly)
refusal_is_handed_on = refl
