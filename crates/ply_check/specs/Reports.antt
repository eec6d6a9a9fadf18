-- The line that says what is found of the mesh in a file.
use Rattle.std.specs.Prelude.{ℕ, List, ◌++◌, Result, Ok, Err, codes, decimal, length}
use Rattle.ply_check.specs.declared.finding.Finding.{Finding}
use Rattle.ply_check.specs.declared.finding.Finding.TheVariants.{Closed, Edge, Face, Vertex}
use Rattle.ply_check.specs.Corners.{triples}
use Rattle.ply_check.specs.Findings.{finding_of}
use Rattle.ply_check.specs.declared.ply_fault.PlyFault.{PlyFault}
use Rattle.ply_check.specs.Answers.{Answer, ply_answer}
use Rattle.ply_check.specs.PlyFiles.{ply_lines}

-- the line of what is found of so many faces on so many vertices
abbrev pub finding_line : Finding → ℕ → ℕ → List ℕ
finding_line Closed count faces =
    codes "closed manifold " ++ (decimal count ++ (codes " " ++ (decimal faces ++ codes "\n")))
finding_line (Face face) count faces = codes "face " ++ (decimal face ++ codes "\n")
finding_line (Edge u v) count faces =
    codes "edge " ++ (decimal u ++ (codes " " ++ (decimal v ++ codes "\n")))
finding_line (Vertex vertex) count faces = codes "vertex " ++ (decimal vertex ++ codes "\n")

-- the line of a mesh: how many vertices there are, and the faces
abbrev pub mesh_line : ℕ × List (List ℕ) → List ℕ
mesh_line mesh = finding_line (finding_of mesh.0 (triples mesh.1)) mesh.0 (length mesh.1)

-- the line of a mesh that is read, or why none is
abbrev pub answer_line : Answer → Result (List ℕ) PlyFault
answer_line (Ok mesh) = Ok (mesh_line mesh)
answer_line (Err fault) = Err fault

-- the line of the mesh that a file says, or why it is refused
abbrev pub reported : List ℕ → Result (List ℕ) PlyFault
reported bytes = answer_line (ply_answer (ply_lines bytes))
