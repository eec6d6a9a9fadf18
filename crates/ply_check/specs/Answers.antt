-- What is answered of lines, from each place in a file on.
use Rattle.std.specs.Prelude.{ℕ, ◌+◌, ◌==◌, suc, zero, List, [], ◌∷◌, ◌++◌, length, Option, Some, None, Result, Ok, Err, if◌then◌else◌}
use Rattle.clause_reader.specs.Reading.{on_result}
use Rattle.ply_check.specs.declared.header.Header.{Header}
use Rattle.ply_check.specs.declared.header_line.HeaderLine.{HeaderLine}
use Rattle.ply_check.specs.declared.header_line.HeaderLine.TheVariants.{Format, Vertices, Property, Faces, FaceList, Comment, End}
use Rattle.ply_check.specs.declared.ply_fault.PlyFault.{PlyFault}
use Rattle.ply_check.specs.declared.ply_reason.PlyReason.{PlyReason}
use Rattle.ply_check.specs.declared.ply_reason.PlyReason.TheVariants.{NotPly, BadHeader, BadVertex, TooShort, TooLong}
use Rattle.ply_check.specs.declared.stage.Stage.{Stage}
use Rattle.ply_check.specs.declared.stage.Stage.TheVariants.{Opened, Formatted, Counted, Measured, Listed, Described}
use Rattle.ply_check.specs.declared.stage.Step.{Step}
use Rattle.ply_check.specs.declared.stage.Step.TheVariants.{On, Out}
use Rattle.ply_check.specs.FaceLines.{said_face}
use Rattle.ply_check.specs.HeaderLines.{header_line, is_ply}

-- a mesh as a file says it: how many vertices there are, and the faces
abbrev pub Answer : Type 0
Answer = Result (ℕ × List (List ℕ)) PlyFault

abbrev pub fault_at : ℕ → PlyReason → PlyFault
fault_at line reason = record { line = line; reason = reason }

abbrev pub too_short : PlyFault
too_short = fault_at 0 TooShort

-- behind the last face
abbrev pub end_answer : ℕ → List (List ℕ) → List (ℕ × List (List ℕ)) → Answer
end_answer count faces [] = Ok (count, faces)
end_answer count faces (line ∷ lines) = Err (fault_at line.0 TooLong)

-- where so many faces are left after these
abbrev pub faces_answer : ℕ → ℕ → List (List ℕ) → List (ℕ × List (List ℕ)) → Answer
faces_answer count zero faces lines = end_answer count faces lines
faces_answer count (suc left) faces [] = Err too_short
faces_answer count (suc left) faces (line ∷ lines) =
    on_result (said_face count line.1) (λ face. faces_answer count left (faces ++ face ∷ []) lines)
    (λ reason. Err (fault_at line.0 reason))

-- where so many vertices are left
abbrev pub vertices_answer : Header → ℕ → List (ℕ × List (List ℕ)) → Answer
vertices_answer header zero lines = faces_answer header.vertices header.faces [] lines
vertices_answer header (suc left) [] = Err too_short
vertices_answer header (suc left) (line ∷ lines) =
    if length line.1 == header.width then vertices_answer header left lines
    else Err (fault_at line.0 BadVertex)

-- how many properties of a vertex have been read
abbrev pub width_at : Stage → ℕ
width_at (Measured vertices width) = width
width_at stage = 0

-- where a line of a header leads that says this, and none where it may not stand there
abbrev pub step_after : Stage → HeaderLine → Option Step
step_after stage Comment = Some (On stage)
step_after Opened Format = Some (On Formatted)
step_after Formatted (Vertices vertices) = Some (On (Counted vertices))
step_after (Counted vertices) Property = Some (On (Measured vertices 1))
step_after (Measured vertices width) Property = Some (On (Measured vertices (width + 1)))
step_after (Measured vertices width) (Faces faces) =
    Some (On (Listed (record { vertices = vertices; width = width; faces = faces })))
step_after (Listed header) FaceList = Some (On (Described header))
step_after (Described header) End = Some (Out header)
step_after stage line = None

-- an answer by where a line leads
abbrev pub on_step : Option Step → (Stage → Answer) → (Header → Answer) → PlyFault → Answer
on_step None further behind fault = Err fault
on_step (Some (On stage)) further behind fault = further stage
on_step (Some (Out header)) further behind fault = behind header

-- within a header
abbrev pub header_answer : Stage → List (ℕ × List (List ℕ)) → Answer
header_answer stage [] = Err too_short
header_answer stage (line ∷ lines) =
    on_step (step_after stage (header_line line.1)) (λ next. header_answer next lines)
    (λ header. vertices_answer header header.vertices lines) (fault_at line.0 BadHeader)

-- of a whole file, by its lines with a token
abbrev pub ply_answer : List (ℕ × List (List ℕ)) → Answer
ply_answer [] = Err (fault_at 0 NotPly)
ply_answer (line ∷ lines) =
    if is_ply line.1 then header_answer Opened lines else Err (fault_at line.0 NotPly)
