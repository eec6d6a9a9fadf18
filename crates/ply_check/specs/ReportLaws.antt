-- What always holds of reports.
use Rattle.std.specs.Prelude.{◌≡◌, ℕ, List, Ok, Err, length}
use Rattle.ply_check.specs.declared.finding.Finding.{Finding}
use Rattle.ply_check.specs.Corners.{triples}
use Rattle.ply_check.specs.Verdicts.{Verdict}
use Rattle.ply_check.specs.declared.ply_reason.PlyReason.{PlyReason}
use Rattle.ply_check.specs.Answers.{fault_at}
use Rattle.ply_check.specs.PlyFiles.{PlyReads, PlyRefuses}
use Rattle.ply_check.specs.Reports.{finding_line, reported}

-- the report on a file that says a mesh is the line of the verdict on its faces
abbrev pub VerdictsAreReported : Type 0
VerdictsAreReported =
    (bytes : List ℕ) (count : ℕ) (faces : List (List ℕ)) (finding : Finding)
    → PlyReads bytes count faces → Verdict count (triples faces) finding
    → reported bytes ≡ Ok (finding_line finding count (length faces))

-- a file that is refused is reported as refused on that line, for that reason
abbrev pub RefusalsAreReported : Type 0
RefusalsAreReported =
    (bytes : List ℕ) (line : ℕ) (reason : PlyReason) → PlyRefuses bytes line reason
    → reported bytes ≡ Err (fault_at line reason)
