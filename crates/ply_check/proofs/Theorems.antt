-- Theorems for the crates above: what a file says, and why one is refused, is worked out by its
-- lines, and the report is the line of that.
use Rattle.std.proofs.Common.{Ok, ap, length, ◌∙◌}
use Rattle.ply_check.specs.Corners.{triples}
use Rattle.ply_check.specs.Findings.{finding_of}
use Rattle.ply_check.specs.PlyFiles.{ply_lines}
use Rattle.ply_check.specs.ReadingLaws.{ReadingIsWorkedOut, RefusalIsWorkedOut}
use Rattle.ply_check.specs.ReportLaws.{RefusalsAreReported, VerdictsAreReported}
use Rattle.ply_check.specs.Reports.{answer_line, finding_line}
use Rattle.ply_check.proofs.Answered.{reads_answered, refuses_answered}
use Rattle.ply_check.proofs.VerdictLaws.{one_finding_is_right}
use Rattle.ply_check.proofs.Worked.{worked_out}

-- a file that is read is worked out to what it says
pub reading_is_worked_out : ReadingIsWorkedOut
reading_is_worked_out bytes count faces is = reads_answered (ply_lines bytes) count faces is

-- and one that is refused to its line and reason
pub refusal_is_worked_out : RefusalIsWorkedOut
refusal_is_worked_out bytes line reason is = refuses_answered (ply_lines bytes) line reason is

-- The report on a file that says a mesh is the line of the verdict on its faces.
pub verdicts_are_reported : VerdictsAreReported
verdicts_are_reported bytes count faces finding reads right =
    let same = (one_finding_is_right count (triples faces)).unique (finding_of count (triples faces)) finding (worked_out count (triples faces)) right in
    ap answer_line (reading_is_worked_out bytes count faces reads)
    ∙ ap (λ found. Ok (finding_line found count (length faces))) same

-- That on any other file is the line on which it is refused, and why.
pub refusals_are_reported : RefusalsAreReported
refusals_are_reported bytes line reason refuses = ap answer_line (refusal_is_worked_out bytes line reason refuses)
