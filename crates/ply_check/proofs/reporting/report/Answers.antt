-- What is read is what the report is of, and what is refused is reported as refused.
use Rattle.std.proofs.Common.{◌≡◌, ◌≢◌, Result, Ok, Err, IfErr, List, ℕ, ap, sym, subst}
use Rattle.std.specs.Prelude.{IsErrAnd}
use Rattle.ply_check.specs.declared.ply_fault.PlyFault.{PlyFault}
use Rattle.ply_check.specs.declared.ply_reason.PlyReason.TheVariants.{NoMemory}
use Rattle.ply_check.specs.PlyFiles.{PlyRefuses, ply_lines}
use Rattle.ply_check.specs.Reports.{answer_line, reported}
use Rattle.ply_check.proofs.Answered.{refuses_answered}
use Rattle.ply_check.proofs.Bounds.{files_small}
use Rattle.ply_check.proofs.reporting.report.Goals as goal

refused : {A : Type 0} (bytes : List ℕ) (fault : PlyFault) (r : Result A PlyFault) → (fault.reason ≢ NoMemory → PlyRefuses bytes fault.line fault.reason) → IsErrAnd r (λ e. e ≡ fault) → IfErr r (λ e. e.reason ≢ NoMemory → reported bytes ≡ Err e)
refused bytes fault (Ok line) refuses is = absurd is
refused bytes fault (Err e) refuses is =
    subst (λ f. f.reason ≢ NoMemory → reported bytes ≡ Err f) (sym is)
    (λ some. ap answer_line (refuses_answered (ply_lines bytes) fault.line fault.reason (refuses some)))

pub returns-in_err-file-clause-fault : goal.returns-in_err-file-clause-fault
returns-in_err-file-clause-fault c =
    refused c.args.bytes.now c.in_err-file.field-0.0 c.from_residual.result c.in_err-file.ensures.0 c.from_residual.ensures.1

pub mesh_line-requires : goal.mesh_line-requires
mesh_line-requires c =
    files_small c.args.bytes.now c.in_ok-file.file.count c.in_ok-file.file.faces.items c.in_ok-file.ensures
