-- What is found is what is worked out.
use Rattle.std.proofs.Common.{◌≡◌, length, ap, subst, ◌∙◌}
use Rattle.std.proofs.lemmas.Result.{IfOk-weaker}
use Rattle.ply_check.specs.Corners.{triples}
use Rattle.ply_check.specs.Findings.{finding_of}
use Rattle.ply_check.specs.Verdicts.{Verdict}
use Rattle.ply_check.specs.Reports.{finding_line, mesh_line}
use Rattle.ply_check.proofs.VerdictLaws.{one_finding_is_right}
use Rattle.ply_check.proofs.Worked.{worked_out}
use Rattle.ply_check.proofs.reporting.mesh_line.Goals as goal

pub returns : goal.returns
returns c =
    let count = c.args.file.now.count in
    let faces = c.args.file.now.faces.items in
    let right = subst (λ l. Verdict count (triples l) c.in_ok-finding.finding) c.deref.ensures.value c.in_ok-finding.ensures in
    let same = (one_finding_is_right count (triples faces)).unique c.in_ok-finding.finding (finding_of count (triples faces)) right (worked_out count (triples faces)) in
    let many : c.len.result ≡ length faces = c.len.ensures ∙ c.args.file.now.faces.ok.0 in
    IfOk-weaker c.finding_line.result (λ line. line.items ≡ finding_line c.in_ok-finding.finding count c.len.result) (λ line. line.items ≡ mesh_line (count, faces))
    (λ line told. told ∙ (ap (λ found. finding_line found count c.len.result) same ∙ ap (λ n. finding_line (finding_of count (triples faces)) count n) many))
    c.finding_line.ensures
