-- Memory is wanted for a face behind what was passed.
use Rattle.std.proofs.Common.{[]}
use Rattle.std.proofs.lemmas.Result.{err_from_is_err_and}
use Rattle.ply_check.specs.declared.stage.Stage.TheVariants.{Opened}
use Rattle.ply_check.specs.Answers.{faces_answer, header_answer, ply_answer, vertices_answer}
use Rattle.ply_check.proofs.Passing.{passes_then, wants_then}
use Rattle.ply_check.proofs.reader.read_lines.Goals as goal

pub returns-in_err-faces-clause-memory : goal.returns-in_err-faces-clause-memory
returns-in_err-faces-clause-memory c =
    let p = err_from_is_err_and c.from_residual-in_err-faces.result c.from_residual-in_err-faces.ensures.1 in
    let h = c.in_ok-header.header in
    let opened = header_answer Opened in
    let pointed = vertices_answer h h.vertices in
    let faced = faces_answer h.vertices h.faces [] in
    let first = c.args.lines.now in
    let behind = passes_then opened pointed faced c.pass_first.new.lines c.read_header.new.lines c.pass_vertices.new.lines c.in_ok-header.ensures.passed c.in_ok-pass_vertices.ensures.passed in
    let passed = passes_then ply_answer opened faced first c.pass_first.new.lines c.pass_vertices.new.lines c.in_ok-pass_first.ensures.passed behind in
    rw (p.1, p.2) (λ h. wants_then ply_answer faced first c.pass_vertices.new.lines c.in_err-faces.field-0.0.line passed (c.in_err-faces.ensures.memory h))
