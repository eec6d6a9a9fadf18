-- Each line says a face, or is refused.
use Rattle.std.proofs.Common.{◌≡◌, ◌-◌, [], ◌∷◌, ◌++◌, ap, sym, ◌∙◌}
use Rattle.clause_reader.specs.NumberedLines.{line_seen}
use Rattle.ply_check.specs.Answers.{faces_answer}
use Rattle.ply_check.proofs.Passing.{passes_all, passes_more, faces_end, faces_bad, faces_next, wants_face, not_failed}
use Rattle.ply_check.proofs.faces.read_faces.Goals as goal

pub returns-in_default-clause-fault : goal.returns-in_default-clause-fault
returns-in_default-clause-fault c = λ h.
    let count = c.args.header.vertices in
    let now = faces_answer count c.loop-left.left c.loop-left.faces.items in
    rw c.too_short.ensures
    (passes_all (faces_answer count c.args.header.faces []) now c.args.lines.now c.loop-left.lines c.loop-left.invariant
    ∙ ap now c.in_default.ensures.next.0 ∙ faces_end count c.loop-left.left c.loop-left.faces.items c.loop-left-test.true)

pub returns-in-Err-clause-fault : goal.returns-in-Err-clause-fault
returns-in-Err-clause-fault c = λ h.
    let count = c.args.header.vertices in
    let now = faces_answer count c.loop-left.left c.loop-left.faces.items in
    rw c.fault.ensures
    (passes_all (faces_answer count c.args.header.faces []) now c.args.lines.now c.loop-left.lines c.loop-left.invariant
    ∙ ap now c.in-Some.ensures.next
    ∙ faces_bad count c.loop-left.left c.loop-left.faces.items (line_seen c.in-Some.line) c.next.new.self c.in-Err.reason c.loop-left-test.true (sym c.in-Err.ensures))

pub returns-then-is_err-clause-memory : goal.returns-then-is_err-clause-memory
returns-then-is_err-clause-memory c = λ h.
    let count = c.args.header.vertices in
    rw c.fault-then-is_err.ensures
    (wants_face (faces_answer count c.args.header.faces []) count c.loop-left.left c.loop-left.faces.items c.args.lines.now c.loop-left.lines c.next.new.self
    (line_seen c.in-Some.line) c.in-Ok.face c.loop-left.invariant c.in-Some.ensures.next c.loop-left-test.true (sym c.in-Ok.ensures))

pub loop-left-preserved : goal.loop-left-preserved
loop-left-preserved c =
    let count = c.args.header.vertices in
    let left = c.loop-left.left in
    let read = c.loop-left.faces.items in
    let line = line_seen c.in-Some.line in
    let pushed : c.push_face.new.faces.items ≡ read ++ c.in-Ok.face ∷ [] =
    not_failed c.push_face.result (c.push_face.new.faces.items ≡ read ++ c.in-Ok.face ∷ []) (sym c.is_err.ensures.value ∙ c.if-is_err.false) c.push_face.ensures in
    rw pushed
    (passes_more (faces_answer count c.args.header.faces []) (faces_answer count left read) (faces_answer count (left - 1) (read ++ c.in-Ok.face ∷ []))
    c.args.lines.now c.loop-left.lines c.next.new.self line c.loop-left.invariant c.in-Some.ensures.next
    (faces_next count left read line c.in-Ok.face c.loop-left-test.true (sym c.in-Ok.ensures)))
