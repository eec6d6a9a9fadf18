-- Each line is that of a vertex, or is refused.
use Rattle.std.proofs.Common.{◌-◌, ap, sym, ◌∙◌}
use Rattle.clause_reader.specs.NumberedLines.{line_seen}
use Rattle.ply_check.specs.Answers.{vertices_answer}
use Rattle.ply_check.proofs.Passing.{passes_all, passes_more, vertices_end, vertices_bad, vertices_next}
use Rattle.ply_check.proofs.vertices.pass_vertices.Goals as goal

pub returns-in_default-clause-passed : goal.returns-in_default-clause-passed
returns-in_default-clause-passed c =
    let h = c.args.header in
    let left = c.loop-left.left in
    rw c.too_short.ensures
    (passes_all (vertices_answer h h.vertices) (vertices_answer h left) c.args.lines.now c.loop-left.lines c.loop-left.invariant
    ∙ ap (vertices_answer h left) c.in_default.ensures.next.0 ∙ vertices_end h left c.loop-left-test.true)

pub returns-then-not-has_width-clause-passed : goal.returns-then-not-has_width-clause-passed
returns-then-not-has_width-clause-passed c =
    let h = c.args.header in
    let left = c.loop-left.left in
    rw c.fault.ensures
    (passes_all (vertices_answer h h.vertices) (vertices_answer h left) c.args.lines.now c.loop-left.lines c.loop-left.invariant
    ∙ ap (vertices_answer h left) c.in-Some.ensures.next
    ∙ vertices_bad h left (line_seen c.in-Some.line) c.next.new.self c.loop-left-test.true (sym c.has_width.ensures ∙ c.if-not-has_width.true))

pub loop-left-preserved : goal.loop-left-preserved
loop-left-preserved c =
    let h = c.args.header in
    let left = c.loop-left.left in
    passes_more (vertices_answer h h.vertices) (vertices_answer h left) (vertices_answer h (left - 1)) c.args.lines.now c.loop-left.lines c.next.new.self (line_seen c.in-Some.line)
    c.loop-left.invariant c.in-Some.ensures.next
    (vertices_next h left (line_seen c.in-Some.line) c.loop-left-test.true (sym c.has_width.ensures ∙ c.if-not-has_width.false))
