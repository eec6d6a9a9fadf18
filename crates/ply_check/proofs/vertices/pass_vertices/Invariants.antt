-- The lines so far were passed, and so many vertices are left.
use Rattle.ply_check.specs.Answers.{vertices_answer}
use Rattle.ply_check.specs.Passes.{Passes}
use Rattle.ply_check.proofs.vertices.pass_vertices.Given as goal

abbrev pub invariant-loop-left : goal.invariant-loop-left
invariant-loop-left l =
    Passes (vertices_answer l.header l.header.vertices) (vertices_answer l.header l.left) l.initial.lines l.lines

abbrev pub decreases-loop-left : goal.decreases-loop-left
decreases-loop-left l = l.left
