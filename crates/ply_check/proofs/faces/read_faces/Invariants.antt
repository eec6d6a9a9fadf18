-- The lines so far said the faces, and so many are left.
use Rattle.std.proofs.Common.{[]}
use Rattle.ply_check.specs.Answers.{faces_answer}
use Rattle.ply_check.specs.Passes.{Passes}
use Rattle.ply_check.proofs.faces.read_faces.Given as goal

abbrev pub invariant-loop-left : goal.invariant-loop-left
invariant-loop-left l =
    Passes (faces_answer l.header.vertices l.header.faces []) (faces_answer l.header.vertices l.left l.faces.items) l.initial.lines l.lines

abbrev pub decreases-loop-left : goal.decreases-loop-left
decreases-loop-left l = l.left
