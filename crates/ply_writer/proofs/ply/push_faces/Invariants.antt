-- The lines so far, and those of what is left, are all.
use Rattle.std.proofs.Common.{◌≡◌, ◌++◌, length}
use Rattle.std.specs.List.{flat_map}
use Rattle.ply_writer.specs.Ply.{face_line}
use Rattle.ply_writer.proofs.ply.push_faces.Given as goal

abbrev pub invariant-loop-rest : goal.invariant-loop-rest
invariant-loop-rest l = l.text.items ++ flat_map face_line l.rest ≡ l.fn.text.items ++ flat_map face_line l.faces

abbrev pub decreases-loop-rest : goal.decreases-loop-rest
decreases-loop-rest l = length l.rest
