use Rattle.std.proofs.Common.{ℕ, [], ◌<◌, get_or}
use Rattle.mesh_laws.specs.Closed.{IsTriangle}
use Rattle.ply_check.specs.Corners.{triple_of}
use Rattle.ply_check.proofs.checking.first_degenerate.Given as goal

abbrev pub invariant-loop-number : goal.invariant-loop-number
invariant-loop-number l = (k : ℕ) → k < l.number → IsTriangle (triple_of (get_or l.faces k []))
