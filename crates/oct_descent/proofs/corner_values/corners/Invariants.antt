use Rattle.std.proofs.Common.{◌≡◌, ◌<◌, ℕ, get_or, length}
use Rattle.std.specs.Prelude.{Some, pos}
use Rattle.kuhn_cells.specs.Triangles.{further, point}
use Rattle.oct_descent.specs.Tables.{known_at}
use Rattle.oct_descent.proofs.corner_values.corners.Given as goal

abbrev pub invariant-loop-c : goal.invariant-loop-c
invariant-loop-c l = record {
  all : length l.found ≡ 8;
  each : (k : ℕ) → k < l.c → known_at l.values (further (point l.x l.y l.z) k) ≡ Some (get_or l.found k (pos 0));
}
