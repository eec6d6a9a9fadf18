use Rattle.std.proofs.Common.{◌≡◌, ℕ, ◌<◌, length}
use Rattle.std.specs.Prelude.{get_or}
use Rattle.tetra_mesh.specs.Edges.{no_edge}
use Rattle.tetra_mesh.specs.Numbering.{number_in}
use Rattle.tetra_mesh.specs.Shapes.{moved}
use Rattle.tetra_mesh.proofs.faces.find_numbers.Given as goal

abbrev pub invariant-loop-i : goal.invariant-loop-i
invariant-loop-i l = record {
  long : length l.numbers ≡ length l.fn.numbers;
  each : (k : ℕ) → k < l.i → get_or l.numbers k 0 ≡ number_in l.n l.slots (moved l.cell (get_or l.edges k no_edge));
}
