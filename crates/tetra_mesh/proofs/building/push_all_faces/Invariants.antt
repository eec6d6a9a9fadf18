use Rattle.std.proofs.Common.{◌≡◌, ◌++◌, ◌-◌, length}
use Rattle.std.specs.Prelude.{drop}
use Rattle.tetra_mesh.specs.Numbering.{all_faces}
use Rattle.tetra_mesh.specs.Sides.{OfCells}
use Rattle.tetra_mesh.proofs.building.push_all_faces.Given as goal

abbrev pub invariant-loop-batch : goal.invariant-loop-batch
invariant-loop-batch l = record {
  n : l.walk.n ≡ l.fn.walk.n;
  sided : l.walk.sided ≡ l.fn.walk.sided;
  faces : OfCells l.fn.walk.n l.fn.walk.sided (λ cells. l.fn.faces.items ++ all_faces cells cells ≡ l.faces.items ++ all_faces cells (drop l.walk.made cells));
}

abbrev pub decreases-loop-batch : goal.decreases-loop-batch
decreases-loop-batch l = length l.walk.sided - l.walk.made
