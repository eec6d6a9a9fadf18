use Rattle.std.proofs.Common.{◌≡◌, ◌≤◌, ◌++◌, ◌-◌, length}
use Rattle.std.specs.Prelude.{drop}
use Rattle.tetra_mesh.specs.Numbering.{HasReached, IsNumbered, all_faces}
use Rattle.tetra_mesh.specs.Sides.{OfCells}
use Rattle.tetra_mesh.proofs.face_walk.push_some.Given as goal

abbrev pub invariant-loop-at : goal.invariant-loop-at
invariant-loop-at l = record {
  width : l.numbering.n ≡ l.fn.numbering.n;
  least : l.made ≤ l.at;
  within : l.at ≤ length l.sided;
  fresh : l.at ≡ l.made → length l.faces.items ≡ 0;
  numbered : OfCells l.fn.numbering.n l.sided (λ cells. IsNumbered cells l.fn.numbering.n l.numbering);
  reached : OfCells l.fn.numbering.n l.sided (λ cells. HasReached cells l.numbering.ahead l.at);
  faces : OfCells l.fn.numbering.n l.sided (λ cells. all_faces cells (drop l.made cells) ≡ l.faces.items ++ all_faces cells (drop l.at cells));
}

abbrev pub decreases-loop-at : goal.decreases-loop-at
decreases-loop-at l = length l.sided - l.at
