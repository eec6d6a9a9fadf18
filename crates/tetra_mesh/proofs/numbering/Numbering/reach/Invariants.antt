use Rattle.std.proofs.Common.{◌≡◌, length, ◌-◌}
use Rattle.tetra_mesh.specs.Numbering.{IsNumbered, LiesBelow}
use Rattle.tetra_mesh.specs.Sides.{OfCells}
use Rattle.tetra_mesh.proofs.numbering.Numbering.reach.Given as goal

abbrev pub invariant-loop-self : goal.invariant-loop-self
invariant-loop-self l = record {
  width : l.self.n ≡ l.fn.self.n;
  numbered : OfCells l.fn.self.n l.sided (λ cells. IsNumbered cells l.fn.self.n l.self);
  below : OfCells l.fn.self.n l.sided (λ cells. LiesBelow cells l.self.ahead l.z);
}

abbrev pub decreases-loop-self : goal.decreases-loop-self
decreases-loop-self l = length l.sided - l.self.ahead
