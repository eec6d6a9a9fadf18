use Rattle.std.proofs.Common.{◌≡◌, ◌+◌}
use Rattle.quad_descent.specs.Nodes.{bits_of}
use Rattle.quad_descent.specs.Scans.{IsAtNext, insides_upto}
use Rattle.quad_descent.proofs.leaf.tell.Given as goal

abbrev pub invariant-loop-lane : goal.invariant-loop-lane
invariant-loop-lane g l = record {
  next : IsAtNext l.fn.b l.scan;
  told : l.scan.told ≡ l.fn.scan.told + g.row.L;
  bits : l.scan.bits ≡ bits_of (insides_upto l.places.view l.places.lattice l.list l.fn.b (l.fn.scan.told + l.lane));
}
