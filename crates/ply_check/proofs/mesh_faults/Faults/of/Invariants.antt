use Rattle.ply_check.specs.Corners.{triples}
use Rattle.ply_check.specs.Faults.{AreClear, AreFaultsBelow}
use Rattle.ply_check.proofs.mesh_faults.Faults.of.Given as goal

abbrev pub invariant-loop-vertex : goal.invariant-loop-vertex
invariant-loop-vertex l = record {
  clear : AreClear l.top l.neighbours.to.items l.neighbours.back.items l.neighbours.next.items;
  found : AreFaultsBelow (triples l.faces) l.top l.vertex l.faults;
}
