use Rattle.std.proofs.Common.{◌≡◌}
use Rattle.arrayvec.specs.ArrayVec.{array_vec_len}
use Rattle.tetra_mesh.proofs.EdgeLaws.{AreFirst}
use Rattle.tetra_mesh.proofs.shape.Shape.new.Given as goal

abbrev pub invariant-loop-triple : goal.invariant-loop-triple
invariant-loop-triple l = record {
  first : AreFirst l.triples l.triple-index l.edges.items l.triangles.items;
  count : array_vec_len l.triangles ≡ l.triple-index;
}
