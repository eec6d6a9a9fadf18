use Rattle.std.proofs.Common.{◌≡◌, ◌+◌, ◌≤◌}
use Rattle.std.specs.Prelude.{map}
use Rattle.arrayvec.specs.ArrayVec.{array_vec_len}
use Rattle.tetra_mesh.specs.Numbering.{vertex_on}
use Rattle.tetra_mesh.proofs.Bits.{directions_below}
use Rattle.tetra_mesh.proofs.vertices.cell_vertices.Given as goal

abbrev pub invariant-loop-dir : goal.invariant-loop-dir
invariant-loop-dir l = record {
  few : array_vec_len l.vertices + 1 ≤ l.dir;
  items : l.vertices.items ≡ map (vertex_on l.cell) (directions_below l.cell l.dir);
}
