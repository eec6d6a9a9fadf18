use Rattle.std.proofs.Common.{◌≡◌, ◌+◌, ◌++◌}
use Rattle.std.specs.Prelude.{map, take}
use Rattle.arrayvec.specs.ArrayVec.{array_vec_len}
use Rattle.tetra_mesh.specs.Edges.{face_by}
use Rattle.tetra_mesh.proofs.faces.push_triangles.Given as goal

abbrev pub invariant-loop-triangle : goal.invariant-loop-triangle
invariant-loop-triangle l = record {
  long : array_vec_len l.faces ≡ array_vec_len l.fn.faces + l.triangle-index;
  items : l.faces.items ≡ l.fn.faces.items ++ map (face_by l.numbers) (take l.triangle-index l.triangles);
}
